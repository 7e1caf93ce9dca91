-- The reply to a line: what its command makes of its words, or the first fault.
use Rattle.std.specs.Prelude.{ℕ, List, [], ◌∷◌, Bool, true, false, codes, Option, Some, None, Result, Ok, Err, length}
use Rattle.std.specs.Prelude.{map, ◌*◌, ◌/◌, ◌%◌, ◌==◌, ◌&&◌, ◌||◌, nat_le, if◌then◌else◌}
use Rattle.std.specs.Str.{bytes_eq}
use Rattle.std.specs.List.{join_with_byte, flat_map}
use Rattle.std.specs.Simd.{first_chunks}
use Rattle.hex.specs.Hex.{decode_of, encode_lower}
use Rattle.hex.specs.declared.error.FromHexError.{FromHexError}
use Rattle.aes_planes.specs.Fips197 as fips
use Rattle.aes_planes.specs.SingleRounds.{cipher_round, equiv_inv_cipher_round}
use Rattle.aes_kat.specs.declared.faults.Fault.{Fault}
use Rattle.aes_kat.specs.declared.faults.Fault.TheVariants as fault
use Rattle.aes_kat.specs.declared.command_names.Command.{Command}
use Rattle.aes_kat.specs.declared.command_names.Command.TheVariants.{Encrypt, Decrypt, Round, InverseRound, Mix, InverseMix}
use Rattle.aes_kat.specs.declared.command_names.Command.TheVariants.{Schedule}
use Rattle.aes_kat.specs.Lines.{words_of}

-- the line that reports a fault
abbrev pub message_of : Fault → List ℕ
message_of fault.Command = codes "error command"
message_of fault.Hex = codes "error hex"
message_of fault.Key = codes "error key"
message_of fault.Block = codes "error block"

-- the first fault of some steps is their outcome
infixl 10 ◌>>=◌
abbrev pub ◌>>=◌ : {A B : Type 0} → Result A Fault → (A → Result B Fault) → Result B Fault
Ok x >>= f = f x
Err problem >>= f = Err problem

-- ---- commands

-- the first word of a command's lines
abbrev pub name_of : Command → List ℕ
name_of Encrypt = codes "enc"
name_of Decrypt = codes "dec"
name_of Round = codes "round"
name_of InverseRound = codes "invround"
name_of Mix = codes "mix"
name_of InverseMix = codes "invmix"
name_of Schedule = codes "sched"

-- every command
abbrev pub commands : List Command
commands = Encrypt ∷ Decrypt ∷ Round ∷ InverseRound ∷ Mix ∷ InverseMix ∷ Schedule ∷ []

-- the first of some commands that has the given name
unfoldable pub first_named : List ℕ → List Command → Option Command
first_named name [] = None
first_named name (command ∷ more) = if bytes_eq (name_of command) name then Some command else first_named name more

-- the command that a word names
abbrev pub command_of : List ℕ → Option Command
command_of name = first_named name commands

-- the command, or a fault if there is none
abbrev pub or_command_fault : Option Command → Result Command Fault
or_command_fault (Some command) = Ok command
or_command_fault None = Err fault.Command

-- whether one word may follow a command
abbrev pub takes_one : Command → Bool
takes_one Encrypt = true
takes_one Decrypt = true
takes_one Round = false
takes_one InverseRound = false
takes_one Mix = true
takes_one InverseMix = true
takes_one Schedule = true

-- whether two words may follow a command
abbrev pub takes_two : Command → Bool
takes_two Encrypt = true
takes_two Decrypt = true
takes_two Round = true
takes_two InverseRound = true
takes_two Mix = false
takes_two InverseMix = false
takes_two Schedule = false

-- what a line asks for: a command and the words after it, the second empty if there is none
pub record Request : Type 0 where
  pub command : Command
  pub first : List ℕ
  pub second : List ℕ

-- what is asked, if the command takes that many words
abbrev pub request_if : Bool → Request → Result Request Fault
request_if true asked = Ok asked
request_if false asked = Err fault.Command

-- what a line of these words asks for
unfoldable pub request_of : List (List ℕ) → Result Request Fault
unfolding first_named
request_of (name ∷ first ∷ []) = do
  command ← or_command_fault (command_of name)
  request_if (takes_one command) (record { command = command; first = first; second = [] })
request_of (name ∷ first ∷ second ∷ []) = do
  command ← or_command_fault (command_of name)
  request_if (takes_two command) (record { command = command; first = first; second = second })
request_of _ = Err fault.Command

-- ---- the bytes of the words after a command

-- what decoding gave, its error a fault of digits
abbrev pub or_hex_fault : Result (List ℕ) FromHexError → Result (List ℕ) Fault
or_hex_fault (Ok bytes) = Ok bytes
or_hex_fault (Err error) = Err fault.Hex

-- the bytes of a word
abbrev pub bytes_of : List ℕ → Result (List ℕ) Fault
bytes_of word = or_hex_fault (decode_of word)

-- whether a key may have this many bytes
abbrev pub is_key_size : ℕ → Bool
is_key_size size = (size == 16) || (size == 24) || (size == 32)

-- the bytes, if they are as many as those of a key
abbrev pub key_operand : List ℕ → Result (List ℕ) Fault
key_operand bytes = if is_key_size (length bytes) then Ok bytes else Err fault.Key

-- the bytes, if they are the sixteen of a block
abbrev pub block_operand : List ℕ → Result (List ℕ) Fault
block_operand bytes = if length bytes == 16 then Ok bytes else Err fault.Block

-- whether whole blocks, 64 at most, may have this many bytes
abbrev pub is_size_of_blocks : ℕ → Bool
is_size_of_blocks size = (size % 16 == 0) && nat_le size (16 * 64)

-- the blocks that the bytes are, if they are whole blocks and 64 at most
abbrev pub blocks_operand : List ℕ → Result (List (List ℕ)) Fault
blocks_operand bytes =
    if is_size_of_blocks (length bytes) then Ok (first_chunks 16 (length bytes / 16) bytes) else Err fault.Block

-- ---- answers

-- a cipher of each block under a key, in hexadecimal digits, joined
abbrev pub block_by_block : (List ℕ → List ℕ → List ℕ) → List ℕ → List ℕ → Result (List ℕ) Fault
block_by_block cipher key_bytes block_bytes = do
  key ← key_operand key_bytes
  blocks ← blocks_operand block_bytes
  Ok (flat_map encode_lower (map (cipher key) blocks))

-- the answer of a command to the bytes of the words after it
unfoldable pub answer_of : Command → List ℕ → List ℕ → Result (List ℕ) Fault
answer_of Encrypt key_bytes block_bytes = block_by_block fips.cipher key_bytes block_bytes
answer_of Decrypt key_bytes block_bytes = block_by_block fips.inv_cipher key_bytes block_bytes
answer_of Round block_bytes key_bytes = do
  block ← block_operand block_bytes
  key ← block_operand key_bytes
  Ok (encode_lower (cipher_round block key))
answer_of InverseRound block_bytes key_bytes = do
  block ← block_operand block_bytes
  key ← block_operand key_bytes
  Ok (encode_lower (equiv_inv_cipher_round block key))
answer_of Mix block_bytes none = do
  block ← block_operand block_bytes
  Ok (encode_lower (fips.mix_columns block))
answer_of InverseMix block_bytes none = do
  block ← block_operand block_bytes
  Ok (encode_lower (fips.inv_mix_columns block))
answer_of Schedule key_bytes none = do
  key ← key_operand key_bytes
  Ok (join_with_byte 32 (map encode_lower (fips.key_expansion key)))

-- the answer to a line, or the first fault of its command, digits, key and block
unfoldable pub outcome_of : List ℕ → Result (List ℕ) Fault
unfolding request_of answer_of
outcome_of line = do
  asked ← request_of (words_of line)
  first ← bytes_of asked.first
  second ← bytes_of asked.second
  answer_of asked.command first second

-- ---- replies

-- the answer, or the message of the fault
abbrev pub text_of : Result (List ℕ) Fault → List ℕ
text_of (Ok answer) = answer
text_of (Err problem) = message_of problem

-- whether there is a fault
abbrev pub is_err : Result (List ℕ) Fault → Bool
is_err (Ok answer) = false
is_err (Err problem) = true

-- the reply to a line, without its line end
unfoldable pub reply_to : List ℕ → List ℕ
unfolding outcome_of
reply_to line = text_of (outcome_of line)

-- whether the reply to a line reports a fault
unfoldable pub is_fault : List ℕ → Bool
unfolding outcome_of
is_fault line = is_err (outcome_of line)
