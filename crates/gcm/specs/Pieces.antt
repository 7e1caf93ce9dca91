-- Messages that come in pieces: what is kept of them, by what has come so far.
use Rattle.std.specs.Prelude.{◌≡◌, ◌≢◌, ℕ, ◌==◌, if◌then◌else◌, ◌*◌, ◌/◌, ◌%◌, ◌⊎◌}
use Rattle.std.specs.Prelude.{List, [], length, replicate, take, drop}
use Rattle.std.specs.Int.{w128, from_be_bytes}
use Rattle.aes_cipher.specs.Blocks.{padded}
use Rattle.gcm.specs.Gcm.{hashed, hash_subkey, pre_counter, IsHashedLength, IsTextLength}
use Rattle.gcm.specs.declared.message_state.Message.{Message}
use Rattle.gcm.specs.declared.message_state.Phase.{Phase}
use Rattle.gcm.specs.declared.message_state.Phase.TheVariants.{NoMessage, Additional, Encrypting}
use Rattle.gcm.specs.declared.message_state.Phase.TheVariants.{Verifying, Decrypting}

-- the phase of a number; every other number is that of no message
unfoldable pub phase_of : ℕ → Phase
phase_of n =
    if n == 1 then Additional
    else if n == 2 then Encrypting
    else if n == 3 then Verifying
    else if n == 4 then Decrypting
    else NoMessage

-- text of a phase may come: it has, or additional data may
abbrev pub IsPhaseAllowed : Phase → Message → Type 0
IsPhaseAllowed wanted m = (phase_of m.phase ≡ Additional) ⊎ (phase_of m.phase ≡ wanted)

-- no text of a phase may come
abbrev pub IsPhaseRefused : Phase → Message → Type 0
IsPhaseRefused wanted m = (phase_of m.phase ≢ Additional) × (phase_of m.phase ≢ wanted)

-- GHASH, from the value y on, after the whole blocks of a string, and the bytes of it after them
pub record IsHashing (h y : ℕ) (s : List ℕ) (v : ℕ) (block : List ℕ) : Type 0 where
  pub value : v ≡ hashed h y s (length s / 16)
  pub rest : take (length s % 16) block ≡ drop (16 * (length s / 16)) s

-- GHASH of additional data, followed by zeros that fill its last block
unfoldable pub hashed_padded : ℕ → List ℕ → ℕ
hashed_padded h a = hashed h 0 (padded a) (length (padded a) / 16)

-- under the round keys w and the nonce iv, the additional data a has come, and more may come
pub record IsBegun (w : List (List ℕ)) (iv a : List ℕ) (m : Message) : Type 0 where
  pub phase : phase_of m.phase ≡ Additional
  pub first : from_be_bytes w128 m.first ≡ pre_counter (hash_subkey w) iv
  pub additional : m.additional ≡ length a
  pub short : IsHashedLength (length a)
  pub text : m.text ≡ 0
  pub decrypted : m.decrypted ≡ 0
  pub hashing : IsHashing (hash_subkey w) 0 a (from_be_bytes w128 m.value) m.rest

-- the additional data a has come and then the cipher text c, and more of it may come in the same
-- phase
pub record IsInText (wanted : Phase) (w : List (List ℕ)) (iv a c : List ℕ)
    (m : Message) : Type 0 where
  pub phase : phase_of m.phase ≡ wanted
  pub first : from_be_bytes w128 m.first ≡ pre_counter (hash_subkey w) iv
  pub additional : m.additional ≡ length a
  pub short : IsHashedLength (length a)
  pub text : m.text ≡ length c
  pub short_text : IsTextLength (length c)
  pub decrypted : m.decrypted ≡ 0
  pub hashing : IsHashing (hash_subkey w) (hashed_padded (hash_subkey w) a) c
      (from_be_bytes w128 m.value) m.rest

-- a message to which text of a phase may come: one that has begun, or one in that text
abbrev pub IsAt : Phase → List (List ℕ) → List ℕ → List ℕ → List ℕ → Message → Type 0
IsAt wanted w iv a c m = (IsBegun w iv a m × (c ≡ [])) ⊎ IsInText wanted w iv a c m

-- a message to which text may come that is encrypted
abbrev pub IsEncrypting : List (List ℕ) → List ℕ → List ℕ → List ℕ → Message → Type 0
IsEncrypting = IsAt Encrypting

-- a message to which text may come whose tag is compared
abbrev pub IsVerifying : List (List ℕ) → List ℕ → List ℕ → List ℕ → Message → Type 0
IsVerifying = IsAt Verifying

-- the tag of a cipher text of n bytes was right, and c has come once more of it
pub record IsDecrypting (w : List (List ℕ)) (iv : List ℕ) (n : ℕ) (c : List ℕ)
    (m : Message) : Type 0 where
  pub phase : phase_of m.phase ≡ Decrypting
  pub first : from_be_bytes w128 m.first ≡ pre_counter (hash_subkey w) iv
  pub text : m.text ≡ n
  pub decrypted : m.decrypted ≡ length c

-- what a message keeps while its text comes once more, to be decrypted: all but how much has come
pub record KeepsParts (before after : Message) : Type 0 where
  pub first : after.first ≡ before.first
  pub additional : after.additional ≡ before.additional
  pub text : after.text ≡ before.text
  pub value : after.value ≡ before.value
  pub rest : after.rest ≡ before.rest

-- nothing is left of a message
abbrev pub no_message : Message
no_message =
    record {
      additional = 0;
      text = 0;
      decrypted = 0;
      phase = 0;
      first = replicate 16 0;
      value = replicate 16 0;
      rest = replicate 16 0;
    }
