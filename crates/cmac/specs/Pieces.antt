-- Strings that come in pieces: what is kept of them, by what has come so far.
use Rattle.std.specs.Prelude.{◌≡◌, ℕ, ◌-◌, ◌*◌, List, length, replicate, take, drop}
use Rattle.cmac.specs.Chain.{chained}
use Rattle.cmac.specs.Cmac.{before_last}
use Rattle.cmac.specs.declared.chain_in_pieces.ChainInPieces.{ChainInPieces}
use Rattle.cmac.specs.declared.pieces.Message.{Message}

-- of a chain from the value y on, the string s has come: its last block, of 1 to 16 bytes, is kept
-- as it is, with the value after the blocks before it
pub record IsChaining (w : List (List ℕ)) (y s : List ℕ) (c : ChainInPieces) : Type 0 where
  pub value : c.value ≡ chained w y s (before_last (length s))
  pub rest_length : c.rest_length ≡ length s - 16 * before_last (length s)
  pub rest : take c.rest_length c.rest ≡ drop (16 * before_last (length s)) s

-- a message has begun, and isn't over
abbrev pub HasBegun : Message → Type 0
HasBegun m = m.begun ≡ 1

-- under the round keys w, the message s has come so far
pub record IsBegun (w : List (List ℕ)) (s : List ℕ) (m : Message) : Type 0 where
  pub begun : HasBegun m
  pub chaining : IsChaining w (replicate 16 0) s m.chain

-- nothing is left of a chain
abbrev pub no_chain : ChainInPieces
no_chain = record { rest_length = 0; value = replicate 16 0; rest = replicate 16 0 }

-- nothing is left of a message
abbrev pub no_message : Message
no_message = record { begun = 0; chain = no_chain }
