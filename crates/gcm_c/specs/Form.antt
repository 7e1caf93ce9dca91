-- What is said of a key that is kept in this build's form: what it is (key_in), that there is one
-- (HoldsKey), that its struct is in order (IsKept), that zeros follow its round keys
-- (IsZeroAfter), and the struct that holds none (no_key); and what a struct of the library of
-- blocks keeps to encrypt (key_of).
use Rattle.std.specs.Prelude.{ℕ, List, replicate}
use Rattle.gcm.specs.Multiples.{subkey_in, HasMultiples}
use Rattle.aes_hybrid.specs.declared.kept_key.KeptBothWays.{KeptBothWays}
pub use Rattle.aes_hybrid.specs.declared.kept_key.KeptKey.{KeptKey}
pub use Rattle.aes_hybrid.specs.KeptKey.{key_in, no_key, HoldsKey, IsKept, IsZeroAfter}

-- room of zeros for what tags are made with
abbrev pub no_room : List (List ℕ)
no_room = replicate 96 (replicate 16 0)

-- room in which what tags are made with stands
abbrev pub IsRoom : List (List ℕ) → Type 0
IsRoom = HasMultiples

-- the block H of such room
abbrev pub subkey_of : List (List ℕ) → ℕ
subkey_of = subkey_in

-- the key of a struct of the library of blocks
abbrev pub key_of : KeptBothWays → KeptKey
key_of aes = aes.key
