-- A key that is kept: how many bytes it has, and its stored round keys as planes in words.
use Rattle.std.specs.Prelude.{◌≡◌, ℕ, ◌-◌, List, drop, replicate, take}
use Rattle.aes_cipher.specs.KeySizes.{IsKeySize}
use Rattle.aes_soft.specs.Stored.{key_of_planes, words_for, IsFullSchedule}
use Rattle.aes_narrow.specs.KeptWord.{kept_bits, kept_blocks}
use Rattle.aes_narrow.specs.declared.kept_key.KeptKey.{KeptKey}

-- the struct that holds no key
abbrev pub no_key : KeptKey
no_key = record { length = 0; round_keys = replicate 120 0 }

-- whether a key is kept
abbrev pub HoldsKey : KeptKey → Type 0
HoldsKey kept = IsKeySize kept.length

-- the words of its stored round keys
abbrev pub words_in : KeptKey → List ℕ
words_in kept = take (words_for kept.length) kept.round_keys

-- the key that is kept
abbrev pub key_in : KeptKey → List ℕ
key_in kept = key_of_planes kept_bits kept_blocks (words_in kept)

-- a struct in order: if it holds a key, its words begin with the stored round keys of that key
pub record IsKept (kept : KeptKey) : Type 0 where
  pub schedule : HoldsKey kept → IsFullSchedule kept_bits kept_blocks (words_in kept)

-- nothing of another key is left after the round keys
abbrev pub IsZeroAfter : KeptKey → Type 0
IsZeroAfter kept =
    drop (words_for kept.length) kept.round_keys ≡ replicate (120 - words_for kept.length) 0
