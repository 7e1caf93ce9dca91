-- A key that is kept: how many bytes it has, and its stored round keys, for one direction or for
-- both.
use Rattle.std.specs.Prelude.{ℕ, List, replicate}
use Rattle.aes_planes.specs.Fips197 as fips
use Rattle.aes_cipher.specs.KeySizes.{IsKeySize}
use Rattle.aes_permute.specs.Keys.{key_in_room, stored_keys, AreInverse, AreZeroAfter, IsCipherSchedule}
use Rattle.aes_hybrid.specs.declared.kept_key.KeptKey.{KeptKey}
use Rattle.aes_hybrid.specs.declared.kept_key.KeptBothWays.{KeptBothWays}

-- room of zeros
abbrev pub zeros : List (List ℕ)
zeros = replicate 15 (replicate 16 0)

-- the struct that holds no key
abbrev pub no_key : KeptKey
no_key = record { length = 0; round_keys = zeros }

-- the struct for both directions that holds no key
abbrev pub no_key_both_ways : KeptBothWays
no_key_both_ways = record { key = no_key; decrypting = zeros }

-- whether a key is kept
abbrev pub HoldsKey : KeptKey → Type 0
HoldsKey kept = IsKeySize kept.length

-- the key that is kept
abbrev pub key_in : KeptKey → List ℕ
key_in kept = key_in_room kept.length kept.round_keys

-- the round keys of the key that is kept
abbrev pub round_keys_in : KeptKey → List (List ℕ)
round_keys_in kept = fips.key_expansion (key_in kept)

-- a struct in order: if it holds a key, its blocks begin with the stored round keys of that key
pub record IsKept (kept : KeptKey) : Type 0 where
  pub schedule : HoldsKey kept → IsCipherSchedule (stored_keys kept.length kept.round_keys)

-- nothing of another key is left after the round keys
abbrev pub IsZeroAfter : KeptKey → Type 0
IsZeroAfter kept = AreZeroAfter kept.length kept.round_keys

-- a struct for both directions in order
pub record IsKeptBothWays (kept : KeptBothWays) : Type 0 where
  pub forward : IsKept kept.key
  pub inverse : HoldsKey kept.key
      → AreInverse (stored_keys kept.key.length kept.decrypting)
      (stored_keys kept.key.length kept.key.round_keys)

-- nothing of another key is left after the round keys of either direction
abbrev pub IsZeroAfterBoth : KeptBothWays → Type 0
IsZeroAfterBoth kept = IsZeroAfter kept.key × AreZeroAfter kept.key.length kept.decrypting
