-- The struct that a caller keeps: a key, and the multiples of its H.
use Rattle.std.specs.Prelude.{◌≡◌, ℕ, ◌<◌, List}
use Rattle.aes_planes.specs.Fips197 as fips
use Rattle.gcm.specs.Gcm.{hash_subkey, IsHashedLength}
use Rattle.gcm_c.specs.Form.{key_in, no_key, no_room, subkey_of, HoldsKey, IsKept, IsRoom}
use Rattle.gcm_c.specs.declared.kept.Gcm.{Gcm}

-- the round keys of a struct
abbrev pub round_keys_in : Gcm → List (List ℕ)
round_keys_in gcm = fips.key_expansion (key_in gcm.key)

-- a struct in order, as set_key and wipe leave it, and as zeros are: so is its key, and if it holds
-- one, the multiples are those of its H
pub record IsMade (gcm : Gcm) : Type 0 where
  pub key : IsKept gcm.key
  pub multiples_made : HoldsKey gcm.key → IsRoom gcm.multiples
  pub subkey : HoldsKey gcm.key → subkey_of gcm.multiples ≡ hash_subkey (round_keys_in gcm)

-- the struct of zeros, which holds no key
abbrev pub no_gcm : Gcm
no_gcm = record { key = no_key; multiples = no_room }

-- a number of bytes that a nonce can have (SP 800-38D, 5.2.1.1)
abbrev pub IsNonceLength : ℕ → Type 0
IsNonceLength n = (0 < n) × IsHashedLength n
