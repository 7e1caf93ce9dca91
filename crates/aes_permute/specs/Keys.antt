-- Stored round keys of a key, and the key that they are read as.
use Rattle.std.specs.Prelude.{◌≡◌, ◌⊎◌, ℕ, ◌+◌, ◌-◌, ◌*◌, ◌/◌, ◌%◌, List, ◌++◌, drop, length, replicate, take}
use Rattle.aes_planes.specs.Fips197 as fips
use Rattle.aes_planes.specs.Planes.{plus63}
use Rattle.aes_permute.specs.Stored.{as_is, decryption_untower, key_untower, round_keys_of, LaneForm}

-- the form of the round keys of Cipher, whose rounds leave ShiftRows out
abbrev pub cipher_form : LaneForm
cipher_form = record {
  first_byte = as_is;
  inner_byte = key_untower;
  last_byte = plus63;
  placed = λ i s. fips.shift_times (i % 4) s;
  direction_keys = λ w. w;
}

-- the form of the round keys of EqInvCipher, whose rounds leave InvShiftRows out
abbrev pub inverse_form : LaneForm
inverse_form = record {
  first_byte = plus63;
  inner_byte = decryption_untower;
  last_byte = as_is;
  placed = λ i s. fips.inv_shift_times (i % 4) s;
  direction_keys = fips.inverted_keys;
}

-- the round keys that those of Cipher stand for
abbrev pub encrypting : List (List ℕ) → List (List ℕ)
encrypting stored = round_keys_of cipher_form stored

-- the round keys that those of EqInvCipher stand for
abbrev pub decrypting : List (List ℕ) → List (List ℕ)
decrypting stored = round_keys_of inverse_form stored

-- the stored round keys of a key of `size` bytes, from the blocks of room: there are seven more
-- than words of the key
abbrev pub stored_keys : ℕ → List (List ℕ) → List (List ℕ)
stored_keys size blocks = take (size / 4 + 7) blocks

-- how many bytes the key of stored round keys has
abbrev pub lane_key_size : List (List ℕ) → ℕ
lane_key_size stored = 4 * (length stored - 7)

-- the key of `size` bytes with which a key schedule begins
abbrev pub leading_key : ℕ → List (List ℕ) → List ℕ
leading_key size w = take size (fips.round_key w 0 ++ fips.round_key w 1)

-- the key that stored round keys of Cipher are read as
unfoldable pub key_of_lanes : List (List ℕ) → List ℕ
key_of_lanes stored = leading_key (lane_key_size stored) (encrypting stored)

-- the key of `size` bytes that the blocks of room are read as
abbrev pub key_in_room : ℕ → List (List ℕ) → List ℕ
key_in_room size blocks = key_of_lanes (stored_keys size blocks)

-- the blocks of room after the round keys of a key of `size` bytes are zero, so that none of
-- another key's is left there
abbrev pub AreZeroAfter : ℕ → List (List ℕ) → Type 0
AreZeroAfter size blocks = drop (size / 4 + 7) blocks ≡ replicate (15 - (size / 4 + 7)) (replicate 16 0)

-- the stored round keys of Cipher of the key that they are read as, which has 16, 24 or 32 bytes
pub record IsCipherSchedule (stored : List (List ℕ)) : Type 0 where
  pub one_of_three : (length stored ≡ 11) ⊎ ((length stored ≡ 13) ⊎ (length stored ≡ 15))
  pub sized : length (key_of_lanes stored) ≡ lane_key_size stored
  pub bytes : fips.IsBytes (key_of_lanes stored)
  pub keys : encrypting stored ≡ fips.key_expansion (key_of_lanes stored)

-- the stored round keys of EqInvCipher, of the same key
abbrev pub AreInverse : List (List ℕ) → List (List ℕ) → Type 0
AreInverse inverse stored = decrypting inverse ≡ fips.inverted_keys (encrypting stored)
