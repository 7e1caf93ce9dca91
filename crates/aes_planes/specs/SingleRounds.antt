-- Single rounds: of a block, and of a list of blocks, each under the round key at the same place.
use Rattle.std.specs.Prelude.{ℕ, List}
use Rattle.aes_planes.specs.Planes.{zip_with}
use Rattle.aes_planes.specs.Fips197 as fips

-- a round of Cipher under a round key (5.1)
abbrev pub cipher_round : List ℕ → List ℕ → List ℕ
cipher_round block round_key = fips.add_round_key (fips.mix_columns (fips.shift_rows (fips.sub_bytes block))) round_key

-- a round of EqInvCipher under a round key (5.3.5)
abbrev pub equiv_inv_cipher_round : List ℕ → List ℕ → List ℕ
equiv_inv_cipher_round block round_key =
    fips.add_round_key (fips.inv_mix_columns (fips.inv_shift_rows (fips.inv_sub_bytes block))) round_key

-- a round of each block of a list, under the round key at the same place
abbrev pub rounds_by_place : (List ℕ → List ℕ → List ℕ) → List (List ℕ) → List (List ℕ) → List (List ℕ)
rounds_by_place round blocks round_keys = zip_with round blocks round_keys
