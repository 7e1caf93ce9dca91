-- The laws of the two directions.
use Rattle.std.proofs.Common.{◌≡◌, ℕ, ◌≤◌, List, length, refl, ◌∙◌}
use Rattle.aes_planes.specs.Fips197 as fips
use Rattle.aes_planes.specs.Rounds.{all_rounds}
use Rattle.aes_planes.proofs.Standard.AllRounds.{cipher_is, eq_inv_cipher_is}
use Rattle.aes_planes.proofs.Standard.EquivalentInverse.{eq_inv_is_inv}

-- ---- Cipher

-- Cipher uses as many round keys as the list has
pub same_forward : (w : List (List ℕ)) → length w ≡ length w
same_forward w = refl

-- the rounds of Cipher, one after another under a list of round keys, are the standard's cipher
-- under it
pub cipher_by_rounds : (w : List (List ℕ)) (b : List ℕ) → 2 ≤ length w
    → all_rounds (λ b. fips.mix_columns (fips.shift_rows (fips.sub_bytes b)))
    (λ b. fips.shift_rows (fips.sub_bytes b))
    w b ≡ fips.cipher_with w b
cipher_by_rounds w b two = cipher_is w b

-- ---- EqInvCipher

-- the rounds of EqInvCipher, under inverted round keys, are the standard's inverse cipher under the
-- list
pub inv_cipher_by_rounds : (w : List (List ℕ)) (b : List ℕ) → 2 ≤ length w
    → all_rounds (λ b. fips.inv_mix_columns (fips.inv_shift_rows (fips.inv_sub_bytes b)))
    (λ b. fips.inv_shift_rows (fips.inv_sub_bytes b)) (fips.inverted_keys w) b
    ≡ fips.inv_cipher_with w b
inv_cipher_by_rounds w b two = eq_inv_cipher_is (fips.inverted_keys w) b ∙ eq_inv_is_inv w b two
