-- Steps on lists of blocks, and the round keys of EqInvCipher.
use Rattle.std.proofs.Common.{◌≡◌, ℕ, ◌<◌, ◌≤◌, List, [], length, get_or, map, sym, ap, ◌∙◌, arith}
use Rattle.std.proofs.lemmas.List.{ext_get_or}
use Rattle.aes_planes.specs.Fips197 as fips
use Rattle.aes_planes.proofs.Lists.{map-ext}
use Rattle.aes_planes.proofs.Standard.EquivalentInverse.{eq_inv_is_inv}
use Rattle.aes_planes.proofs.Standard.InvertedKeys.{inverted_end, inverted_length, inverted_middle}

-- EqInvCipher under inverted round keys decrypts each block as InvCipher does
pub inverse_of_each : (w v : List (List ℕ)) (xs ys : List (List ℕ)) → v ≡ fips.inverted_keys w
    → 2 ≤ length w
    → ys ≡ map (fips.eq_inv_cipher_with v) xs → ys ≡ map (fips.inv_cipher_with w) xs
inverse_of_each w v xs ys is two e = e
    ∙ map-ext _ _ xs (λ b. ap (λ u. fips.eq_inv_cipher_with u b) is
    ∙ eq_inv_is_inv w b two)

-- a list that has each of the inverted round keys
pub all_inverted : (n : ℕ) (w xs : List (List ℕ)) → length xs ≡ n → length w ≡ n
    → ((k : ℕ) → k < n → get_or xs k [] ≡ get_or (fips.inverted_keys w) k [])
    → xs ≡ fips.inverted_keys w
all_inverted n w xs l m each =
    ext_get_or [] xs (fips.inverted_keys w) (l ∙ sym (inverted_length w ∙ m))
    (λ k lt. each k (omega (arith, l)))

-- each of the inverted round keys: the ends as they are, and those between mixed back
pub ruleset inverted_calls = (inverted_end, inverted_middle)
