-- Stored round keys of Cipher turned into those of EqInvCipher.
use Rattle.std.proofs.Common.{◌≡◌, inl, inr, ℕ, ◌-◌, ◌%◌, ◌<◌, ◌≤◌, List, [], length, map, map-id}
use Rattle.std.proofs.Common.{get_or, ap, refl, sym, ◌∙◌, arith}
use Rattle.aes_planes.specs.Fips197 as fips
use Rattle.aes_planes.specs.Planes.{plus63}
use Rattle.aes_planes.proofs.Standard.InvertedKeys.{inverted_length, inverted_end, inverted_middle}
use Rattle.aes_permute.specs.Keys.{cipher_form, inverse_form}
use Rattle.aes_permute.specs.Stored.{decryption_untower, key_untower, round_keys_of}
use Rattle.aes_permute.proofs.StoredStates.{length-round_keys_of, first_key, inner_key, last_key, stored_are}

-- place k of the new keys is place last - k of the old, its columns mixed back, each with its rows
-- shifted to where they belong
abbrev pub Unmixed : List (List ℕ) → List (List ℕ) → ℕ → Type 0
Unmixed old new k = fips.inv_shift_times (k % 4) (map decryption_untower (get_or new k []))
    ≡ fips.inv_mix_columns (fips.shift_times ((length old - 1 - k) % 4)
    (map key_untower (get_or old (length old - 1 - k) [])))

-- place k of the new keys is place last - k of the old
abbrev pub Moved : List (List ℕ) → List (List ℕ) → ℕ → Type 0
Moved old new k = get_or new k [] ≡ get_or old (length old - 1 - k) []

-- stored round keys of Cipher, in reverse and mixed back between the ends, stand for the inverted
-- ones
pub inverted_stored : (old new : List (List ℕ)) → 2 ≤ length old → length new ≡ length old
    → ((k : ℕ) → 1 ≤ k → k < length old - 1 → Unmixed old new k)
    → Moved old new 0 → Moved old new (length old - 1)
    → round_keys_of inverse_form new ≡ fips.inverted_keys (round_keys_of cipher_form old)
inverted_stored old new two l inner start end =
    let w = round_keys_of cipher_form old in
    let v = fips.inverted_keys w in
    let n = fips.last_round w in
    let long : length w ≡ length old = length-round_keys_of cipher_form old in
    let back : length v ≡ length w = inverted_length w in
    let last : n ≡ length old - 1 = ap (λ m. m - 1) long in
    let same : fips.last_round v ≡ n = ap (λ m. m - 1) back in
    let none : 0 ≡ n - n = omega arith in
    stored_are inverse_form new v (omega (arith, long, back, two)) (l ∙ sym (back ∙ long))
    (ap (map plus63) start ∙ sym (last_key cipher_form old (length old - 1 - 0) two (omega arith))
    ∙ ap (λ m. fips.round_key w (m - 0)) (sym last)
    ∙ inverted_end w 0 (omega (arith, long, two)) (inl refl))
    (λ i some below.
    let up : i < n = omega (arith, below, same) in
    inner i some (omega (arith, up, last))
    ∙ ap fips.inv_mix_columns
    (sym (inner_key cipher_form old (length old - 1 - i) (omega (arith, up, last))
    (omega (arith, some, up, last))) ∙ ap (λ m. fips.round_key w (m - i)) (sym last))
    ∙ inverted_middle w i (omega (arith, up)) (omega (arith, some)) (omega (arith, up)))
    (map-id _ ∙ ap (fips.round_key new) (same ∙ last) ∙ end
    ∙ ap (λ m. fips.round_key old (m - m)) (sym last)
    ∙ ap (fips.round_key old) (sym none) ∙ sym (map-id (fips.round_key old 0))
    ∙ sym (first_key cipher_form old (omega (arith, two))) ∙ ap (fips.round_key w) none
    ∙ inverted_end w n (omega (arith, long, two)) (inr refl) ∙ ap (fips.round_key v) (sym same))
