-- The inverse by halves: that each look-up is at an index, and what comes of it.
use Rattle.std.proofs.Common.{◌≡◌, ℕ, true, bit_xor, List, [], ◌∷◌, map, refl, ap, sym, subst, ◌∙◌}
use Rattle.std.proofs.lemmas.Simd.{map-map, zip2_of_maps}
use lib.Lanes.{zip2}
use Rattle.aes_planes.specs.Fips197.{IsBlock}
use Rattle.aes_planes.proofs.Bits.ByteCases.{all_below}
use Rattle.aes_permute.specs.Lookup.{looked, is_index, low_nibble, high_nibble, AreIndices}
use Rattle.aes_permute.specs.TwoIndices.{both_nibbles, inverse_over, first_of, second_of, at_indices}
use Rattle.aes_permute.specs.declared.tables.TheConstants.{INVERSE, SCALED_INVERSE}
use Rattle.aes_permute.proofs.Lookups.{each_passes}

-- ---- lanes that are made of the bytes of a block

-- a look-up of f of each byte is one map
looked_of : (f : ℕ → ℕ) (t x : List ℕ) {y z : List ℕ} → z ≡ map (looked t) y → y ≡ map f x
    → z ≡ map (λ b. looked t (f b)) x
looked_of f t x e made = e ∙ ap (map (looked t)) made ∙ map-map (looked t) f x

-- a sum of two maps of the same bytes is one map
pub zip_of_maps : (f h : ℕ → ℕ) (x : List ℕ) {y v z : List ℕ} → z ≡ zip2 bit_xor y v → y ≡ map f x
    → v ≡ map h x
    → z ≡ map (λ b. bit_xor (f b) (h b)) x
zip_of_maps f h x e first second = e ∙ zip2_of_maps bit_xor f h x first second

-- the sum of which the second inverse is looked up
abbrev pub second_sum : (ℕ → ℕ) → ℕ → ℕ
second_sum f b = bit_xor (looked INVERSE (f b)) (looked SCALED_INVERSE (low_nibble b))

-- the sum of which the second inverse is looked up, as the code makes it
pub over_is : (f : ℕ → ℕ) (x : List ℕ) {y low inverse scaled z : List ℕ} → y ≡ map f x
    → low ≡ map low_nibble x
    → inverse ≡ map (looked INVERSE) y → scaled ≡ map (looked SCALED_INVERSE) low
    → z ≡ zip2 bit_xor inverse scaled
    → z ≡ map (second_sum f) x
over_is f x is_y is_low at_y at_low e =
    zip_of_maps (λ b. looked INVERSE (f b)) (λ b. looked SCALED_INVERSE (low_nibble b)) x e
    (looked_of f INVERSE x at_y is_y)
    (looked_of low_nibble SCALED_INVERSE x at_low is_low)

-- the index that the second inverse gives: that inverse, plus another function of the byte
pub index_is : (f h : ℕ → ℕ) (x : List ℕ) {sum at v z : List ℕ} → sum ≡ map (second_sum f) x
    → at ≡ map (looked INVERSE) sum
    → v ≡ map h x → z ≡ zip2 bit_xor at v → z ≡ map (λ b. bit_xor (inverse_over f b) (h b)) x
index_is f h x is_sum is_at is_v e =
    zip_of_maps (inverse_over f) h x e (looked_of (second_sum f) INVERSE x is_at is_sum) is_v

-- ---- that they are indices

-- what is made of bytes are indices, if a test of all bytes says so
pub made_indices : (f : ℕ → ℕ) → all_below 256 (λ b. is_index (f b)) ≡ true
    → (x : List ℕ) {y : List ℕ} → IsBlock x
    → y ≡ map f x → AreIndices y
made_indices f test x h e = subst AreIndices (sym e) (each_passes is_index f test x h.1)

-- each number by which the code looks up is an index, by all bytes: first the low nibble
pub low_cases : all_below 256 (λ b. is_index (low_nibble b)) ≡ true
unfolding all_below is_index
low_cases = refl

-- the high nibble of each byte is an index
pub high_cases : all_below 256 (λ b. is_index (high_nibble b)) ≡ true
unfolding all_below is_index
high_cases = refl

-- the sum of both nibbles of each byte is an index
pub both_cases : all_below 256 (λ b. is_index (both_nibbles b)) ≡ true
unfolding all_below is_index
both_cases = refl

-- the second sum over the high nibble is an index
pub over_high_cases : all_below 256 (λ b. is_index (second_sum high_nibble b)) ≡ true
unfolding all_below is_index
over_high_cases = refl

-- the second sum over the sum of both nibbles is an index
pub over_both_cases : all_below 256 (λ b. is_index (second_sum both_nibbles b)) ≡ true
unfolding all_below is_index
over_both_cases = refl

-- the first of the two indices that are found for a byte is an index
pub first_cases : all_below 256 (λ b. is_index (first_of b)) ≡ true
unfolding all_below is_index first_of
first_cases = refl

-- the second of these indices is an index
pub second_cases : all_below 256 (λ b. is_index (second_of b)) ≡ true
unfolding all_below is_index second_of
second_cases = refl

-- ---- what is looked up at two indices

-- the sum of two look-ups in each lane is what two tables have at two indices, lane by lane
pub places_looked_up : (t u xs ys : List ℕ)
    → zip2 bit_xor (map (looked t) xs) (map (looked u) ys) ≡ zip2 (at_indices t u) xs ys
places_looked_up t u [] ys = refl
places_looked_up t u (x ∷ xs) [] = refl
places_looked_up t u (x ∷ xs) (y ∷ ys) =
    ap (λ v. bit_xor (looked t x) (looked u y) ∷ v) (places_looked_up t u xs ys)
