-- InvMixColumns as MixColumns after a matrix with 5, 0, 4, 0 in its first row, with the bytes where
-- they are.
use Rattle.std.proofs.Common.{◌≡◌, ℕ, ◌+◌, ◌%◌, ◌<◌, ◌==◌, true}
use Rattle.std.proofs.Common.{bit_xor, List, [], ◌∷◌, length, map, map-id, replicate, refl, ap, sym}
use Rattle.std.proofs.Common.{◌∙◌, arith}
use Rattle.std.proofs.lemmas.List.{length-map}
use Rattle.std.proofs.lemmas.Simd.{map-map, zip2_splat}
use lib.Lanes.{zip2}
use Rattle.aes_planes.specs.Fips197.{field_add, field_mul, build, state}
use Rattle.aes_planes.specs.Fips197.{row_by_column, mix_row, inv_mix_row, mix_columns, shift_rows}
use Rattle.aes_planes.specs.Fips197.{shift_times}
use Rattle.aes_planes.specs.Fips197.{inv_mix_columns, add_round_key, IsBytes, IsBlock}
use Rattle.aes_planes.proofs.Bits.ByteCases.{all_below, by_four}
use Rattle.aes_planes.proofs.Lists.{map-ext, same_on_block}
use Rattle.aes_planes.proofs.Mixing.MixColumns.{inv_mix_block}
use Rattle.aes_planes.proofs.Standard.FieldLaws.{add_swap, add_zero, field_mul_add}
use Rattle.aes_planes.proofs.Standard.LinearSteps.{add_columns, agree_on_powers, column, first_rows}
use Rattle.aes_planes.proofs.Standard.LinearSteps.{linear_maps_agree, matrix, matrix_add}
use Rattle.aes_planes.proofs.Standard.LinearSteps.{only, shift_map, LinearMap}
use Rattle.aes_planes.proofs.Standard.States.{state_same}
use Rattle.aes_planes.proofs.Standard.Steps.{length-shift_times}
use Rattle.aes_cipher.proofs.BlockNumbers.{blocks_summed}
use Rattle.aes_permute.specs.Lookup.{by_nibbles}
use Rattle.aes_permute.specs.MixedRows.{mixed_at, permuted, places_in}
use Rattle.aes_permute.specs.Stored.{inv_untower, decryption_untower}
use Rattle.aes_permute.specs.declared.tables.TheConstants.{INV_DOUBLE_LOW}
use Rattle.aes_permute.specs.declared.tables.TheConstants.{INV_DOUBLE_HIGH, KEY_5_LOW, KEY_5_HIGH}
use Rattle.aes_permute.specs.declared.tables.TheConstants.{KEY_4_LOW, KEY_4_HIGH}
use Rattle.aes_permute.specs.declared.tables.TheConstants.{NEXT_ROW_BUT_ONE}
use Rattle.aes_permute.proofs.DeferredRows.{before, made_up, times_block, times_map}
use Rattle.aes_permute.proofs.Linear.{decryption_untower_three, inv_untower_sum, Makes}
use Rattle.aes_permute.proofs.Lookups.{map-ext_by_test}
use Rattle.aes_permute.proofs.RoundLanes.{mix_products, mixed_of, sums_mixed}

-- ---- what is looked up

-- what f makes of a byte stands for the product of n and g of the byte, by all bytes
abbrev pub MakesProduct : ℕ → (ℕ → ℕ) → (ℕ → ℕ) → Type 0
MakesProduct n f g = all_below 256 (λ b. inv_untower (f b) == field_mul n (g b)) ≡ true

-- what f makes of each byte stands for the products, if it does so by all bytes
pub products_are : (n : ℕ) (f g : ℕ → ℕ) → MakesProduct n f g → (x : List ℕ) → IsBytes x
    → map inv_untower (map f x) ≡ map (field_mul n) (map g x)
products_are n f g made x h =
    map-map inv_untower f x
    ∙ map-ext_by_test (λ b. inv_untower (f b)) (λ b. field_mul n (g b)) made x h
    ∙ sym (map-map (field_mul n) g x)

-- what is looked up of a round key by nibbles stands for the products of n and its bytes, if it does
-- so by all bytes
pub key_multiplied : (n : ℕ) (t u x : List ℕ) {y : List ℕ}
    → MakesProduct n (by_nibbles t u) (λ b. b) → IsBytes x → y ≡ map (by_nibbles t u) x
    → map inv_untower y ≡ map (field_mul n) x
key_multiplied n t u x made h e =
    ap (map inv_untower) e ∙ products_are n (by_nibbles t u) (λ b. b) made x h
    ∙ ap (map (field_mul n)) (map-id x)

-- the products of a round key with 5 are looked up
pub key_made_5 : MakesProduct 5 (by_nibbles KEY_5_LOW KEY_5_HIGH) (λ b. b)
unfolding all_below field_mul
key_made_5 = refl

-- the products of a round key with 4 are looked up
pub key_made_4 : MakesProduct 4 (by_nibbles KEY_4_LOW KEY_4_HIGH) (λ b. b)
unfolding all_below field_mul
key_made_4 = refl

-- the double of a byte, by two look-ups
abbrev pub doubled : ℕ → ℕ
doubled b = by_nibbles INV_DOUBLE_LOW INV_DOUBLE_HIGH b

-- the products of MixColumns, each with 0x63
doubles_made : Makes decryption_untower inv_untower (mix_products (λ b. b) doubled 0x63 0x63 0x63)
unfolding all_below decryption_untower field_mul
doubles_made = refl

-- ---- InvMixColumns is MixColumns after the matrix whose first row is 5, 0, 4, 0

-- that matrix times a column
abbrev half : (ℕ → ℕ) → ℕ → ℕ
half v r = field_add (field_mul 5 (v r)) (field_mul 4 (v ((r + 2) % 4)))

-- it is linear
half_add : LinearMap half
half_add v w = λ i r. (ap (λ a. field_add a (field_mul 4 (add_columns v w ((r + 2) % 4))))
    (field_mul_add 5 (v r) (w r))
    ∙ ap (field_add (field_add (field_mul 5 (v r)) (field_mul 5 (w r))))
    (field_mul_add 4 (v ((r + 2) % 4)) (w ((r + 2) % 4)))
    ∙ add_swap (field_mul 5 (v r)) (field_mul 5 (w r)) (field_mul 4 (v ((r + 2) % 4)))
    (field_mul 4 (w ((r + 2) % 4)))) i

-- MixColumns after it
abbrev mixed_half : (ℕ → ℕ) → ℕ → ℕ
mixed_half v = matrix mix_row (half v)

-- so is MixColumns after it
mixed_half_add : LinearMap mixed_half
mixed_half_add v w = ap (matrix mix_row) (half_add v w) ∙ matrix_add mix_row (half v) (half w)

-- the two matrices are that of InvMixColumns on the powers of x in each row
halves_agree : agree_on_powers mixed_half (matrix inv_mix_row) ≡ true
unfolding agree_on_powers all_below only field_mul
halves_agree = refl

-- the products with 5, each with one with 4 of the next row but one
abbrev pub half_at : ℕ → List ℕ → List ℕ → List ℕ
half_at k five four = zip2 bit_xor five (permuted four (places_in NEXT_ROW_BUT_ONE k))

-- the products with 5 and 4 of a block, summed so
abbrev half_of : ℕ → List ℕ → List ℕ
half_of k x = half_at k (map (field_mul 5) x) (map (field_mul 4) x)

-- MixColumns of the sums is InvMixColumns of the block
mixed_halves : (x : List ℕ) → IsBlock x → mix_columns (half_of 0 x) ≡ inv_mix_columns x
unfolding state build mix_columns inv_mix_columns row_by_column first_rows
mixed_halves x block =
    same_on_block (λ x. mix_columns (half_of 0 x))
    (λ x. state (λ r c. mixed_half (first_rows 4 (column x c)) r)) (λ f. refl) x block.0
    ∙ state_same _ _ (λ r c lt _. linear_maps_agree mixed_half (matrix inv_mix_row) mixed_half_add
    (matrix_add inv_mix_row) halves_agree (column x c) (λ j. block.1 _) r lt)

-- ---- where the bytes are

-- what stands for sums is the sum of what stands for each
sums_untowered : (x y : List ℕ)
    → map inv_untower (zip2 bit_xor x y) ≡ zip2 bit_xor (map inv_untower x) (map inv_untower y)
sums_untowered [] y = refl
sums_untowered (a ∷ x) [] = refl
sums_untowered (a ∷ x) (b ∷ y) = λ i. inv_untower_sum a b i ∷ sums_untowered x y i

-- a change of each byte and the places of NEXT_ROW_BUT_ONE can be exchanged
permuted_map : (f : ℕ → ℕ) (k : ℕ) → k < 4 → (x : List ℕ) → length x ≡ 16
    → map f (permuted x (places_in NEXT_ROW_BUT_ONE k))
    ≡ permuted (map f x) (places_in NEXT_ROW_BUT_ONE k)
unfolding build
permuted_map f = by_four (λ k. (x : List ℕ) → length x ≡ 16
    → map f (permuted x (places_in NEXT_ROW_BUT_ONE k))
    ≡ permuted (map f x) (places_in NEXT_ROW_BUT_ONE k))
    (same_on_block (λ x. map f (permuted x (places_in NEXT_ROW_BUT_ONE 0)))
    (λ x. permuted (map f x) (places_in NEXT_ROW_BUT_ONE 0)) (λ g. refl))
    (same_on_block (λ x. map f (permuted x (places_in NEXT_ROW_BUT_ONE 1)))
    (λ x. permuted (map f x) (places_in NEXT_ROW_BUT_ONE 1)) (λ g. refl))
    (same_on_block (λ x. map f (permuted x (places_in NEXT_ROW_BUT_ONE 2)))
    (λ x. permuted (map f x) (places_in NEXT_ROW_BUT_ONE 2)) (λ g. refl))
    (same_on_block (λ x. map f (permuted x (places_in NEXT_ROW_BUT_ONE 3)))
    (λ x. permuted (map f x) (places_in NEXT_ROW_BUT_ONE 3)) (λ g. refl))

-- the sums of products of a block whose rows are shifted back are those of the block
halves_shifted : (k : ℕ) → k < 4 → (x : List ℕ) → length x ≡ 16
    → shift_times k (half_of k x) ≡ half_of 0 (shift_times k x)
unfolding build state shift_rows shift_times
halves_shifted = by_four (λ k. (x : List ℕ) → length x ≡ 16
    → shift_times k (half_of k x) ≡ half_of 0 (shift_times k x))
    (same_on_block (λ x. shift_times 0 (half_of 0 x)) (λ x. half_of 0 (shift_times 0 x)) (λ f. refl))
    (same_on_block (λ x. shift_times 1 (half_of 1 x)) (λ x. half_of 0 (shift_times 1 x)) (λ f. refl))
    (same_on_block (λ x. shift_times 2 (half_of 2 x)) (λ x. half_of 0 (shift_times 2 x)) (λ f. refl))
    (same_on_block (λ x. shift_times 3 (half_of 3 x)) (λ x. half_of 0 (shift_times 3 x)) (λ f. refl))

-- one ShiftRows after those before it: as many as after it
shifted_on : (k : ℕ) → k < 4 → (x : List ℕ) → length x ≡ 16
    → shift_rows (shift_times (before k) x) ≡ shift_times k x
unfolding build state shift_rows shift_times
shifted_on = by_four (λ k. (x : List ℕ) → length x ≡ 16
    → shift_rows (shift_times (before k) x) ≡ shift_times k x)
    (same_on_block (λ x. shift_rows (shift_times 3 x)) (shift_times 0) (λ f. refl))
    (same_on_block (λ x. shift_rows (shift_times 0 x)) (shift_times 1) (λ f. refl))
    (same_on_block (λ x. shift_rows (shift_times 1 x)) (shift_times 2) (λ f. refl))
    (same_on_block (λ x. shift_rows (shift_times 2 x)) (shift_times 3) (λ f. refl))

-- what the sums of products stand for, with their rows shifted
half_is : (k : ℕ) → k < 4 → (x five four : List ℕ) {one : List ℕ} → length x ≡ 16
    → length four ≡ 16 → map inv_untower five ≡ map (field_mul 5) x
    → map inv_untower four ≡ map (field_mul 4) x → one ≡ half_at k five four
    → shift_times k (map inv_untower one) ≡ half_of 0 (shift_times k x)
half_is k small x five four long four_long is_5 is_4 is_one =
    ap (shift_times k) (ap (map inv_untower) is_one
    ∙ sums_untowered five (permuted four (places_in NEXT_ROW_BUT_ONE k))
    ∙ (λ i. zip2 bit_xor (is_5 i) (permuted_map inv_untower k small four four_long i))
    ∙ (λ i. half_at k (map (field_mul 5) x) (is_4 i)))
    ∙ halves_shifted k small x long

-- the sums that `mixed_back` makes stand for InvMixColumns and the sum with a round key
pub mixed_back_is : (n : ℕ) (x key five four : List ℕ) {one two : List ℕ} → IsBlock x
    → length key ≡ 16 → length four ≡ 16 → IsBlock one
    → map inv_untower five ≡ map (field_mul 5) x → map inv_untower four ≡ map (field_mul 4) x
    → one ≡ half_at (n % 4) five four → two ≡ map doubled one
    → shift_times (n % 4) (map decryption_untower (mixed_at (n % 4) one two key))
    ≡ add_round_key (inv_mix_columns (shift_times (n % 4) x))
    (shift_times (n % 4) (map decryption_untower key))
mixed_back_is n x key five four {one = one} block key_long four_long one_block is_5 is_4 is_one is_two =
    let k : ℕ = n % 4 in
    let small : k < 4 = omega arith in
    let l : length one ≡ 16 = one_block.0 in
    let two : List ℕ = map doubled one in
    let y : List ℕ = shift_times (before k) one in
    let made = made_up k one two key small l (length-map one doubled ∙ l) key_long in
    (λ i. shift_times k (map decryption_untower (mixed_at k one (is_two i) key)))
    ∙ sym (times_map decryption_untower k (mixed_at k one two key) made.1)
    ∙ ap (map decryption_untower) (made.0
    ∙ (λ i. mixed_of (sym (map-id y) i) (sym (times_map doubled (before k) one l) i) (shift_times k key)))
    ∙ sums_mixed (λ b. b) doubled decryption_untower inv_untower decryption_untower 0x63 0x63 0x63
    decryption_untower_three doubles_made (λ b. add_zero (decryption_untower b)) y (shift_times k key)
    (times_block (before k) one one_block) (length-shift_times k key key_long)
    ∙ (λ i. add_round_key (mix_columns
    ((shift_map inv_untower y (length-shift_times (before k) one l)
    ∙ ap (map inv_untower) (shifted_on k small one l) ∙ times_map inv_untower k one l
    ∙ half_is k small x five four block.0 four_long is_5 is_4 is_one) i))
    (times_map decryption_untower k key key_long i))
    ∙ ap (λ v. add_round_key v (shift_times k (map decryption_untower key)))
    (mixed_halves (shift_times k x) (times_block k x block))

-- ---- InvMixColumns of a round key

-- the constant of the S-box that is added to a mixed round key is 0 for what its bytes stand for
key_constant : (k : ℕ) → k < 4 → shift_times k (map decryption_untower (replicate 16 0x2c)) ≡ replicate 16 0
unfolding build state shift_rows shift_times decryption_untower
key_constant = by_four
    (λ k. shift_times k (map decryption_untower (replicate 16 0x2c)) ≡ replicate 16 0)
    refl refl refl refl

-- zeros that are added to a block change nothing
zeros_added : (y : List ℕ) → length y ≡ 16 → add_round_key y (replicate 16 0) ≡ y
zeros_added y l = sym (blocks_summed y (replicate 16 0) l refl) ∙ zip2_splat bit_xor y 16 0 l
    ∙ map-ext (λ v. bit_xor v 0) (λ v. v) y add_zero ∙ map-id y

-- a round key that is mixed back with the constant
pub mixed_key_is : (n : ℕ) (x y : List ℕ)
    → shift_times (n % 4) (map decryption_untower y)
    ≡ add_round_key (inv_mix_columns (shift_times (n % 4) x))
    (shift_times (n % 4) (map decryption_untower (replicate 16 0x2c)))
    → shift_times (n % 4) (map decryption_untower y) ≡ inv_mix_columns (shift_times (n % 4) x)
mixed_key_is n x y mixed =
    mixed ∙ ap (add_round_key (inv_mix_columns (shift_times (n % 4) x))) (key_constant (n % 4) (omega arith))
    ∙ zeros_added (inv_mix_columns (shift_times (n % 4) x)) (inv_mix_block (shift_times (n % 4) x)).0
