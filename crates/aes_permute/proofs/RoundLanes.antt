-- The rounds of Cipher on lanes.
use Rattle.std.proofs.Common.{◌≡◌, ℕ, ◌+◌, ◌%◌, ◌==◌, true, bit_xor, List, [], ◌∷◌, length, map}
use Rattle.std.proofs.Common.{map-id, refl, ap, sym, subst, ◌∙◌}
use Rattle.std.proofs.lemmas.List.{length-map}
use Rattle.std.specs.Int.Bits.{xor_assoc}
use Rattle.std.proofs.lemmas.Nat.{xor_comm}
use Rattle.std.proofs.lemmas.Simd.{zip2-map, map-map}
use lib.Lanes.{zip2}
use Rattle.aes_planes.specs.Fips197.{field_mul, sbox, byte_at, build, state, row_by_column}
use Rattle.aes_planes.specs.Fips197.{sub_bytes, shift_rows, mix_columns, add_round_key, IsBytes}
use Rattle.aes_planes.specs.Fips197.{IsBlock}
use Rattle.aes_planes.specs.Planes.{plus63}
use Rattle.aes_planes.proofs.Bits.ByteCases.{all_below}
use Rattle.aes_planes.proofs.Lists.{same_on_block, same_on_blocks}
use Rattle.aes_planes.proofs.Standard.FieldLaws.{add_swap}
use Rattle.aes_planes.proofs.Standard.States.{state_same}
use Rattle.aes_planes.proofs.Standard.Steps.{add_block}
use Rattle.aes_cipher.proofs.BlockNumbers.{blocks_summed}
use Rattle.aes_permute.specs.TwoIndices.{first_of, second_of, at_indices}
use Rattle.aes_permute.specs.Lookup.{by_nibbles}
use Rattle.aes_permute.specs.MixedRows.{permuted}
use Rattle.aes_permute.specs.Stored.{as_is, untower, key_untower}
use Rattle.aes_permute.specs.declared.tables.TheConstants.{TOWER_LOW, TOWER_HIGH, SBOX_FIRST}
use Rattle.aes_permute.specs.declared.tables.TheConstants.{SBOX_SECOND, ONE_FIRST, ONE_SECOND}
use Rattle.aes_permute.specs.declared.tables.TheConstants.{TWO_FIRST, TWO_SECOND}
use Rattle.aes_permute.proofs.Linear.{untower_three, Product, SumsOfThree, row, Makes}
use Rattle.aes_permute.proofs.Linear.{rows_added, rows_multiplied, rows_mixed}
use Rattle.aes_permute.proofs.Lookups.{map-ext_by_test}

-- ---- what is looked up

-- what two tables make of a byte in the tower basis
abbrev pub through : List ℕ → List ℕ → ℕ → ℕ
through t u b = at_indices t u (first_of b) (second_of b)

-- the sums of the entries at the two indices of each byte are what the two tables make of the bytes
pub through_lanes : (t u x : List ℕ) {f s y : List ℕ} → f ≡ map first_of x → s ≡ map second_of x
    → y ≡ zip2 (at_indices t u) f s → y ≡ map (through t u) x
through_lanes t u x a b e = e ∙ (λ i. zip2 (at_indices t u) (a i) (b i))
    ∙ zip2-map (at_indices t u) first_of second_of x

-- what is looked up for the coefficient 1 of MixColumns
abbrev pub by_1 : ℕ → ℕ
by_1 b = through ONE_FIRST ONE_SECOND b

-- what is looked up for the coefficient 2
abbrev pub by_2 : ℕ → ℕ
by_2 b = through TWO_FIRST TWO_SECOND b

-- the S-box of what a byte stands for
abbrev boxed : ℕ → ℕ
boxed b = sbox (untower b)

-- row 0 of MixColumns: the products with it, each with a constant. For the coefficient 3, what is
-- looked up is the sum of what is for 1 and for 2
abbrev pub mix_products : (ℕ → ℕ) → (ℕ → ℕ) → ℕ → ℕ → ℕ → ℕ → Product
mix_products one two at_2 at_3 at_1 = row
    (record { coefficient = 2; look_up = two; constant = at_2 })
    (record { coefficient = 3; look_up = λ b. bit_xor (one b) (two b); constant = at_3 })
    (record { coefficient = 1; look_up = one; constant = at_1 })
    (record { coefficient = 1; look_up = one; constant = at_1 })

-- the products of a round, each with what the constant of the S-box makes of it
abbrev products : ℕ → Product
products = mix_products by_1 by_2 0xc6 0xa5 0x63

-- `products` are right, by all bytes
products_made : Makes untower boxed products
unfolding all_below first_of second_of untower field_mul sbox
products_made = refl

-- ---- the round

-- the byte of row j after ShiftRows, in column c
abbrev pub shifted : List ℕ → ℕ → ℕ → ℕ
shifted x c j = byte_at x j ((c + j) % 4)

-- the lanes of which the bytes of a column are made, from its own row on
abbrev pub same_row : List ℕ
same_row = 0 ∷ 5 ∷ 10 ∷ 15 ∷ 4 ∷ 9 ∷ 14 ∷ 3 ∷ 8 ∷ 13 ∷ 2 ∷ 7 ∷ 12 ∷ 1 ∷ 6 ∷ 11 ∷ []

-- the lanes one row further down
abbrev next_row : List ℕ
next_row = 5 ∷ 10 ∷ 15 ∷ 0 ∷ 9 ∷ 14 ∷ 3 ∷ 4 ∷ 13 ∷ 2 ∷ 7 ∷ 8 ∷ 1 ∷ 6 ∷ 11 ∷ 12 ∷ []

-- the lanes three rows further down
abbrev three_rows_on : List ℕ
three_rows_on = 15 ∷ 0 ∷ 5 ∷ 10 ∷ 3 ∷ 4 ∷ 9 ∷ 14 ∷ 7 ∷ 8 ∷ 13 ∷ 2 ∷ 11 ∷ 12 ∷ 1 ∷ 6 ∷ []

-- the lanes of the next row, from where the rows are shifted
abbrev next_of_shifted : List ℕ
next_of_shifted = 5 ∷ 6 ∷ 7 ∷ 4 ∷ 9 ∷ 10 ∷ 11 ∷ 8 ∷ 13 ∷ 14 ∷ 15 ∷ 12 ∷ 1 ∷ 2 ∷ 3 ∷ 0 ∷ []

-- the doubles, each with the byte of the next row
abbrev paired : List ℕ → List ℕ → List ℕ
paired o t = zip2 bit_xor t (permuted o next_of_shifted)

-- the sum that a round makes of what it looked up for 1 and for 2, and a round key
abbrev pub mixed_of : List ℕ → List ℕ → List ℕ → List ℕ
mixed_of o t k =
    zip2 bit_xor (zip2 bit_xor (zip2 bit_xor (permuted o three_rows_on) k) (permuted (paired o t) same_row))
    (permuted (paired o t) next_row)

-- the sum of a byte, in the order in which a round on lanes makes it, and in that of `added`
abbrev pairs_summed : ℕ → ℕ → ℕ → ℕ → ℕ → ℕ → ℕ
pairs_summed a o t c d y = bit_xor (bit_xor (bit_xor d y) (bit_xor a o)) (bit_xor t c)

-- both orders of summands have the same sum
pairs_parted : (a o t c d y : ℕ)
    → pairs_summed a o t c d y ≡ bit_xor (bit_xor (bit_xor a y) (bit_xor c d)) (bit_xor o t)
pairs_parted a o t c d y =
    ap (λ v. bit_xor v (bit_xor t c)) (xor_comm (bit_xor d y) (bit_xor a o)
    ∙ ap (bit_xor (bit_xor a o)) (xor_comm d y)
    ∙ add_swap a o y d)
    ∙ xor_assoc (bit_xor a y) (bit_xor o d) (bit_xor t c)
    ∙ ap (bit_xor (bit_xor a y)) (add_swap o d t c ∙ ap (bit_xor (bit_xor o t)) (xor_comm d c)
    ∙ xor_comm (bit_xor o t) (bit_xor c d))
    ∙ sym (xor_assoc (bit_xor a y) (bit_xor c d) (bit_xor o t))

-- what is looked up for 1 and for 2, what a byte of the sum stands for, what the bytes of which it
-- is made stand for, and what a byte of the round key does
module _ (one two v g w : ℕ → ℕ) (at_2 at_3 at_1 : ℕ) where
  -- the round on lanes, from what it looks up
  abbrev on_lanes : List ℕ → List ℕ → List ℕ
  on_lanes x k = map v (mixed_of (map one x) (map two x) k)

  -- the round as the standard has it, of what the lanes stand for
  abbrev standard : List ℕ → List ℕ → List ℕ
  standard x k = add_round_key (mix_columns (shift_rows (map g x))) (map w k)

  -- the round byte by byte, in the order of `pairs_summed`
  abbrev rows_by_pairs : List ℕ → List ℕ → List ℕ
  rows_by_pairs x k =
      state (λ r c. v
      (pairs_summed (two (shifted x c (r % 4))) (one (shifted x c ((r + 1) % 4)))
      (two (shifted x c ((r + 1) % 4))) (one (shifted x c ((r + 2) % 4)))
      (one (shifted x c ((r + 3) % 4))) (byte_at k r c)))

  -- the round on lanes is a sum of four products in each byte, by the places that the lanes come
  -- from
  round_lanes_are : (x k : List ℕ) → length x ≡ 16 → length k ≡ 16
      → on_lanes x k ≡ rows_added v (mix_products one two at_2 at_3 at_1) (shifted x) (byte_at k)
  unfolding state build
  round_lanes_are x k l m =
      same_on_blocks on_lanes rows_by_pairs (λ f g. refl) x k l m
      ∙ state_same _ _ (λ r c i j. ap v
      (pairs_parted (two (shifted x c (r % 4))) (one (shifted x c ((r + 1) % 4)))
      (two (shifted x c ((r + 1) % 4))) (one (shifted x c ((r + 2) % 4)))
      (one (shifted x c ((r + 3) % 4))) (byte_at k r c)))

  -- the sums of products of a round are those of MixColumns and AddRoundKey
  round_sums_are : (x k : List ℕ) → length x ≡ 16 → length k ≡ 16
      → rows_multiplied g (mix_products one two at_2 at_3 at_1) (shifted x)
      (λ r c. w (byte_at k r c)) ≡ standard x k
  unfolding state build add_round_key mix_columns row_by_column shift_rows
  round_sums_are = same_on_blocks
      (λ x k. rows_multiplied g (mix_products one two at_2 at_3 at_1) (shifted x)
      (λ r c. w (byte_at k r c)))
      standard (λ f g. refl)

  -- the sums of a round are ShiftRows, MixColumns and AddRoundKey of what the bytes stand for, if
  -- each look-up makes a product, and the constants go to the round key
  pub sums_mixed : SumsOfThree v → Makes v g (mix_products one two at_2 at_3 at_1)
      → ((y : ℕ) → bit_xor (v y) (bit_xor (bit_xor (bit_xor at_2 at_3) at_1) at_1) ≡ w y)
      → (x k : List ℕ) → IsBlock x → length k ≡ 16 → on_lanes x k ≡ standard x k
  sums_mixed of_three made constants_added x k is_block k_long =
      round_lanes_are x k is_block.0 k_long
      ∙ rows_mixed v g (mix_products one two at_2 at_3 at_1) of_three made (shifted x) (byte_at k)
      (λ r c. w (byte_at k r c)) (λ c j. is_block.1 _) (λ r c. constants_added (byte_at k r c))
      ∙ round_sums_are x k is_block.0 k_long

-- a round on lanes is SubBytes, ShiftRows, MixColumns and AddRoundKey of what the lanes stand for
pub round_is : (x k : List ℕ) {o t : List ℕ} → IsBlock x → length k ≡ 16 → o ≡ map by_1 x
    → t ≡ map by_2 x → map untower (mixed_of o t k)
    ≡ add_round_key (mix_columns (shift_rows (sub_bytes (map untower x)))) (map key_untower k)
unfolding key_untower sub_bytes
round_is x k is_block k_long o_is t_is =
    (λ i. map untower (mixed_of (o_is i) (t_is i) k))
    ∙ sums_mixed by_1 by_2 untower boxed key_untower 0xc6 0xa5 0x63 untower_three products_made
    (λ y. refl) x k is_block k_long
    ∙ ap (λ v. add_round_key (mix_columns (shift_rows v)) (map key_untower k))
    (sym (map-map sbox untower x))

-- ---- the first round key, and the last round

-- the sum of two blocks consists of bytes
pub zip_sum_bytes : (b k : List ℕ) → IsBlock b → IsBlock k → IsBytes (zip2 bit_xor b k)
zip_sum_bytes b k h m = subst IsBytes (sym (blocks_summed b k h.0 m.0)) (add_block b k h.1 m.1).1

-- the way into the tower basis
abbrev tower : ℕ → ℕ
tower b = by_nibbles TOWER_LOW TOWER_HIGH b

-- the change of basis undoes the way into it, by all bytes
tower_cases : all_below 256 (λ b. untower (tower b) == b) ≡ true
unfolding all_below untower
tower_cases = refl

-- the change of basis undoes the way into it, for each byte of a list
pub untowered : (x : List ℕ) → IsBytes x → map untower (map (by_nibbles TOWER_LOW TOWER_HIGH) x) ≡ x
untowered x h = map-map untower tower x
    ∙ map-ext_by_test (λ b. untower (tower b)) (λ b. b) tower_cases x h ∙ map-id x

-- a block plus the first round key, brought into the tower basis, stands for AddRoundKey
pub first_sum_is : (b k : List ℕ) → IsBlock b → IsBlock k
    → map untower (map (by_nibbles TOWER_LOW TOWER_HIGH) (zip2 bit_xor b k))
    ≡ add_round_key b (map as_is k)
first_sum_is b k h m =
    untowered (zip2 bit_xor b k) (zip_sum_bytes b k h m) ∙ blocks_summed b k h.0 m.0
    ∙ ap (add_round_key b) (sym (map-id k))

-- the S-box without its constant, by two look-ups, of what a byte stands for
abbrev pub plain_sbox : ℕ → ℕ
plain_sbox b = through SBOX_FIRST SBOX_SECOND b

-- `plain_sbox` is the S-box without its constant, by all bytes
plain_sbox_cases : all_below 256 (λ b. plain_sbox b == plus63 (boxed b)) ≡ true
unfolding all_below first_of second_of untower sbox
plain_sbox_cases = refl

-- SubBytes but for the constant is made of each byte, if a test of all bytes says so
but_constant : (f : ℕ → ℕ) → all_below 256 (λ b. f b == plus63 (boxed b)) ≡ true → (x : List ℕ)
    → IsBytes x → map f x ≡ map plus63 (sub_bytes (map untower x))
unfolding sub_bytes
but_constant f cases x h = map-ext_by_test f (λ b. plus63 (boxed b)) cases x h
    ∙ sym (map-map plus63 boxed x)
    ∙ ap (map plus63) (sym (map-map sbox untower x))

-- the sum of the last round: the substituted bytes, shifted, and a round key
abbrev pub last_sum_of : List ℕ → List ℕ → List ℕ
last_sum_of p k = zip2 bit_xor (permuted p same_row) k

-- the sum of the last round is ShiftRows and AddRoundKey
last_sum_is : (y k : List ℕ) → length y ≡ 16 → length k ≡ 16
    → last_sum_of y k ≡ add_round_key (shift_rows y) k
unfolding state build add_round_key shift_rows
last_sum_is = same_on_blocks last_sum_of (λ y k. add_round_key (shift_rows y) k) (λ f g. refl)

-- 0x63 in each byte stays there when bytes change places
permuted_plus63 : (y : List ℕ) → length y ≡ 16
    → permuted (map plus63 y) same_row ≡ map plus63 (permuted y same_row)
unfolding build
permuted_plus63 = same_on_block (λ y. permuted (map plus63 y) same_row)
    (λ y. map plus63 (permuted y same_row))
    (λ f. refl)

-- the constant goes from the S-box to the key
plus63_across : (x k : List ℕ) → zip2 bit_xor (map plus63 x) k ≡ zip2 bit_xor x (map plus63 k)
plus63_across [] k = refl
plus63_across (x ∷ xs) [] = refl
plus63_across (x ∷ xs) (y ∷ ys) =
    λ i. (xor_assoc x 0x63 y ∙ ap (bit_xor x) (xor_comm 0x63 y)) i ∷ plus63_across xs ys i

-- the last round on lanes is SubBytes, ShiftRows and AddRoundKey of a round key with 0x63 in it
pub last_round_is : (x k : List ℕ) {p : List ℕ} → IsBlock x → length k ≡ 16 → p ≡ map plain_sbox x
    → last_sum_of p k ≡ add_round_key (shift_rows (sub_bytes (map untower x))) (map plus63 k)
unfolding sub_bytes
last_round_is x k h m e =
    let y = sub_bytes (map untower x) in
    let l : length y ≡ 16 = length-map (map untower x) sbox ∙ length-map x untower ∙ h.0 in
    ap (λ v. last_sum_of v k) (e ∙ but_constant plain_sbox plain_sbox_cases x h.1)
    ∙ ap (λ v. zip2 bit_xor v k) (permuted_plus63 y l)
    ∙ plus63_across (permuted y same_row) k
    ∙ last_sum_is y (map plus63 k) l (length-map k plus63 ∙ m)

-- ---- SubBytes in the tower basis

-- what is looked up for 1 stands for the S-box without its constant, by all bytes
sub_cases : all_below 256 (λ b. untower (by_1 b) == plus63 (boxed b)) ≡ true
unfolding all_below first_of second_of untower sbox
sub_cases = refl

-- what is looked up for 1 stands for SubBytes without its constant
pub sub_bytes_is : (x : List ℕ) → IsBytes x
    → map untower (map by_1 x) ≡ map plus63 (sub_bytes (map untower x))
sub_bytes_is x h = map-map untower by_1 x ∙ but_constant (λ b. untower (by_1 b)) sub_cases x h
