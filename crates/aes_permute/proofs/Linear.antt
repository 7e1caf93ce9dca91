-- Sums on lanes: maps by nibbles, which are linear where their tables are, and rows of a matrix.
use Rattle.std.proofs.Common.{◌≡◌, ℕ, ◌+◌, ◌-◌, ◌/◌, ◌%◌, ◌<◌, ◌==◌, Bool, true, bit_xor, List, []}
use Rattle.std.proofs.Common.{◌∷◌, get_or, refl, ap, sym, ◌∙◌, arith}
use Rattle.std.specs.Int.Bits.{xor_assoc}
use Rattle.std.proofs.Math.Nat.{mod-lt}
use Rattle.std.proofs.lemmas.Bool.{eqb-true}
use Rattle.std.proofs.lemmas.Nat.{xor_comm, xor_mod, xor_shr}
use Rattle.aes_planes.specs.Fips197.{field_mul, state}
use Rattle.aes_planes.specs.Planes.{plus63}
use Rattle.aes_planes.proofs.Bits.ByteCases.{all_below, all_pairs, all_pairs_tell, by_four}
use Rattle.aes_planes.proofs.Standard.FieldLaws.{add_swap, add_zero}
use Rattle.aes_planes.proofs.Standard.States.{state_same}
use Rattle.aes_permute.specs.Lookup.{looked, low_nibble, high_nibble, by_nibbles}
use Rattle.aes_permute.specs.Stored.{untower, inv_untower, decryption_untower}
use Rattle.aes_permute.specs.declared.tables.TheConstants.{UNTOWER_LOW, UNTOWER_HIGH}
use Rattle.aes_permute.specs.declared.tables.TheConstants.{INV_UNTOWER_LOW, INV_UNTOWER_HIGH}

-- the sum of two nibbles is looked up as the sum of what is looked up
abbrev pub IsLinear : List ℕ → Type 0
IsLinear t = all_pairs 16 16
    (λ p q. looked t (bit_xor p q) == bit_xor (looked t p) (looked t q)) ≡ true

-- a linear table takes the sum of two nibbles to the sum of its entries
looked_sum : (t : List ℕ) → IsLinear t → (p q : ℕ) → p < 16 → q < 16 → looked t (bit_xor p q)
    ≡ bit_xor (looked t p) (looked t q)
looked_sum t l p q a b =
    eqb-true _ _ (all_pairs_tell 16 16
    (λ p q. looked t (bit_xor p q) == bit_xor (looked t p) (looked t q)) l p q a b)

-- the low nibble of a sum is the sum of the low nibbles
low_sum : (a b : ℕ) → low_nibble (bit_xor a b) ≡ bit_xor (low_nibble a) (low_nibble b)
low_sum a b = xor_mod a b 4

-- the high nibble of a sum is the sum of the high nibbles
high_sum : (a b : ℕ) → high_nibble (bit_xor a b) ≡ bit_xor (high_nibble a) (high_nibble b)
high_sum a b = ap (λ v. v % 16) (xor_shr a b 4) ∙ xor_mod (a / 16) (b / 16) 4

-- a look-up by nibbles in linear tables takes the sum of two bytes to the sum of what it makes of
-- each
by_nibbles_sum : (t u : List ℕ) → IsLinear t → IsLinear u → (a b : ℕ)
    → by_nibbles t u (bit_xor a b)
    ≡ bit_xor (by_nibbles t u a) (by_nibbles t u b)
by_nibbles_sum t u l m a b =
    (λ i. bit_xor (looked t (low_sum a b i)) (looked u (high_sum a b i)))
    ∙ (λ i. bit_xor
    (looked_sum t l (low_nibble a) (low_nibble b) (mod-lt a (omega arith))
    (mod-lt b (omega arith)) i)
    (looked_sum u m (high_nibble a) (high_nibble b) (mod-lt (a / 16) (omega arith))
    (mod-lt (b / 16) (omega arith)) i))
    ∙ add_swap (looked t (low_nibble a)) (looked t (low_nibble b)) (looked u (high_nibble a))
    (looked u (high_nibble b))

-- the tables that change back from the basis of encryption are linear, by all pairs of nibbles
untower_linear : IsLinear UNTOWER_LOW × IsLinear UNTOWER_HIGH
unfolding all_below
untower_linear = (refl, refl)

-- the tables that change back from the basis of decryption are linear, by all pairs of nibbles
decryption_untower_linear : IsLinear INV_UNTOWER_LOW × IsLinear INV_UNTOWER_HIGH
unfolding all_below
decryption_untower_linear = (refl, refl)

-- v takes the sum of three numbers to the sum of what it makes of each
abbrev pub SumsOfThree : (ℕ → ℕ) → Type 0
SumsOfThree v = (a b c : ℕ) → v (bit_xor (bit_xor a b) c) ≡ bit_xor (bit_xor (v a) (v b)) (v c)

-- what takes a sum of two to a sum does so with three
linear_three : (v : ℕ → ℕ) → ((a b : ℕ) → v (bit_xor a b) ≡ bit_xor (v a) (v b)) → SumsOfThree v
linear_three v l a b c = l (bit_xor a b) c ∙ ap (λ u. bit_xor u (v c)) (l a b)

-- the change of basis takes a sum of two bytes to the sum of what it makes of each
pub untower_sum : (a b : ℕ) → untower (bit_xor a b) ≡ bit_xor (untower a) (untower b)
unfolding untower
untower_sum = by_nibbles_sum UNTOWER_LOW UNTOWER_HIGH untower_linear.0 untower_linear.1

-- the change of basis takes a sum of three bytes to the sum of what it makes of each
pub untower_three : SumsOfThree untower
untower_three = linear_three untower untower_sum

-- the change from the basis of decryption takes a sum of two bytes to the sum of what it makes of
-- each
pub inv_untower_sum : (a b : ℕ) → inv_untower (bit_xor a b) ≡ bit_xor (inv_untower a) (inv_untower b)
inv_untower_sum =
    by_nibbles_sum INV_UNTOWER_LOW INV_UNTOWER_HIGH decryption_untower_linear.0 decryption_untower_linear.1

-- the constant of each summand: of three, one is left
pub decryption_untower_three : SumsOfThree decryption_untower
unfolding decryption_untower
decryption_untower_three a b c =
    let v : ℕ → ℕ = inv_untower in
    ap plus63 (linear_three v inv_untower_sum a b c)
    ∙ xor_assoc (bit_xor (v a) (v b)) (v c) 0x63
    ∙ ap (λ u. bit_xor u (plus63 (v c)))
    (sym (add_swap (v a) 0x63 (v b) 0x63 ∙ add_zero (bit_xor (v a) (v b))))

-- ---- sums of five

-- the last two of three summands can change places
pub aside : (a b c : ℕ) → bit_xor (bit_xor a b) c ≡ bit_xor (bit_xor a c) b
aside a b c = xor_assoc a b c ∙ ap (bit_xor a) (xor_comm b c) ∙ sym (xor_assoc a c b)

-- four products and a key in the order in which a round adds them
abbrev pub added : (ℕ → ℕ) → ℕ → ℕ
added t y = bit_xor (bit_xor (bit_xor (t 0) y) (bit_xor (t 2) (t 3))) (t 1)

-- the sum of four, from left to right
abbrev pub sum_of_four : (ℕ → ℕ) → ℕ
sum_of_four t = bit_xor (bit_xor (bit_xor (t 0) (t 1)) (t 2)) (t 3)

-- the sum of four, and of a key after them
abbrev pub in_order : (ℕ → ℕ) → ℕ → ℕ
in_order t y = bit_xor (sum_of_four t) y

-- equal summands have equal sums
same_in_order : (t u : ℕ → ℕ) (y : ℕ) → ((i : ℕ) → i < 4 → t i ≡ u i) → in_order t y ≡ in_order u y
same_in_order t u y h =
    λ i. bit_xor (bit_xor
    (bit_xor (bit_xor (h 0 (omega arith) i) (h 1 (omega arith) i)) (h 2 (omega arith) i))
    (h 3 (omega arith) i)) y

-- the order in which a round adds makes no difference
gathered : (t : ℕ → ℕ) (y : ℕ) → added t y ≡ in_order t y
gathered t y =
    ap (λ v. bit_xor v (t 1)) (aside (t 0) y (bit_xor (t 2) (t 3)))
    ∙ aside (bit_xor (t 0) (bit_xor (t 2) (t 3))) y (t 1)
    ∙ ap (λ v. bit_xor v y) (aside (t 0) (bit_xor (t 2) (t 3)) (t 1)
    ∙ sym (xor_assoc (bit_xor (t 0) (t 1)) (t 2) (t 3)))

-- what a map that takes sums of three to sums makes of four products and a key
sum_of_five : (v : ℕ → ℕ) → SumsOfThree v → (t : ℕ → ℕ) (y : ℕ)
    → v (added t y) ≡ in_order (λ i. v (t i)) (v y)
sum_of_five v l t y =
    ap v (gathered t y) ∙ l (bit_xor (bit_xor (t 0) (t 1)) (t 2)) (t 3) y
    ∙ ap (λ u. bit_xor (bit_xor u (v (t 3))) (v y)) (l (t 0) (t 1) (t 2))

-- the constants of four products go to the key
constants_gathered : (t k : ℕ → ℕ) (y : ℕ)
    → in_order (λ i. bit_xor (t i) (k i)) y ≡ in_order t (bit_xor y (sum_of_four k))
constants_gathered t k y =
    let two : (ℕ → ℕ) → ℕ = λ t. bit_xor (t 0) (t 1) in
    let both : ℕ → ℕ = λ i. bit_xor (t i) (k i) in
    ap (λ v. bit_xor (bit_xor (bit_xor v (both 2)) (both 3)) y) (add_swap (t 0) (k 0) (t 1) (k 1))
    ∙ ap (λ v. bit_xor (bit_xor v (both 3)) y) (add_swap (two t) (two k) (t 2) (k 2))
    ∙ ap (λ v. bit_xor v y) (add_swap (bit_xor (two t) (t 2)) (bit_xor (two k) (k 2)) (t 3) (k 3))
    ∙ xor_assoc (sum_of_four t) (sum_of_four k) y
    ∙ ap (bit_xor (sum_of_four t)) (xor_comm (sum_of_four k) y)

-- ---- the rows of a matrix whose next row is the one before, turned by one

-- the last of four summands can come first
turn : (a b c d : ℕ) → bit_xor (bit_xor (bit_xor a b) c) d ≡ bit_xor (bit_xor (bit_xor d a) b) c
turn a b c d =
    xor_comm (bit_xor (bit_xor a b) c) d ∙ sym (xor_assoc d (bit_xor a b) c)
    ∙ ap (λ v. bit_xor v c) (sym (xor_assoc d a b))

-- the coefficient of row 0 that row r of the matrix has at place j
abbrev pub turned_entry : ℕ → ℕ → ℕ
turned_entry r j = (j + 4 - r) % 4

-- a sum that begins at row r is the sum from row 0 on, of what T makes of a coefficient and a row
rows_turned : (T : ℕ → ℕ → ℕ) (y r : ℕ) → r < 4
    → in_order (λ i. T i ((r + i) % 4)) y ≡ in_order (λ j. T (turned_entry r j) j) y
rows_turned T y r l =
    by_four (λ r. in_order (λ i. T i ((r + i) % 4)) y ≡ in_order (λ j. T (turned_entry r j) j) y)
    refl
    (ap (λ v. bit_xor v y) (turn (T 0 1) (T 1 2) (T 2 3) (T 3 0)))
    (ap (λ v. bit_xor v y) (turn (T 0 2) (T 1 3) (T 2 0) (T 3 1)
    ∙ turn (T 3 1) (T 0 2) (T 1 3) (T 2 0)))
    (ap (λ v. bit_xor v y) (sym (turn (T 1 0) (T 2 1) (T 3 2) (T 0 3))))
    r l

-- how the product with a coefficient is looked up, and the constant that is added to it there
pub record Product : Type 0 where
  pub coefficient : ℕ
  pub look_up : ℕ → ℕ
  pub constant : ℕ

-- the products of row 0 of a matrix
abbrev pub row : Product → Product → Product → Product → ℕ → Product
row a b c d i = get_or (a ∷ b ∷ c ∷ d ∷ []) i a

-- the test of one product, at one byte
abbrev made : (ℕ → ℕ) → (ℕ → ℕ) → (ℕ → Product) → ℕ → ℕ → Bool
made v g p i b = v ((p i).look_up b) == bit_xor (field_mul (p i).coefficient (g b)) (p i).constant

-- v of what each look-up makes of a byte is the product of its coefficient and g of the byte, but
-- for its constant
abbrev pub Makes : (ℕ → ℕ) → (ℕ → ℕ) → (ℕ → Product) → Type 0
Makes v g p = all_pairs 4 256 (made v g p) ≡ true

-- what a round adds up in row r of column c, where `at c j` is the byte that comes from row j
abbrev pub rows_added : (ℕ → ℕ) → (ℕ → Product) → (ℕ → ℕ → ℕ) → (ℕ → ℕ → ℕ) → List ℕ
rows_added v p at y = state (λ r c. v (added (λ i. (p i).look_up (at c ((r + i) % 4))) (y r c)))

-- a row of the matrix times the column, and a byte of the round key
abbrev pub rows_multiplied : (ℕ → ℕ) → (ℕ → Product) → (ℕ → ℕ → ℕ) → (ℕ → ℕ → ℕ) → List ℕ
rows_multiplied g p at z =
    state (λ r c. in_order (λ j. field_mul (p (turned_entry r j)).coefficient (g (at c j))) (z r c))

-- `rows_added` is v of `rows_multiplied`, if v of each look-up makes a product, and the constants
-- go to the round key
pub rows_mixed : (v g : ℕ → ℕ) (p : ℕ → Product) → SumsOfThree v → Makes v g p
    → (at y z : ℕ → ℕ → ℕ) → ((c j : ℕ) → at c j < 256)
    → ((r c : ℕ) → bit_xor (v (y r c)) (sum_of_four (λ i. (p i).constant)) ≡ z r c)
    → rows_added v p at y ≡ rows_multiplied g p at z
rows_mixed v g p of_three makes at y z bytes constants_added = state_same _ _ (λ r c i j.
    let b : ℕ → ℕ = λ i. at c ((r + i) % 4) in
    let product : ℕ → ℕ = λ i. field_mul (p i).coefficient (g (b i)) in
    sum_of_five v of_three (λ i. (p i).look_up (b i)) (y r c)
    ∙ same_in_order _ _ (v (y r c))
    (λ i k. eqb-true _ _ (all_pairs_tell 4 256 (made v g p) makes i (b i) k (bytes _ _)))
    ∙ constants_gathered product (λ i. (p i).constant) (v (y r c))
    ∙ ap (in_order product) (constants_added r c)
    ∙ rows_turned (λ n j. field_mul (p n).coefficient (g (at c j))) (z r c) r i)
