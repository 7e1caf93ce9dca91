-- What is linear over sums, and what commutes with the shifts.
use Rattle.std.proofs.Common.{◌≡◌, ℕ, zero, suc, ◌+◌, ◌*◌, ◌^◌, ◌<◌, ◌==◌, Bool, true, List, length}
use Rattle.std.proofs.Common.{map, slice_index, refl, ap, sym, ◌∙◌, subst, arith}
use Rattle.std.specs.Int.Bits.{xor_zero_r, xor_self}
use Rattle.aes_planes.specs.Fips197.{field_add, field_mul, byte_at, build, state, row_by_column}
use Rattle.aes_planes.specs.Fips197.{mix_row, inv_mix_row, mix_columns, inv_mix_columns}
use Rattle.aes_planes.specs.Fips197.{add_round_key, shift_rows, inv_shift_rows, inv_sbox}
use Rattle.aes_planes.specs.Fips197.{inv_sub_bytes, IsBytes}
use Rattle.aes_planes.proofs.Bits.ByteCases.{all_below, all_below_tells}
use Rattle.aes_planes.proofs.Lists.{build-get_or}
use Rattle.aes_planes.proofs.Standard.FieldLaws.{add_swap, field_mul_add, agree_by_powers}
use Rattle.aes_planes.proofs.Standard.States.{state_same}

-- ---- shifts of rows

-- a function of each byte commutes with the shifts
pub shift_map : (f : ℕ → ℕ) (s : List ℕ) → length s ≡ 16
    → shift_rows (map f s) ≡ map f (shift_rows s)
unfolding shift_rows build
shift_map f s l = subst (λ (v : List ℕ). shift_rows (map f v) ≡ map f (shift_rows v))
    (build-get_or 16 s 0 l) refl

-- a function of each byte commutes with the inverse shifts
inv_shift_map : (f : ℕ → ℕ) (s : List ℕ) → length s ≡ 16
    → inv_shift_rows (map f s) ≡ map f (inv_shift_rows s)
unfolding inv_shift_rows build
inv_shift_map f s l =
    subst (λ (v : List ℕ). inv_shift_rows (map f v) ≡ map f (inv_shift_rows v))
    (build-get_or 16 s 0 l) refl

-- InvSubBytes and InvShiftRows commute
pub inv_sub_shift : (s : List ℕ) → length s ≡ 16
    → inv_shift_rows (inv_sub_bytes s) ≡ inv_sub_bytes (inv_shift_rows s)
unfolding inv_sub_bytes
inv_sub_shift = inv_shift_map inv_sbox

-- ---- a matrix times a column, which is a function of the row

-- the sum of two columns, row by row
abbrev pub add_columns : (ℕ → ℕ) → (ℕ → ℕ) → ℕ → ℕ
add_columns v w i = field_add (v i) (w i)

-- a map of columns that is linear over sums
abbrev pub LinearMap : ((ℕ → ℕ) → ℕ → ℕ) → Type 0
LinearMap f = (v w : ℕ → ℕ) → f (add_columns v w) ≡ add_columns (f v) (f w)

-- the sum of a column's rows 0 to n
abbrev pub sum_to : ℕ → (ℕ → ℕ) → ℕ
sum_to zero v = v 0
sum_to (suc n) v = field_add (sum_to n v) (v (suc n))

-- the sum of a column's rows 0 to n is linear over sums of columns
sum_to_add : (n : ℕ) (v w : ℕ → ℕ) → sum_to n (add_columns v w)
    ≡ field_add (sum_to n v) (sum_to n w)
sum_to_add zero v w = refl
sum_to_add (suc n) v w =
    ap (λ s. field_add s (add_columns v w (suc n))) (sum_to_add n v w)
    ∙ add_swap (sum_to n v) (sum_to n w) (v (suc n)) (w (suc n))

-- a row of a matrix times a column
abbrev pub row_times : List ℕ → (ℕ → ℕ) → ℕ
row_times m v = sum_to 3 (λ j. field_mul (slice_index m j) (v j))

-- a matrix times a column
abbrev pub matrix : (ℕ → List ℕ) → (ℕ → ℕ) → ℕ → ℕ
matrix m v r = row_times (m r) v

-- a row times a column is linear over sums of columns
row_times_add : (m : List ℕ) (v w : ℕ → ℕ)
    → row_times m (add_columns v w) ≡ field_add (row_times m v) (row_times m w)
row_times_add m v w =
    (λ i. sum_to 3 (λ j. field_mul_add (slice_index m j) (v j) (w j) i))
    ∙ sum_to_add 3 (λ j. field_mul (slice_index m j) (v j)) (λ j. field_mul (slice_index m j) (w j))

-- a matrix times a sum of columns is the sum of the products
pub matrix_add : (m : ℕ → List ℕ) → LinearMap (matrix m)
matrix_add m v w = λ i r. row_times_add (m r) v w i

-- one linear map after another is linear
product_add : (f g : (ℕ → ℕ) → ℕ → ℕ) → LinearMap f → LinearMap g → LinearMap (λ v. f (g v))
product_add f g p q v w = ap f (q v w) ∙ p (g v) (g w)

-- ---- linear maps agree where they agree on the powers of x in each row

-- x in row j, and 0 in the others
unfoldable pub only : ℕ → ℕ → ℕ → ℕ
only zero x zero = x
only zero x (suc i) = 0
only (suc j) x zero = 0
only (suc j) x (suc i) = only j x i

-- a sum in one row is made of two
only_add : (j x y i : ℕ) → only j (field_add x y) i ≡ field_add (only j x i) (only j y i)
unfolding only
only_add zero x y zero = refl
only_add zero x y (suc i) = refl
only_add (suc j) x y zero = refl
only_add (suc j) x y (suc i) = only_add j x y i

-- the first n rows of a column, and 0 in the others
unfoldable pub first_rows : ℕ → (ℕ → ℕ) → ℕ → ℕ
first_rows zero v i = 0
first_rows (suc n) v zero = v 0
first_rows (suc n) v (suc i) = first_rows n (λ k. v (suc k)) i

-- a column is made row by row
one_row_more : (n : ℕ) (v : ℕ → ℕ) (i : ℕ)
    → first_rows (suc n) v i ≡ field_add (first_rows n v i) (only n (v n) i)
unfolding first_rows only
one_row_more zero v zero = refl
one_row_more zero v (suc i) = refl
one_row_more (suc n) v zero = sym (xor_zero_r (v 0))
one_row_more (suc n) v (suc i) = one_row_more n (λ k. v (suc k)) i

-- a number made of a column that is linear over sums
unfoldable pub LinearForm : ((ℕ → ℕ) → ℕ) → Type 0
LinearForm f = (v w : ℕ → ℕ) → f (add_columns v w) ≡ field_add (f v) (f w)

module _ (f g : (ℕ → ℕ) → ℕ) (p : LinearForm f) (q : LinearForm g) where
  -- two linear forms that agree on columns with one row agree on each column
  forms_agree : (n : ℕ) → ((j : ℕ) → j < n → (x : ℕ) → x < 256 → f (only j x) ≡ g (only j x))
      → (v : ℕ → ℕ) → ((i : ℕ) → v i < 256) → f (first_rows n v) ≡ g (first_rows n v)
  unfolding LinearForm first_rows
  forms_agree zero same v h =
      p (first_rows zero v) (first_rows zero v) ∙ xor_self (f (first_rows zero v))
      ∙ sym (q (first_rows zero v) (first_rows zero v) ∙ xor_self (g (first_rows zero v)))
  forms_agree (suc n) same v h =
      ap f (λ i r. one_row_more n v r i) ∙ p (first_rows n v) (only n (v n))
      ∙ (λ i. field_add (forms_agree n (λ j lt. same j (omega arith)) v h i)
      (same n (omega arith) (v n) (h n) i))
      ∙ sym (ap g (λ i r. one_row_more n v r i) ∙ q (first_rows n v) (only n (v n)))

-- whether two maps agree in four rows on the powers of x below 2 ^ 8 in each of four rows
unfoldable pub agree_on_powers : ((ℕ → ℕ) → ℕ → ℕ) → ((ℕ → ℕ) → ℕ → ℕ) → Bool
agree_on_powers f g =
    all_below 4 (λ r. all_below 4
    (λ j. all_below 8 (λ k. f (only j (2 ^ k)) r == g (only j (2 ^ k)) r)))

-- linear maps that agree there, by the test, agree on every column of bytes
pub linear_maps_agree : (f g : (ℕ → ℕ) → ℕ → ℕ) → LinearMap f → LinearMap g
    → agree_on_powers f g ≡ true
    → (v : ℕ → ℕ) → ((i : ℕ) → v i < 256) → (r : ℕ) → r < 4
    → f (first_rows 4 v) r ≡ g (first_rows 4 v) r
unfolding agree_on_powers LinearForm
linear_maps_agree f g p q test v h r lt =
    forms_agree (λ u. f u r) (λ u. g u r) (λ u w i. p u w i r) (λ u w i. q u w i r) 4
    (λ j k. agree_by_powers (λ x. f (only j x) r) (λ x. g (only j x) r)
    (λ x y. ap (λ u. f u r) (λ i l. only_add j x y l i) ∙ (λ i. p (only j x) (only j y) i r))
    (λ x y. ap (λ u. g u r) (λ i l. only_add j x y l i) ∙ (λ i. q (only j x) (only j y) i r))
    (all_below_tells 4 _ (all_below_tells 4 _ test r lt) j k))
    v h

-- ---- a matrix times each column of a state

-- a matrix times each column of a state
unfoldable pub times : (ℕ → List ℕ) → List ℕ → List ℕ
unfolding state row_by_column
times m s = state (λ r c. row_by_column (m r) s c)

-- column c of a state
abbrev pub column : List ℕ → ℕ → ℕ → ℕ
column s c j = byte_at s j c

-- a matrix times a state is linear over AddRoundKey
times_add : (m : ℕ → List ℕ) (s t : List ℕ)
    → times m (add_round_key s t) ≡ add_round_key (times m s) (times m t)
unfolding times add_round_key
times_add m s t = λ i. state (λ r c. row_times_add (m r) (column s c) (column t c) i)

-- MixColumns of a sum is the sum of the two
pub mix_columns_add : (s t : List ℕ) → mix_columns (add_round_key s t)
    ≡ add_round_key (mix_columns s) (mix_columns t)
unfolding mix_columns times
mix_columns_add s t = times_add mix_row s t

-- InvMixColumns of a sum is the sum of the two
pub inv_mix_columns_add : (s t : List ℕ) → inv_mix_columns (add_round_key s t)
    ≡ add_round_key (inv_mix_columns s) (inv_mix_columns t)
unfolding inv_mix_columns times
inv_mix_columns_add s t = times_add inv_mix_row s t

-- one matrix after another is the two on each column
times_times : (m n : ℕ → List ℕ) (s : List ℕ) → times m (times n s)
    ≡ state (λ r c. matrix m (matrix n (first_rows 4 (column s c))) r)
unfolding times first_rows
times_times m n s = refl

-- a product of two matrices, by what it is on the powers of x
times_as : (m n : ℕ → List ℕ) (f : (ℕ → ℕ) → ℕ → ℕ) → LinearMap f
    → agree_on_powers (λ v. matrix m (matrix n v)) f ≡ true
    → (s : List ℕ) → IsBytes s → times m (times n s)
    ≡ state (λ r c. f (first_rows 4 (column s c)) r)
times_as m n f p test s h =
    times_times m n s
    ∙ state_same _ _ (λ r c lt _. linear_maps_agree (λ v. matrix m (matrix n v)) f
    (product_add (matrix m) (matrix n) (matrix_add m) (matrix_add n)) p test
    (column s c) (λ j. h (j + 4 * c)) r lt)

-- where one matrix after another leaves the powers of x in each row as they are, the first undoes
-- the second
pub times_undone : (m n : ℕ → List ℕ) → agree_on_powers (λ v. matrix m (matrix n v)) (λ v. v) ≡ true
    → (s : List ℕ) → length s ≡ 16 → IsBytes s → times m (times n s) ≡ s
unfolding state build first_rows
times_undone m n test s l h = times_as m n (λ v. v) (λ v w. refl) test s h ∙ build-get_or 16 s 0 l

-- two matrices whose squares agree on the powers of x in each row have equal squares on states of
-- bytes
pub times_twice : (m n : ℕ → List ℕ)
    → agree_on_powers (λ v. matrix m (matrix m v)) (λ v. matrix n (matrix n v)) ≡ true
    → (s : List ℕ) → IsBytes s → times m (times m s) ≡ times n (times n s)
times_twice m n test s h =
    times_as m m (λ v. matrix n (matrix n v))
    (product_add (matrix n) (matrix n) (matrix_add n) (matrix_add n)) test s h
    ∙ sym (times_times n n s)
