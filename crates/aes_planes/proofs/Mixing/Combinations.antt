-- Column mixing as sums and doubles of a byte and the next ones of its column.
use Rattle.std.proofs.Common.{◌≡◌, ℕ, zero, suc, ◌+◌, ◌*◌, ◌%◌, ◌<◌, true, Bool, List, map, refl}
use Rattle.std.proofs.Common.{ap, sym, ◌∙◌, arith}
use Rattle.aes_planes.specs.Bits.{IsShape}
use Rattle.aes_planes.specs.Fips197.{IsBytes, field_add, field_mul, build, state, mix_row}
use Rattle.aes_planes.specs.Fips197.{inv_mix_row, mix_columns, inv_mix_columns, shift_rows}
use Rattle.aes_planes.specs.Fips197.{inv_shift_rows, shift_times, inv_shift_times}
use Rattle.aes_planes.specs.Planes.{held, held_byte, place, between_shifts}
use Rattle.aes_planes.proofs.Bits.ByteCases.{all_below, by_four}
use Rattle.aes_planes.proofs.Planes.Held.{place_lt, stepped_held}
use Rattle.aes_planes.proofs.Standard.FieldLaws.{add_swap, field_mul_add}
use Rattle.aes_planes.proofs.Standard.LinearSteps.{add_columns, matrix, matrix_add, column, times}
use Rattle.aes_planes.proofs.Standard.LinearSteps.{only, first_rows, agree_on_powers}
use Rattle.aes_planes.proofs.Standard.LinearSteps.{linear_maps_agree}
use Rattle.aes_planes.proofs.Standard.States.{state_same, state_bytes}
use Rattle.aes_planes.proofs.Standard.Steps.{shift_times_bytes}

-- what is made of a byte and of the next ones of its column
pub data Mix : Type 0 where
  -- one of the bytes, counted from the first on
  Byte : ℕ → Mix
  -- the sum of two bytes that are made
  Sum : Mix → Mix → Mix
  -- the product of such a byte with x
  Double : Mix → Mix
  -- what is made in the same way of the bytes from two on
  FromTwoOn : Mix → Mix

-- the byte that is made of the bytes v 0, v 1, ..
abbrev pub mixed_byte : Mix → (ℕ → ℕ) → ℕ
mixed_byte (Byte j) v = v j
mixed_byte (Sum x y) v = field_add (mixed_byte x v) (mixed_byte y v)
mixed_byte (Double x) v = field_mul 2 (mixed_byte x v)
mixed_byte (FromTwoOn x) v = mixed_byte x (λ j. v (suc (suc j)))

-- what `Mix` describes is linear over sums, so tests at the powers of x suffice
made_add : (x : Mix) (v w : ℕ → ℕ) → mixed_byte x (add_columns v w) ≡ field_add (mixed_byte x v) (mixed_byte x w)
made_add (Byte j) v w = refl
made_add (Sum x y) v w =
    (λ i. field_add (made_add x v w i) (made_add y v w i))
    ∙ add_swap (mixed_byte x v) (mixed_byte x w) (mixed_byte y v) (mixed_byte y w)
made_add (Double x) v w = ap (field_mul 2) (made_add x v w) ∙ field_mul_add 2 (mixed_byte x v) (mixed_byte x w)
made_add (FromTwoOn x) v w = made_add x (λ j. v (suc (suc j))) (λ j. w (suc (suc j)))

-- the bytes from row r and column c on, each a row and `cols` columns after the one before
abbrev pub onward : ℕ → (ℕ → ℕ → ℕ) → ℕ → ℕ → ℕ → ℕ
onward cols f r c zero = f r c
onward cols f r c (suc j) = onward cols f ((r + 1) % 4) ((c + cols) % 4) j

-- ---- MixColumns and its inverse

-- the sum of a byte and the next
abbrev pub sums : Mix
sums = Sum (Byte 0) (Byte 1)

-- 3 times a byte plus twice the next
abbrev pub low : Mix
low = Sum (Byte 0) (Double sums)

-- 13 times a byte plus 9 times the next
abbrev pub high : Mix
high = Sum sums (Double (Double low))

-- what MixColumns makes
abbrev pub forward : Mix
forward = Sum (Sum (Byte 1) (Double sums)) (FromTwoOn sums)

-- what InvMixColumns makes
abbrev pub inverse : Mix
inverse = Sum (Sum low high) (FromTwoOn high)

-- the byte that x makes of a column's bytes from row r on, and around
from_row : Mix → (ℕ → ℕ) → ℕ → ℕ
from_row x v r = mixed_byte x (λ j. v ((r + j) % 4))

-- a matrix that agrees with x on the powers of x, times each column of a state of bytes
made_of_columns : (m : ℕ → List ℕ) (x : Mix) → agree_on_powers (matrix m) (from_row x) ≡ true
    → (s : List ℕ)
    → IsBytes s → times m s ≡ state (λ r c. from_row x (first_rows 4 (column s c)) r)
unfolding times first_rows from_row
made_of_columns m x test s h =
    state_same _ _ (λ r c lt _. linear_maps_agree (matrix m) (from_row x) (matrix_add m)
    (λ v w i r. made_add x (λ j. v ((r + j) % 4)) (λ j. w ((r + j) % 4)) i) test (column s c)
    (λ j. h (j + 4 * c)) r lt)

-- a step that makes x of the bytes of each column, between as many shifts of the rows
abbrev pub Mixes : Mix → (List ℕ → List ℕ) → Type 0
Mixes x step = (cols : ℕ) → cols < 4 → (f : ℕ → ℕ → ℕ) → ((r c : ℕ) → f r c < 256)
    → state (λ r c. mixed_byte x (onward cols f r c)) ≡ between_shifts cols step (state f)

-- MixColumns makes `forward` of the bytes of each column
pub mix_made : Mixes forward mix_columns
unfolding mix_columns times state build agree_on_powers all_below only field_mul first_rows from_row shift_times shift_rows
    inv_shift_times inv_shift_rows
mix_made cols h f bytes =
    let back = λ (k : ℕ). sym
    (ap (inv_shift_times k) (made_of_columns mix_row forward refl (shift_times k (state f))
    (shift_times_bytes k (state f) (state_bytes f bytes)))) in
    by_four (λ k. state (λ r c. mixed_byte forward (onward k f r c))
    ≡ between_shifts k mix_columns (state f))
    (back 0) (back 1) (back 2) (back 3) cols h

-- InvMixColumns makes `inverse` of the bytes of each column
pub inv_mix_made : Mixes inverse inv_mix_columns
unfolding inv_mix_columns times state build agree_on_powers all_below only field_mul first_rows from_row shift_times
    shift_rows inv_shift_times inv_shift_rows
inv_mix_made cols h f bytes =
    let back = λ (k : ℕ). sym
    (ap (inv_shift_times k) (made_of_columns inv_mix_row inverse refl (shift_times k (state f))
    (shift_times_bytes k (state f) (state_bytes f bytes)))) in
    by_four (λ k. state (λ r c. mixed_byte inverse (onward k f r c))
    ≡ between_shifts k inv_mix_columns (state f))
    (back 0) (back 1) (back 2) (back 3) cols h

-- ---- on planes

-- planes that hold in each place what x makes of the old bytes from there on
pub record Makes (n cols : ℕ) (old : List (List Bool)) (x : Mix)
    (planes : List (List Bool)) : Type 0 where
  -- the byte that the planes hold at a place
  pub bytes : (r c k : ℕ) → r < 4 → c < 4 → k < n
      → held_byte planes (place n r c k) ≡ mixed_byte x
      (onward cols (λ r c. held_byte old (place n r c k)) r c)

module _ {A : Type 0} {bits : A → List Bool} {n w R H Q N S : ℕ}
    (shape : IsShape bits n w R H Q N S) (cols : ℕ)
    (old : List (List Bool)) where
  -- a place is one of the word's bits
  inside : (r c k : ℕ) → r < 4 → c < 4 → k < n → place n r c k < w
  inside r c k hr hc hk = omega (arith, shape.sixteen, place_lt n r c k hr hc hk)

  -- planes that hold the sums of the bytes of two others make the sum of what those make
  pub summed : {x y : Mix} {a b z : List (List Bool)} → Makes n cols old x a → Makes n cols old y b
      → ((i : ℕ) → i < w → held_byte z i ≡ field_add (held_byte a i) (held_byte b i))
      → Makes n cols old (Sum x y) z
  summed p q e = record {
    bytes = λ r c k hr hc hk. e (place n r c k) (inside r c k hr hc hk)
        ∙ (λ t. field_add (p.bytes r c k hr hc hk t) (q.bytes r c k hr hc hk t));
  }

  -- planes that hold the doubles of the bytes of others make the double of what those make
  pub doubled : {x : Mix} {a z : List (List Bool)} → Makes n cols old x a
      → ((i : ℕ) → i < w → held_byte z i ≡ field_mul 2 (held_byte a i))
      → Makes n cols old (Double x) z
  doubled p e = record {
    bytes = λ r c k hr hc hk. e (place n r c k) (inside r c k hr hc hk)
        ∙ ap (field_mul 2) (p.bytes r c k hr hc hk);
  }

  -- planes that are rotated by two rows
  pub rotated_two : {x : Mix} {a z : List (List Bool)} → Makes n cols old x a
      → ((r c k : ℕ) → r < 4 → c < 4 → k < n
      → held_byte z (place n r c k) ≡ held_byte a
      (place n ((r + 2) % 4) ((c + 2 * cols % 4) % 4) k))
      → Makes n cols old (FromTwoOn x) z
  rotated_two {x = x} p rotated = record {
    bytes = λ r c k hr hc hk.
        let row : (r + 2) % 4 ≡ ((r + 1) % 4 + 1) % 4 = omega arith in
        let column : (c + 2 * cols % 4) % 4 ≡ ((c + cols) % 4 + cols) % 4 = omega arith in
        rotated r c k hr hc hk ∙ p.bytes _ _ k (omega arith) (omega arith) hk
        ∙ (λ t. mixed_byte x (onward cols (λ r c. held_byte old (place n r c k)) (row t) (column t)));
  }

  -- planes of which a step makes x hold the blocks after the step, between as many shifts
  pub mixed : {x : Mix} {new : List (List Bool)} (step : List ℕ → List ℕ) → Mixes x step → cols < 4
      → ((i : ℕ) → held_byte old i < 256) → Makes n cols old x new
      → held n new ≡ map (between_shifts cols step) (held n old)
  mixed {x = x} {new = new} step e h small p = stepped_held (between_shifts cols step)
      (λ f r c. mixed_byte x (onward cols f r c)) n new old
      (λ k. e cols h (λ r c. held_byte old (place n r c k)) (λ r c. small (place n r c k))) p.bytes
