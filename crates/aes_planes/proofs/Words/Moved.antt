-- Words that are turned or shifted by a number of bits, at once or in two steps, at every width.
use Rattle.std.proofs.Common.{◌≡◌, ℕ, ◌+◌, ◌-◌, ◌*◌, ◌/◌, ◌%◌, Bool, ◌&&◌, nat_le, nat_lt, List, ap}
use Rattle.std.proofs.Common.{sym, ◌∙◌, arith, le-leb, inl, inr}
use Rattle.std.proofs.lemmas.Bool.{cases_lt, lt-leb, lt-ltb, le-ltb}
use Rattle.aes_planes.specs.Bits.{at, Places}

-- y has in each place the bit of x that is n places on, round the end
abbrev pub Turned : ℕ → List Bool → List Bool → ℕ → Type 0
Turned w x y n = Places w y (λ i. at x ((i + n) % w))

-- y has in each place the bit of x that is n places on, and zeros past the last
abbrev pub Right : ℕ → List Bool → List Bool → ℕ → Type 0
Right w x y n = Places w y (λ i. nat_lt (i + n) w && at x (i + n))

-- y has in each place the bit of x that is n places back, and zeros below the first
abbrev pub Left : ℕ → List Bool → List Bool → ℕ → Type 0
Left w x y n = Places w y (λ i. nat_le n i && at x (i - n))

-- the bit m places back from i is the bit n places back from j, where i + n is j + m
pub left_by : (x : List Bool) (m n i j : ℕ) → i + n ≡ j + m
    → (nat_le m i && at x (i - m)) ≡ (nat_le n j && at x (j - n))
left_by x m n i j e = elim (cases_lt i m) [
  | inl lt ↦ (λ t. lt-leb m i lt t && at x (i - m))
      ∙ (λ t. sym (lt-leb n j (omega arith)) t && at x (j - n))
  | inr le ↦
      let place : i - m ≡ j - n = omega arith in
      (λ t. le-leb m i le t && at x (place t))
      ∙ (λ t. sym (le-leb n j (omega arith)) t && at x (j - n))
]

-- ---- by whole bytes

-- where 8 divides n, a rotation by n / 8 bytes is a rotation by n bits
pub rotate_whole : (w : ℕ) (x y : List Bool) (n : ℕ) → n % 8 ≡ 0 → Turned w x y (8 * (n / 8))
    → Turned w x y n
rotate_whole w x y n z t i l =
    let e : 8 * (n / 8) ≡ n = omega (arith, z) in
    t i l ∙ ap (λ v. at x ((i + v) % w)) e

-- where 8 divides n, a shift right by n / 8 bytes is a shift right by n bits
pub shift_right_whole : (w : ℕ) (x y : List Bool) (n : ℕ) → n % 8 ≡ 0 → Right w x y (8 * (n / 8))
    → Right w x y n
shift_right_whole w x y n z t i l =
    let e : 8 * (n / 8) ≡ n = omega (arith, z) in
    t i l ∙ ap (λ v. nat_lt (i + v) w && at x (i + v)) e

-- where 8 divides n, a shift left by n / 8 bytes is a shift left by n bits
pub shift_left_whole : (w : ℕ) (x y : List Bool) (n : ℕ) → n % 8 ≡ 0 → Left w x y (8 * (n / 8))
    → Left w x y n
shift_left_whole w x y n z t i l =
    let e : 8 * (n / 8) ≡ n = omega (arith, z) in
    t i l ∙ ap (λ v. nat_le v i && at x (i - v)) e

-- ---- by eight bits more

-- a shift right by n bits, and then by eight, is one by m
pub right_again : (w : ℕ) (x y z : List Bool) (n m : ℕ) → Right w x y n → Right w y z 8 → m ≡ n + 8
    → Right w x z m
right_again w x y z n m y_is z_is m_is i l = z_is i l ∙ elim (cases_lt (i + 8) w) [
  | inl lt ↦
      let place : i + 8 + n ≡ i + m = omega (arith, m_is) in
      ap (λ b. b && at y (i + 8)) (lt-ltb (i + 8) w lt) ∙ y_is (i + 8) lt
      ∙ ap (λ v. nat_lt v w && at x v) place
  | inr le ↦ ap (λ b. b && at y (i + 8)) (le-ltb (i + 8) w le)
      ∙ ap (λ c. c && at x (i + m)) (sym (le-ltb (i + m) w (omega (arith, m_is, le))))
]

-- a shift left by n bits, and then by eight, is one by m
pub left_again : (w : ℕ) (x y z : List Bool) (n m : ℕ) → Left w x y n → Left w y z 8 → m ≡ n + 8
    → Left w x z m
left_again w x y z n m y_is z_is m_is i l = z_is i l ∙ elim (cases_lt i 8) [
  | inl lt ↦ ap (λ b. b && at y (i - 8)) (lt-leb 8 i lt)
      ∙ ap (λ c. c && at x (i - m)) (sym (lt-leb m i (omega (arith, m_is, lt))))
  | inr le ↦ ap (λ b. b && at y (i - 8)) (le-leb 8 i le) ∙ y_is (i - 8) (omega (arith, l))
      ∙ left_by x n m (i - 8) i (omega (arith, m_is, le))
]
