-- Numbers by digits of 16, and products of numbers with holes between their bits: no carry reaches
-- the next bit, so they are products without carries.
use Rattle.std.proofs.Common.{◌≡◌, ℕ, zero, suc, ◌+◌, ◌*◌, ◌/◌, ◌%◌, ◌^◌, ◌<◌, ◌≤◌}
use Rattle.std.proofs.Common.{bit_and, bit_xor, min, refl, ap, sym, ◌∙◌, subst, arith}
use Rattle.std.proofs.lemmas.Nat.{and_block, and_comm, and_mask, pow_pos}
use Rattle.std.proofs.lemmas.Nat.Bits.{bit_at-lt, bit_at_and, bit_at_xor, same_from_bits}
use Rattle.std.specs.Int.Bits.{and_zero_r, xor_zero_l}
use Rattle.aes_planes.proofs.Bits.ByteCases.{by_two, by_pairs}
use Rattle.aes_planes.proofs.Standard.FieldLaws.{add_swap}
use Rattle.gcm.specs.Carryless.{carryless, holes}
use Rattle.gcm.proofs.WithoutCarries.Carryless.{carryless_left_zero, carryless_split, carryless_cut}
use Rattle.gcm.proofs.Products.Linear.{shift_keeps, sum_without_carry}

-- ---- masks

-- a bit of a sum under a bit of a mask
bit_case : (p q r : ℕ) → p < 2 → q < 2 → r < 2 → min ((p + q) % 2) r ≡ (min p r + min q r) % 2
bit_case p q r hp hq hr =
    by_two (λ r. min ((p + q) % 2) r ≡ (min p r + min q r) % 2) (omega arith) (omega arith) r hr

-- a mask keeps sums
pub masked_sum : (m a b : ℕ) → bit_and (bit_xor a b) m ≡ bit_xor (bit_and a m) (bit_and b m)
masked_sum m a b =
    same_from_bits _ _ (λ i. bit_at_and (bit_xor a b) m i
    ∙ ap (λ p. min p (m / 2 ^ i % 2)) (bit_at_xor a b i)
    ∙ bit_case (a / 2 ^ i % 2) (b / 2 ^ i % 2) (m / 2 ^ i % 2) (bit_at-lt a i) (bit_at-lt b i)
    (bit_at-lt m i)
    ∙ sym (bit_at_xor (bit_and a m) (bit_and b m) i
    ∙ (λ t. (bit_at_and a m i t + bit_at_and b m i t) % 2)))

-- a shifted number under a shifted mask is the masked number, shifted
pub masked_shifted : (k n m r : ℕ) → r < 2 ^ k
    → bit_and (n * 2 ^ k + r) (m * 2 ^ k) ≡ bit_and n m * 2 ^ k
masked_shifted k n m r small =
    let mask : m * 2 ^ k ≡ m * 2 ^ k + 0 = omega arith in
    ap (bit_and (n * 2 ^ k + r)) mask ∙ and_block k n m r 0 small (pow_pos k)
    ∙ ap (λ z. bit_and n m * 2 ^ k + z) (and_zero_r r) ∙ omega arith

-- the lowest bits of n + 1 digits are those of the digits above the first, one digit up, and that
-- of the first
pub holes_next : (x n : ℕ) → bit_and x (holes (suc n)) ≡ bit_and (x / 16) (holes n) * 16 + x % 2
unfolding holes
holes_next x n =
    let parts : x ≡ x / 16 * 2 ^ 4 + x % 16 = omega arith in
    let last : bit_and (x % 16) 1 ≡ x % 2 = and_mask (x % 16) 1 ∙ omega arith in
    ap (λ y. bit_and y (holes n * 16 + 1)) parts
    ∙ and_block 4 (x / 16) (holes n) (x % 16) 1 (omega arith) (omega arith)
    ∙ ap (λ b. bit_and (x / 16) (holes n) * 16 + b) last

-- ---- digits

-- a number has n digits of 16, each at most m
pub AreDigits : ℕ → ℕ → ℕ → Type 0
AreDigits m zero x = x ≡ 0
AreDigits m (suc n) x = (x % 16 ≤ m) × AreDigits m n (x / 16)

-- 0 has n digits of 16, for every n
no_digits : (m n : ℕ) → AreDigits m n 0
unfolding AreDigits
no_digits m zero = refl
no_digits m (suc n) = (omega arith, no_digits m n)

-- a number of n digits has n + 1: a zero stands before them
one_before : (m n x : ℕ) → AreDigits m n x → AreDigits m (suc n) x
unfolding AreDigits
one_before m zero x is = (omega (arith, is), omega (arith, is))
one_before m (suc n) x is = (is.0, one_before m n (x / 16) is.1)

-- a number of n digits has k + n: zeros stand before them
more_before : (k m n x : ℕ) → AreDigits m n x → AreDigits m (k + n) x
more_before zero m n x is =
    let e : n ≡ 0 + n = omega arith in
    subst (λ j. AreDigits m j x) e is
more_before (suc k) m n x is =
    let e : suc (k + n) ≡ suc k + n = omega arith in
    subst (λ j. AreDigits m j x) e (one_before m (k + n) x (more_before k m n x is))

-- the digits of a sum that has no carry
summed : (m k n x y : ℕ) → m + k < 16 → AreDigits m n x → AreDigits k n y
    → AreDigits (m + k) n (x + y)
unfolding AreDigits
summed m k zero x y small is also = omega (arith, is, also)
summed m k (suc n) x y small is also =
    let low : x % 16 ≤ m = is.0 in
    let high : y % 16 ≤ k = also.0 in
    let upper : x / 16 + y / 16 ≡ (x + y) / 16 = omega arith in (
      omega arith,
      subst (AreDigits (m + k) n) upper
          (summed m k n (x / 16) (y / 16) small is.1 also.1),
    )

-- the lowest bits of n + 1 digits, as a sum modulo 2
bits_apart : (x n : ℕ) → bit_and x (holes (suc n))
    ≡ bit_xor (bit_and (x / 16) (holes n) * 2 ^ 4) (x % 2)
bits_apart x n = holes_next x n
    ∙ sym (sum_without_carry 4 (bit_and (x / 16) (holes n)) (x % 2) (omega arith))

-- nothing is left of a number under the mask of no digit
none_masked : (x : ℕ) → bit_and x (holes 0) ≡ 0
unfolding holes
none_masked x = and_zero_r x

-- the lowest bits of the digits of a sum that has no carry
bits_summed : (m k n x y : ℕ) → m + k < 16 → AreDigits m n x → AreDigits k n y
    → bit_and (x + y) (holes n) ≡ bit_xor (bit_and x (holes n)) (bit_and y (holes n))
unfolding AreDigits
bits_summed m k zero x y small is also =
    none_masked (x + y) ∙ sym (λ t. bit_xor (none_masked x t) (none_masked y t))
bits_summed m k (suc n) x y small is also =
    let low : x % 16 ≤ m = is.0 in
    let high : y % 16 ≤ k = also.0 in
    let upper : (x + y) / 16 ≡ x / 16 + y / 16 = omega arith in
    let p : ℕ = bit_and (x / 16) (holes n) in
    let q : ℕ = bit_and (y / 16) (holes n) in
    let last : (x + y) % 2 ≡ bit_xor (x % 2) (y % 2) = last_bit x y in
    bits_apart (x + y) n
    ∙ (λ t. bit_xor ((ap (λ z. bit_and z (holes n)) upper
    ∙ bits_summed m k n (x / 16) (y / 16) small is.1 also.1) t * 2 ^ 4) (last t))
    ∙ ap (λ z. bit_xor z (bit_xor (x % 2) (y % 2))) (sym (shift_keeps 4 p q))
    ∙ add_swap (p * 2 ^ 4) (q * 2 ^ 4) (x % 2) (y % 2)
    ∙ (λ t. bit_xor (sym (bits_apart x n) t) (sym (bits_apart y n) t))
  where
    bit_cases : (a b : ℕ) → a < 2 → b < 2 → (a + b) % 2 ≡ bit_xor a b
    bit_cases = by_pairs _ refl refl refl refl

    last_bit : (x y : ℕ) → (x + y) % 2 ≡ bit_xor (x % 2) (y % 2)
    last_bit x y =
        let e : (x + y) % 2 ≡ (x % 2 + y % 2) % 2 = omega arith in
        e ∙ bit_cases (x % 2) (y % 2) (omega arith) (omega arith)

-- digits that are 0 or 1 are their lowest bits
bits_are : (n x : ℕ) → AreDigits 1 n x → bit_and x (holes n) ≡ x
unfolding AreDigits
bits_are zero x is = none_masked x ∙ sym is
bits_are (suc n) x is =
    let low : x % 16 ≤ 1 = is.0 in
    holes_next x n ∙ ap (λ y. y * 16 + x % 2) (bits_are n (x / 16) is.1) ∙ omega arith

-- the lowest bits of n digits are digits that are 0 or 1
pub masked_digits : (n x : ℕ) → AreDigits 1 n (bit_and x (holes n))
unfolding AreDigits
masked_digits zero x = none_masked x
masked_digits (suc n) x =
    let upper : bit_and (x / 16) (holes n) ≡ bit_and x (holes (suc n)) / 16 =
    omega (arith, holes_next x n) in
    (omega (arith, holes_next x n), subst (AreDigits 1 n) upper (masked_digits n (x / 16)))

-- the product without carries of a digit 0 or 1 and a number is their product
one_digit : (d y : ℕ) → d < 2 → carryless 4 d y ≡ d * y
unfolding carryless
one_digit d y small = by_two (λ d. carryless 4 d y ≡ d * y) none one d small
  where
    none : carryless 4 0 y ≡ 0 * y
    none = carryless_left_zero 4 y ∙ omega arith

    one : carryless 4 1 y ≡ 1 * y
    one = xor_zero_l y ∙ omega arith

-- a digit 0 or 1, times digits that are 0 or 1, has such digits
digit_times : (d n y : ℕ) → d < 2 → AreDigits 1 n y → AreDigits 1 n (d * y)
digit_times d n y small is = by_two (λ d. AreDigits 1 n (d * y)) none one d small
  where
    none : AreDigits 1 n (0 * y)
    none = let e : 0 ≡ 0 * y = omega arith in subst (AreDigits 1 n) e (no_digits 1 n)

    one : AreDigits 1 n (1 * y)
    one = let e : y ≡ 1 * y = omega arith in subst (AreDigits 1 n) e is

-- a number of n digits, times 16, has n + 1: a zero stands behind them
zero_behind : (m n x : ℕ) → AreDigits m n x → AreDigits m (suc n) (x * 16)
unfolding AreDigits
zero_behind m n x is =
    let upper : x ≡ x * 16 / 16 = omega arith in
    (omega arith, subst (AreDigits m n) upper is)

-- what a product of k and of n digits has: digits that are at most k, and without carries their
-- lowest bits
pub record IsProduct (k n x y : ℕ) : Type 0 where
  pub digits : AreDigits k (k + n) (x * y)
  pub bits : bit_and (x * y) (holes (k + n)) ≡ carryless (4 * k) x y

-- a product of no bits is 0
none_by : (x y : ℕ) → carryless (4 * 0) x y ≡ 0
unfolding carryless
none_by x y = refl

-- the product of two numbers whose digits are 0 or 1 is their product without carries, between the
-- holes
pub digits_times : (k n x y : ℕ) → k < 15 → AreDigits 1 k x → AreDigits 1 n y → IsProduct k n x y
unfolding AreDigits
digits_times zero n x y small is also =
    let start : 0 ≡ 0 * y = omega arith in
    let none : 0 ≡ x * y = start ∙ ap (λ z. z * y) (sym is) in
    record {
      digits = subst (AreDigits 0 (0 + n)) none (no_digits 0 (0 + n));
      bits = ap (λ z. bit_and z (holes (0 + n))) (sym none) ∙ and_comm 0 (holes (0 + n))
          ∙ and_zero_r (holes (0 + n)) ∙ sym (none_by x y);
    }
digits_times (suc k) n x y small is also =
    let low : x % 16 < 2 = omega (arith, is.0) in
    let inner : IsProduct k n (x / 16) y =
    digits_times k n (x / 16) y (omega (arith, small)) is.1 also in
    let p : ℕ = x / 16 * y in
    let q : ℕ = x % 16 * y in
    let whole : p * 16 + q ≡ x * y = parts x y in
    let more : suc k + n ≡ suc (k + n) = omega arith in
    let one : k + 1 ≡ suc k = omega arith in
    let upper : AreDigits k (suc (k + n)) (p * 16) = zero_behind k (k + n) p inner.digits in
    let lower : AreDigits 1 (suc (k + n)) q =
    one_before 1 (k + n) q (more_before k 1 n q (digit_times (x % 16) n y low also)) in
    let above : p ≡ p * 16 / 16 = omega arith in
    let even : p * 16 % 2 ≡ 0 = omega arith in
    let four : 4 * suc k ≡ 4 * k + 4 = omega arith in
    record {
      digits = subst (λ j. AreDigits (suc k) j (x * y)) (sym more)
          (subst (λ z. AreDigits (suc k) (suc (k + n)) z) whole
          (subst (λ m. AreDigits m (suc (k + n)) (p * 16 + q)) one
          (summed k 1 (suc (k + n)) (p * 16) q (omega (arith, small)) upper lower)));
      bits = (λ t. bit_and (sym whole t) (holes (more t)))
          ∙ bits_summed k 1 (suc (k + n)) (p * 16) q (omega (arith, small)) upper lower
          ∙ (λ t. bit_xor ((holes_next (p * 16) (k + n)
          ∙ (λ u. bit_and (sym above u) (holes (k + n)) * 16 + even u)
          ∙ ap (λ c. c * 16 + 0) inner.bits) t) (bits_are (suc (k + n)) q lower t))
          ∙ (λ t. bit_xor (plain (carryless (4 * k) (x / 16) y) t)
          (sym (carryless_cut 4 x y ∙ one_digit (x % 16) y low) t))
          ∙ sym (carryless_split (4 * k) 4 x y) ∙ ap (λ j. carryless j x y) (sym four);
    }
  where
    parts : (x y : ℕ) → x / 16 * y * 16 + x % 16 * y ≡ x * y
    parts x y =
        let e : x / 16 * 16 + x % 16 ≡ x = omega arith in
        grind arith ∙ ap (λ z. z * y) e

    plain : (c : ℕ) → c * 16 + 0 ≡ c * 2 ^ 4
    plain c = omega arith
