-- Products of words without carries, by products of every fourth bit.
use Rattle.std.proofs.Common.{◌≡◌, ℕ, ◌+◌, ◌-◌, ◌*◌, ◌/◌, ◌%◌, ◌^◌, ◌<◌, bit_and, bit_xor, refl}
use Rattle.std.proofs.Common.{ap, sym, ◌∙◌, arith, inl, inr}
use Rattle.std.proofs.lemmas.Bool.{cases_lt}
use Rattle.std.proofs.lemmas.Nat.{xor_comm, and_block, and_comm, and_le_r, and_mask, pow_pos}
use Rattle.std.proofs.lemmas.Nat.{mul-lt, pow-add, shl-shr, shr_high, and_mod, xor_mod}
use Rattle.std.specs.Int.Bits.{and_zero_r, xor_zero_l, xor_zero_r}
use Rattle.aes_planes.proofs.Bits.ByteCases.{by_four}
use Rattle.gcm.specs.Carryless.{carryless, holes}
use Rattle.gcm.specs.Multiples.{sum_of}
use Rattle.gcm.proofs.WithoutCarries.Carryless.{carryless_left_keeps, carryless_right_keeps}
use Rattle.gcm.proofs.WithoutCarries.Carryless.{carryless_left_zero, carryless_right_zero}
use Rattle.gcm.proofs.WithoutCarries.Carryless.{carryless_right_shifted, carryless_split}
use Rattle.gcm.proofs.WithoutCarries.Carryless.{carryless_no_bits}
use Rattle.gcm.proofs.Products.Linear.{sum-ext, sum-first, sum-swap, sum-through}
use Rattle.gcm.proofs.WithoutCarries.Digits.{masked_sum, masked_shifted, holes_next, masked_digits}
use Rattle.gcm.proofs.WithoutCarries.Digits.{digits_times}

-- every fourth bit of a word from bit r on
unfoldable pub every_fourth : ℕ → ℕ → ℕ
every_fourth x r = bit_and x (holes 8 * 2 ^ r)

-- every fourth bit of a word from bit r on is every fourth bit from bit 0 on of the word shifted
-- down, shifted up again
from_first : (x r : ℕ) → every_fourth x r ≡ bit_and (x / 2 ^ r) (holes 8) * 2 ^ r
unfolding every_fourth
from_first x r =
    let parts : x ≡ x / 2 ^ r * 2 ^ r + x % 2 ^ r = omega (arith, pow_pos r) in
    ap (λ z. bit_and z (holes 8 * 2 ^ r)) parts
    ∙ masked_shifted r (x / 2 ^ r) (holes 8) (x % 2 ^ r) (omega (arith, pow_pos r))

-- holes of eight digits have 29 bits
few_bits : (x : ℕ) → bit_and x (holes 8) < 2 ^ 29
unfolding holes
few_bits x = omega (arith, and_le_r x (holes 8))

-- a product without carries whose first factor, of no more than m bits, is shifted is shifted
carryless_left_shifted : (m r a y : ℕ) → a < 2 ^ m → carryless (m + r) (a * 2 ^ r) y
    ≡ carryless (m + r) a y * 2 ^ r
carryless_left_shifted m r a y small =
    let back : a * 2 ^ r / 2 ^ r ≡ a = shl-shr a r in
    let turned : m + r ≡ r + m = omega arith in
    let below : a ≡ 0 * 2 ^ m + a = omega arith in
    let none : a / 2 ^ m ≡ 0 = ap (λ z. z / 2 ^ m) below ∙ shr_high 0 m a small in
    carryless_split m r (a * 2 ^ r) y
    ∙ (λ t. bit_xor (carryless m (back t) y * 2 ^ r) (carryless_no_bits r a y t))
    ∙ xor_zero_r (carryless m a y * 2 ^ r)
    ∙ ap (λ c. c * 2 ^ r) (sym (ap (λ j. carryless j a y) turned ∙ carryless_split r m a y
    ∙ ap (λ z. bit_xor (carryless r z y * 2 ^ m) (carryless m a y)) none
    ∙ ap (λ z. bit_xor (z * 2 ^ m) (carryless m a y)) (carryless_left_zero r y)
    ∙ drop (2 ^ m) (carryless m a y)))
  where
    drop : (p c : ℕ) → bit_xor (0 * p) c ≡ c
    drop p c = let e : 0 * p ≡ 0 = omega arith in ap (λ z. bit_xor z c) e ∙ xor_zero_l c

-- the lowest bits of a product of 58 bits that is moved by a digit: of 16 digits the last is 0
digits_moved : (n : ℕ) → n < 2 ^ 58 → bit_and (n * 16) (holes 16) ≡ bit_and n (holes 16) * 16
unfolding holes
digits_moved n small =
    let above : n ≡ 0 * 2 ^ 60 + n = omega arith in
    let back : n * 16 / 16 ≡ n = omega arith in
    let even : n * 16 % 2 ≡ 0 = omega arith in
    holes_next (n * 16) 15 ∙ (λ t. bit_and (back t) (holes 15) * 16 + even t)
    ∙ plain (bit_and n (holes 15))
    ∙ ap (λ z. z * 16) (sym (ap (λ z. bit_and z (holes 16)) above
    ∙ and_block 60 0 1 n (holes 15) (omega (arith, small)) (omega arith) ∙ omega arith))
  where
    plain : (c : ℕ) → c * 16 + 0 ≡ c * 16
    plain c = omega arith

-- the product of bits r, r + 4, .. of one word and bits s, s + 4, .. of another: the sums of its
-- bits are at t, t + 4, .., and are those without carries
product_at_digits : (x y r s t : ℕ) → r < 4 → s < 4 → t ≡ (r + s) % 4
    → bit_and (every_fourth x r * every_fourth y s) (holes 16 * 2 ^ t)
    ≡ carryless 32 (every_fourth x r) (every_fourth y s)
product_at_digits x y r s t hr hs is =
    let a : ℕ = bit_and (x / 2 ^ r) (holes 8) in
    let b : ℕ = bit_and (y / 2 ^ s) (holes 8) in
    let whole : 32 - r + r ≡ 32 = omega (arith, hr) in
    let fits : a < 2 ^ (32 - r) =
    by_four (λ r. bit_and (x / 2 ^ r) (holes 8) < 2 ^ (32 - r))
    (omega (arith, few_bits (x / 2 ^ 0))) (omega (arith, few_bits (x / 2 ^ 1)))
    (omega (arith, few_bits (x / 2 ^ 2))) (omega (arith, few_bits (x / 2 ^ 3))) r hr in
    let bits : bit_and (a * b) (holes 16) ≡ carryless 32 a b =
    (digits_times 8 8 a b (omega arith) (masked_digits 8 (x / 2 ^ r)) (masked_digits 8 (y / 2 ^ s))).bits in
    let left : carryless 32 (a * 2 ^ r) b ≡ carryless 32 a b * 2 ^ r =
    ap (λ j. carryless j (a * 2 ^ r) b) (sym whole) ∙ carryless_left_shifted (32 - r) r a b fits
    ∙ ap (λ j. carryless j a b * 2 ^ r) whole in
    (λ u. bit_and (from_first x r u * from_first y s u) (holes 16 * 2 ^ t))
    ∙ ap (λ n. bit_and n (holes 16 * 2 ^ t)) (apart a (2 ^ r) b (2 ^ s)
    ∙ ap (λ p. a * b * p) (sym (pow-add 2 r s)))
    ∙ masked (a * b) t (r + s) is (omega (arith, hr, hs))
    (mul-lt a b (2 ^ 29) (2 ^ 29) (few_bits (x / 2 ^ r)) (few_bits (y / 2 ^ s)))
    ∙ ap (λ c. c * 2 ^ (r + s)) bits
    ∙ ap (λ p. carryless 32 a b * p) (pow-add 2 r s)
    ∙ grouped (carryless 32 a b) (2 ^ r) (2 ^ s)
    ∙ ap (λ c. c * 2 ^ s) (sym left)
    ∙ sym (carryless_right_shifted 32 (a * 2 ^ r) b s)
    ∙ (λ u. carryless 32 (sym (from_first x r) u) (sym (from_first y s) u))
  where
    apart : (a p b q : ℕ) → a * p * (b * q) ≡ a * b * (p * q)
    apart a p b q = grind arith

    grouped : (c p q : ℕ) → c * (p * q) ≡ c * p * q
    grouped c p q = grind arith

    masked : (n t u : ℕ) → t ≡ u % 4 → u < 7 → n < 2 ^ 58
        → bit_and (n * 2 ^ u) (holes 16 * 2 ^ t) ≡ bit_and n (holes 16) * 2 ^ u
    masked n t u is low small = elim (cases_lt u 4) [
      | inl few ↦
          let same : u ≡ t = omega (arith, is, few) in
          let none : n * 2 ^ t ≡ n * 2 ^ t + 0 = omega arith in
          ap (λ k. bit_and (n * 2 ^ k) (holes 16 * 2 ^ t)) same
          ∙ ap (λ z. bit_and z (holes 16 * 2 ^ t)) none
          ∙ masked_shifted t n (holes 16) 0 (pow_pos t)
          ∙ ap (λ k. bit_and n (holes 16) * 2 ^ k) (sym same)
      | inr many ↦
          let four : u ≡ 4 + t = omega (arith, is, many, low) in
          let none : n * 16 * 2 ^ t ≡ n * 16 * 2 ^ t + 0 = omega arith in
          ap (λ k. bit_and (n * 2 ^ k) (holes 16 * 2 ^ t)) four
          ∙ ap (λ p. bit_and (n * p) (holes 16 * 2 ^ t)) (pow-add 2 4 t)
          ∙ ap (λ z. bit_and z (holes 16 * 2 ^ t)) (grouped n 16 (2 ^ t) ∙ none)
          ∙ masked_shifted t (n * 16) (holes 16) 0 (pow_pos t)
          ∙ ap (λ z. z * 2 ^ t) (digits_moved n small)
          ∙ sym (grouped (bit_and n (holes 16)) 16 (2 ^ t))
          ∙ ap (λ p. bit_and n (holes 16) * p) (sym (pow-add 2 4 t))
          ∙ ap (λ k. bit_and n (holes 16) * 2 ^ k) (sym four)
    ]

-- a sum of four terms is the same from its last term on
sum_from_last : (g : ℕ → ℕ) → sum_of 4 (λ t. g ((t + 3) % 4)) ≡ sum_of 4 g
unfolding sum_of
sum_from_last g = sum-first 3 (λ t. g ((t + 3) % 4)) ∙ xor_comm (g 3) (sum_of 3 g)

-- a sum of four terms is the same from any of its terms on
sum_from_any : (g : ℕ → ℕ) (r : ℕ) → r < 4 → sum_of 4 (λ t. g ((t + 4 - r) % 4)) ≡ sum_of 4 g
unfolding sum_of
sum_from_any g =
    by_four (λ r. sum_of 4 (λ t. g ((t + 4 - r) % 4)) ≡ sum_of 4 g)
    refl (sum_from_last g) (sum_from_last (λ u. g ((u + 3) % 4)) ∙ sum_from_last g)
    (sum_from_last (λ u. g ((u + 2) % 4)) ∙ sum_from_last (λ u. g ((u + 3) % 4)) ∙ sum_from_last g)

-- the sum of the products of which the bits are at t, t + 4, ..
unfoldable pub products_at : ℕ → ℕ → ℕ → ℕ
unfolding sum_of
products_at x y t = sum_of 4 (λ r. every_fourth x r * every_fourth y ((t + 4 - r) % 4))

-- a word is the sum of its every fourth bits
fourths_sum : (x : ℕ) → x < 2 ^ 32 → sum_of 4 (every_fourth x) ≡ x
unfolding every_fourth sum_of holes
fourths_sum x small =
    sym (sum-through (bit_and x) (and_zero_r x) (λ a b. and_comm x (bit_xor a b)
    ∙ masked_sum x a b ∙ (λ t. bit_xor (and_comm a x t) (and_comm b x t))) 4
    (λ r. holes 8 * 2 ^ r))
    ∙ and_mask x 32 ∙ omega (arith, small)

-- the sixteen products, each under its mask, are the product without carries
products_sum : (x y : ℕ) → x < 2 ^ 32 → y < 2 ^ 32
    → sum_of 4 (λ t. bit_and (products_at x y t) (holes 16 * 2 ^ t)) ≡ carryless 32 x y
unfolding products_at
products_sum x y hx hy =
    let term = λ (r s : ℕ). carryless 32 (every_fourth x r) (every_fourth y s) in
    sum-ext 4 (λ t. bit_and (products_at x y t) (holes 16 * 2 ^ t))
    (λ t. sum_of 4 (λ r. term r ((t + 4 - r) % 4)))
    (λ t ht.
    sum-through (λ z. bit_and z (holes 16 * 2 ^ t))
    (and_comm 0 (holes 16 * 2 ^ t) ∙ and_zero_r (holes 16 * 2 ^ t))
    (masked_sum (holes 16 * 2 ^ t)) 4
    (λ r. every_fourth x r * every_fourth y ((t + 4 - r) % 4))
    ∙ sum-ext 4
    (λ r. bit_and (every_fourth x r * every_fourth y ((t + 4 - r) % 4)) (holes 16 * 2 ^ t))
    (λ r. term r ((t + 4 - r) % 4))
    (λ r hr. product_at_digits x y r ((t + 4 - r) % 4) t hr (omega arith) (omega (arith, hr, ht))))
    ∙ sum-swap 4 4 (λ t r. term r ((t + 4 - r) % 4))
    ∙ sum-ext 4 (λ r. sum_of 4 (λ t. term r ((t + 4 - r) % 4))) (λ r. sum_of 4 (term r))
    (λ r hr. sum_from_any (term r) r hr)
    ∙ sum-ext 4 (λ r. sum_of 4 (term r)) (λ r. carryless 32 (every_fourth x r) y)
    (λ r hr. sym (sum-through (carryless 32 (every_fourth x r))
    (carryless_right_zero 32 (every_fourth x r))
    (carryless_right_keeps 32 (every_fourth x r)) 4 (every_fourth y))
    ∙ ap (carryless 32 (every_fourth x r)) (fourths_sum y hy))
    ∙ sym (sum-through (λ z. carryless 32 z y) (carryless_left_zero 32 y)
    (λ a b. carryless_left_keeps 32 a b y) 4
    (every_fourth x))
    ∙ ap (λ z. carryless 32 z y) (fourths_sum x hx)

-- the sum of the lower halves of the products of which the bits are at t, t + 4, ..
unfoldable pub lower_at : ℕ → ℕ → ℕ → ℕ
unfolding sum_of
lower_at x y t =
    sum_of 4 (λ r. every_fourth x r * every_fourth y ((t + 4 - r) % 4) % 2 ^ 32)

-- the lower half of a mask of sixteen digits is one of eight
mask_halved : (t : ℕ) → t < 4 → holes 16 * 2 ^ t % 2 ^ 32 ≡ holes 8 * 2 ^ t
unfolding holes
mask_halved = by_four (λ t. holes 16 * 2 ^ t % 2 ^ 32 ≡ holes 8 * 2 ^ t) refl refl refl refl

-- sixteen lower halves, each under its mask, are that of the product without carries
pub lower_sum : (x y : ℕ) → x < 2 ^ 32 → y < 2 ^ 32
    → sum_of 4 (λ t. bit_and (lower_at x y t) (holes 8 * 2 ^ t)) ≡ carryless 32 x y % 2 ^ 32
unfolding lower_at products_at
lower_sum x y hx hy =
    let halved = λ (a b : ℕ). xor_mod a b 32 in
    let at = λ (t r : ℕ). every_fourth x r * every_fourth y ((t + 4 - r) % 4) in
    sym (ap (λ z. z % 2 ^ 32) (sym (products_sum x y hx hy))
    ∙ sum-through (λ z. z % 2 ^ 32) refl halved 4
    (λ t. bit_and (products_at x y t) (holes 16 * 2 ^ t))
    ∙ sum-ext 4 (λ t. bit_and (products_at x y t) (holes 16 * 2 ^ t) % 2 ^ 32)
    (λ t. bit_and (lower_at x y t) (holes 8 * 2 ^ t))
    (λ t ht. and_mod (products_at x y t) (holes 16 * 2 ^ t) 32
    ∙ (λ u. bit_and (sum-through (λ z. z % 2 ^ 32) refl halved 4 (at t) u) (mask_halved t ht u))))

-- the sum of four terms, from 0 on
pub sum_of_four : (a b c d : ℕ) → bit_xor (bit_xor (bit_xor a b) c) d
    ≡ bit_xor (bit_xor (bit_xor (bit_xor 0 a) b) c) d
sum_of_four a b c d = ap (λ z. bit_xor (bit_xor (bit_xor z b) c) d) (sym (xor_zero_l a))

-- the lower halves of the four products of which the bits are at t, t + 4, ..
pub lower_at_sum : (x y t a b c d : ℕ) → a ≡ every_fourth x 0 * every_fourth y ((t + 4 - 0) % 4) % 2 ^ 32
    → b ≡ every_fourth x 1 * every_fourth y ((t + 4 - 1) % 4) % 2 ^ 32
    → c ≡ every_fourth x 2 * every_fourth y ((t + 4 - 2) % 4) % 2 ^ 32
    → d ≡ every_fourth x 3 * every_fourth y ((t + 4 - 3) % 4) % 2 ^ 32
    → bit_xor (bit_xor (bit_xor a b) c) d ≡ lower_at x y t
unfolding lower_at sum_of
lower_at_sum x y t a b c d a_is b_is c_is d_is =
    sum_of_four a b c d ∙ (λ u. bit_xor (bit_xor (bit_xor (bit_xor 0 (a_is u)) (b_is u)) (c_is u))
    (d_is u))
