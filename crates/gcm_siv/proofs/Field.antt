-- POLYVAL's field is GCM's with the bits in the other order: dot is GCM's product with x^-1 times a
-- factor (RFC 8452, appendix A).
use Rattle.std.proofs.Common.{◌≡◌, ℕ, zero, suc, ◌+◌, ◌-◌, ◌*◌, ◌/◌, ◌%◌, ◌^◌, ◌<◌, ◌≤◌, ◌==◌}
use Rattle.std.proofs.Common.{if◌then◌else◌, List, inl, inr, bit_xor, refl, ap}
use Rattle.std.proofs.Common.{sym, ◌∙◌, arith}
use Rattle.std.proofs.lemmas.Bool.{cases_lt}
use Rattle.std.proofs.lemmas.Nat.{xor_comm, xor_shr}
use Rattle.std.specs.Int.{w128, from_le_bytes}
use Rattle.std.specs.List.{slice_range}
use Rattle.std.specs.Int.Bits.{xor_zero_r}
use Rattle.gcm.specs.Gcm.{bit_of, next_v, v_at, product}
use Rattle.gcm.specs.Hashed.{hashed_as, number_at}
use Rattle.gcm.specs.Multiples.{sum_of}
use Rattle.gcm.proofs.Products.Linear.{added_unless, next_even, next_keeps, term, product_terms}
use Rattle.gcm.proofs.Products.Linear.{sum-ext, sum-first}
use Rattle.gcm.proofs.Products.Powers.{product_right_v, product_by_one, product_below}
use Rattle.gcm_siv.specs.GcmSiv.{polynomial, inverse_power, times_x, times_power, times_below}
use Rattle.gcm_siv.specs.GcmSiv.{times, dot, block_at, polyval_after}

-- ---- x times an element

-- x times an element without x^127 is twice its number
times_low : (b : ℕ) → b < 2 ^ 127 → times_x b ≡ 2 * b
unfolding times_x
times_low b small =
    let none : b / 2 ^ 127 ≡ 0 = omega (arith, small) in
    ap (λ q. if q == 0 then 2 * b else bit_xor (2 * b) polynomial) none

-- x times an element with x^127 has the polynomial added, which has the x^128 that comes up
times_high : (b : ℕ) → 2 ^ 127 ≤ b → b < 2 ^ 128 → times_x b ≡ bit_xor (2 * b) polynomial
unfolding times_x
times_high b large small =
    let one : b / 2 ^ 127 ≡ 1 = omega (arith, large, small) in
    ap (λ q. if q == 0 then 2 * b else bit_xor (2 * b) polynomial) one

-- x times an element with x^127 has 128 bits: the polynomial takes x^128 away
high_small : (b : ℕ) → 2 ^ 127 ≤ b → b < 2 ^ 128 → bit_xor (2 * b) polynomial < 2 ^ 128
high_small b large small =
    let one : 2 * b / 2 ^ 128 ≡ 1 = omega (arith, large, small) in
    let gone : bit_xor (2 * b) polynomial / 2 ^ 128 ≡ 0 = xor_shr (2 * b) polynomial 128
    ∙ ap (λ q. bit_xor q 1) one in
    omega (arith, gone)

-- x times an element is an element
times_small : (b : ℕ) → b < 2 ^ 128 → times_x b < 2 ^ 128
times_small b small = elim (cases_lt b (2 ^ 127)) [
  | inl lt ↦ rw (times_low b lt) (omega (arith, lt))
  | inr le ↦ rw (times_high b le small) (high_small b le small)
]

-- x^-1 undoes x where the element had no x^127
even_back : (b : ℕ) → next_v (2 * b) ≡ b
even_back b =
    let doubled : 2 * b ≡ b * 2 = omega arith in
    ap next_v doubled ∙ next_even b

-- x^-1 times the polynomial, which is 0 in the field
none_of_polynomial : next_v polynomial ≡ 0
unfolding next_v
none_of_polynomial = refl

-- x^-1 undoes x where the element had x^127: the polynomial was added
odd_back : (b : ℕ) → next_v (bit_xor (2 * b) polynomial) ≡ b
odd_back b =
    next_keeps (2 * b) polynomial
    ∙ (λ t. bit_xor (even_back b t) (none_of_polynomial t)) ∙ xor_zero_r b

-- x^-1 undoes x
times_x_undone : (b : ℕ) → b < 2 ^ 128 → next_v (times_x b) ≡ b
times_x_undone b small = elim (cases_lt b (2 ^ 127)) [
  | inl lt ↦ ap next_v (times_low b lt) ∙ even_back b
  | inr le ↦ ap next_v (times_high b le small) ∙ odd_back b
]

-- ---- powers of x

-- an element times x^0 is the element
power_start : (b : ℕ) → times_power b 0 ≡ b
unfolding times_power
power_start b = refl

-- an element times a power of x is an element
power_small : (b i : ℕ) → b < 2 ^ 128 → times_power b i < 2 ^ 128
unfolding times_power
power_small b zero small = small
power_small b (suc i) small = times_small (times_power b i) (power_small b i small)

-- x^-j times x^(j + n) is x^n
back_by : (b j n : ℕ) → b < 2 ^ 128 → v_at (times_power b (j + n)) j ≡ times_power b n
unfolding times_power v_at
back_by b zero n small =
    let none : 0 + n ≡ n = omega arith in
    ap (times_power b) none
back_by b (suc j) n small =
    let more : suc j + n ≡ j + suc n = omega arith in
    ap (λ m. next_v (v_at (times_power b m) j)) more
    ∙ ap next_v (back_by b j (suc n) small)
    ∙ times_x_undone (times_power b n) (power_small b n small)

-- one power of x^-1 more is one step of the definition
one_more : (y n : ℕ) → v_at y (suc n) ≡ next_v (v_at y n)
unfolding v_at
one_more y n = refl

-- x^-128 times x^127 is x^-1
back_one : (b : ℕ) → b < 2 ^ 128 → v_at (times_power b 127) 128 ≡ next_v b
back_one b small =
    one_more (times_power b 127) 127 ∙ ap next_v (back_by b 127 0 small ∙ power_start b)

-- ---- products of elements

-- a sum is the same from its last term on
sum_from_last : (n : ℕ) (f : ℕ → ℕ) → sum_of n f ≡ sum_of n (λ i. f (n - 1 - i))
unfolding sum_of
sum_from_last zero f = refl
sum_from_last (suc n) f =
    let rest : ℕ = sum_of n (λ i. f (suc n - 1 - suc i)) in
    let last : n ≡ suc n - 1 - 0 = omega arith in
    ap (λ s. bit_xor s (f n))
    (sum_from_last n f ∙ sum-ext n (λ i. f (n - 1 - i)) (λ i. f (suc n - 1 - suc i))
    (λ i h. let same : n - 1 - i ≡ suc n - 1 - suc i = omega arith in ap f same))
    ∙ xor_comm rest (f n)
    ∙ ap (λ m. bit_xor (f m) rest) last
    ∙ sym (sum-first n (λ i. f (suc n - 1 - i)))

-- a product of elements is the sum of the multiples at the bits, as GCM's is
times_terms : (a b n : ℕ) → times_below a b n
    ≡ sum_of n (λ i. term (a / 2 ^ i % 2) (times_power b i))
unfolding times_below sum_of term
times_terms a b zero = refl
times_terms a b (suc n) =
    added_unless (a / 2 ^ n % 2 == 0) (times_below a b n) (times_power b n)
    ∙ ap (λ s. bit_xor s (term (a / 2 ^ n % 2) (times_power b n))) (times_terms a b n)

-- a product of elements is GCM's product, which has x^-127, with x^127
times_is : (a b : ℕ) → b < 2 ^ 128 → times a b ≡ product a (times_power b 127)
unfolding times product bit_of
times_is a b small =
    times_terms a b 128
    ∙ sum_from_last 128 (λ i. term (a / 2 ^ i % 2) (times_power b i))
    ∙ sum-ext 128 (λ i. term (a / 2 ^ (127 - i) % 2) (times_power b (127 - i)))
    (λ i. term (bit_of a i) (v_at (times_power b 127) i))
    (λ i h.
    let place : i + (127 - i) ≡ 127 = omega (arith, h) in
    ap (term (a / 2 ^ (127 - i) % 2)) (sym (back_by b i (127 - i) small)
    ∙ ap (λ m. v_at (times_power b m) i) place))
    ∙ sym (product_terms a (times_power b 127) 128)

-- x^-128 as a power of x^-1, where the number 2 ^ 127 is GCM's one
inverse_is : times_power inverse_power 127 ≡ v_at (2 ^ 127) 128
unfolding times_power times_x v_at next_v
inverse_is = refl

-- dot of two elements is one product of GCM, so that POLYVAL runs on GHASH's tables
dot_is : (a b : ℕ) → b < 2 ^ 128 → dot a b ≡ product a (next_v b)
unfolding dot
dot_is a b small =
    let c : ℕ = product a (times_power b 127) in
    let c_small : c < 2 ^ 128 = product_below a (times_power b 127) (power_small b 127 small) in
    ap (λ n. times n inverse_power) (times_is a b small)
    ∙ times_is c inverse_power (omega arith)
    ∙ ap (product c) inverse_is
    ∙ product_right_v c (2 ^ 127) 128
    ∙ ap (λ n. v_at n 128) (product_by_one c c_small)
    ∙ sym (product_right_v a (times_power b 127) 128)
    ∙ ap (product a) (back_one b small)

-- GCM's products make POLYVAL's value after j blocks
pub polyval_summed : (h s : ℕ) (x : List ℕ) (j : ℕ) → h < 2 ^ 128
    → hashed_as (from_le_bytes w128) (next_v h) s x j ≡ polyval_after h s x j
unfolding hashed_as polyval_after number_at block_at
polyval_summed h s x zero small = refl
polyval_summed h s x (suc j) small =
    let block : ℕ = from_le_bytes w128 (slice_range x (16 * j) (16 * j + 16)) in
    ap (λ y. product (bit_xor y block) (next_v h)) (polyval_summed h s x j small)
    ∙ sym (dot_is (bit_xor (polyval_after h s x j) block) h small)
