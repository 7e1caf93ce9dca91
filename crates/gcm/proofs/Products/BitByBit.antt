-- Products bit by bit: what is left of a block whose first bits were taken, and one bit more.
use Rattle.std.proofs.Common.{◌≡◌, ℕ, suc, ◌+◌, ◌-◌, ◌*◌, ◌/◌, ◌%◌, ◌^◌, ◌<◌, ◌==◌}
use Rattle.std.proofs.Common.{if◌then◌else◌, bit_xor, ap, sym, ◌∙◌, arith}
use Rattle.std.proofs.lemmas.Nat.{pow-add, pow_pos}
use Rattle.std.proofs.Math.Nat.{pow-suc, mul-div-mul_right}
use Rattle.gcm.specs.Gcm.{bit_of, v_at, z_at}
use Rattle.gcm.proofs.Products.Linear.{added_unless}

-- the bits that are left of a block when one bit more was taken
pub shifted : (x i : ℕ) → x * 2 ^ i % 2 ^ 128 * 2 % 2 ^ 128 ≡ x * 2 ^ (i + 1) % 2 ^ 128
shifted x i =
    let more : i + 1 ≡ suc i = omega arith in
    let twice : x * 2 ^ (i + 1) ≡ x * 2 ^ i * 2 =
    ap (λ k. x * 2 ^ k) more ∙ ap (λ p. x * p) (pow-suc 2 i) ∙ grind arith in
    omega (arith, twice)

-- the first bit of what is left of a block when its first i bits were taken
first_left : (x i : ℕ) → i < 128 → x * 2 ^ i % 2 ^ 128 / 2 ^ 127 ≡ bit_of x i
unfolding bit_of
first_left x i inside =
    let whole : 127 ≡ (127 - i) + i = omega (arith, inside) in
    let power : 2 ^ 127 ≡ 2 ^ (127 - i) * 2 ^ i = ap (λ k. 2 ^ k) whole ∙ pow-add 2 (127 - i) i in
    let cut : x * 2 ^ i % 2 ^ 128 / 2 ^ 127 ≡ x * 2 ^ i / 2 ^ 127 % 2 = omega arith in
    cut ∙ ap (λ p. x * 2 ^ i / p % 2) power
    ∙ ap (λ n. n % 2) (mul-div-mul_right x (2 ^ (127 - i)) (pow_pos i))

-- the partial product of one bit more is the sum with the power of x, if the bit is 1
pub one_more : (x h l z v w i : ℕ) → l ≡ x * 2 ^ i % 2 ^ 128 → z ≡ z_at x h i → v ≡ v_at h i
    → i < 128
    → w ≡ (if l / 2 ^ 127 == 0 then 0 else v) → bit_xor z w ≡ z_at x h (suc i)
unfolding z_at
one_more x h l z v w i l_is z_is v_is inside w_is =
    let bit : l / 2 ^ 127 ≡ bit_of x i = ap (λ n. n / 2 ^ 127) l_is ∙ first_left x i inside in
    (λ t. bit_xor (z_is t) ((w_is ∙ (λ u. if bit u == 0 then 0 else v_is u)) t))
    ∙ sym (added_unless (bit_of x i == 0) (z_at x h i) (v_at h i))
