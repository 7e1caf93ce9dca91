-- Products without carries of words with their bits reversed: the upper half of a product.
use Rattle.std.proofs.Common.{◌≡◌, ℕ, zero, suc, ◌+◌, ◌*◌, ◌/◌, ◌%◌, ◌^◌, ◌<◌, ◌==◌, true}
use Rattle.std.proofs.Common.{bit_xor, refl, ap, sym, ◌∙◌, arith}
use Rattle.std.proofs.lemmas.Nat.{xor_block, xor_mod, xor_shr}
use Rattle.std.proofs.lemmas.Bool.{eqb-true}
use Rattle.std.specs.Int.{reverse_bits_onto, reverse_bits, w32}
use Rattle.aes_planes.proofs.Bits.ByteCases.{all_below, all_pairs, all_pairs_tell}
use Rattle.gcm.specs.Carryless.{carryless}
use Rattle.gcm.proofs.WithoutCarries.Carryless.{carryless_left_keeps, carryless_left_zero}
use Rattle.gcm.proofs.WithoutCarries.Carryless.{carryless_right_keeps, carryless_right_zero}
use Rattle.gcm.proofs.WithoutCarries.Carryless.{same_linear}
use Rattle.gcm.proofs.Products.Linear.{sum_without_carry}

-- reversed bits behind others keep sums
onto_keeps : (k a b c d : ℕ) → reverse_bits_onto k (bit_xor a b) (bit_xor c d)
    ≡ bit_xor (reverse_bits_onto k a c) (reverse_bits_onto k b d)
unfolding reverse_bits_onto
onto_keeps zero a b c d = refl
onto_keeps (suc k) a b c d =
    (λ t. reverse_bits_onto k (xor_shr a b 1 t) (bit_xor c d * 2 + xor_mod a b 1 t))
    ∙ ap (reverse_bits_onto k (bit_xor (a / 2) (b / 2)))
    (sym (xor_block 1 c d (a % 2) (b % 2) (omega arith) (omega arith)))
    ∙ onto_keeps k (a / 2) (b / 2) (c * 2 + a % 2) (d * 2 + b % 2)

-- a word with its bits reversed
reversed : ℕ → ℕ
reversed n = reverse_bits w32 n

-- words with their bits reversed keep sums
reversed_keeps : (a b : ℕ) → reversed (bit_xor a b) ≡ bit_xor (reversed a) (reversed b)
unfolding reversed
reversed_keeps a b = onto_keeps 32 a b 0 0

-- the upper half of a product
upper : ℕ → ℕ → ℕ
upper x y = carryless 32 x y / 2 ^ 32

-- the lower half of the product of reversed words, reversed
mirrored : ℕ → ℕ → ℕ
unfolding reversed
mirrored x y = reversed (carryless 32 (reversed x) (reversed y) % 2 ^ 32) / 2

-- the upper half of a product keeps sums of the first factor
upper_left : (y a b : ℕ) → upper (bit_xor a b) y ≡ bit_xor (upper a y) (upper b y)
unfolding upper
upper_left y a b = ap (λ z. z / 2 ^ 32) (carryless_left_keeps 32 a b y)
    ∙ xor_shr (carryless 32 a y) (carryless 32 b y) 32

-- the upper half of a product keeps sums of the second factor
upper_right : (x a b : ℕ) → upper x (bit_xor a b) ≡ bit_xor (upper x a) (upper x b)
unfolding upper
upper_right x a b = ap (λ z. z / 2 ^ 32) (carryless_right_keeps 32 x a b)
    ∙ xor_shr (carryless 32 x a) (carryless 32 x b) 32

-- what is done to a product of reversed words keeps sums
back_keeps : (p q : ℕ) → reversed (bit_xor p q % 2 ^ 32) / 2
    ≡ bit_xor (reversed (p % 2 ^ 32) / 2) (reversed (q % 2 ^ 32) / 2)
back_keeps p q =
    ap (λ z. reversed z / 2) (xor_mod p q 32)
    ∙ ap (λ z. z / 2) (reversed_keeps (p % 2 ^ 32) (q % 2 ^ 32))
    ∙ xor_shr (reversed (p % 2 ^ 32)) (reversed (q % 2 ^ 32)) 1

-- `mirrored` keeps sums of the first factor
mirrored_left : (y a b : ℕ) → mirrored (bit_xor a b) y ≡ bit_xor (mirrored a y) (mirrored b y)
unfolding mirrored
mirrored_left y a b =
    ap (λ z. reversed (z % 2 ^ 32) / 2)
    (ap (λ z. carryless 32 z (reversed y)) (reversed_keeps a b)
    ∙ carryless_left_keeps 32 (reversed a) (reversed b) (reversed y))
    ∙ back_keeps (carryless 32 (reversed a) (reversed y)) (carryless 32 (reversed b) (reversed y))

-- `mirrored` keeps sums of the second factor
mirrored_right : (x a b : ℕ) → mirrored x (bit_xor a b) ≡ bit_xor (mirrored x a) (mirrored x b)
unfolding mirrored
mirrored_right x a b =
    ap (λ z. reversed (z % 2 ^ 32) / 2)
    (ap (carryless 32 (reversed x)) (reversed_keeps a b)
    ∙ carryless_right_keeps 32 (reversed x) (reversed a) (reversed b))
    ∙ back_keeps (carryless 32 (reversed x) (reversed a)) (carryless 32 (reversed x) (reversed b))

-- `upper` and `mirrored` agree where the first factor is 0
halves_of_zero_left : (y : ℕ) → upper 0 y ≡ mirrored 0 y
unfolding upper mirrored reversed reverse_bits_onto
halves_of_zero_left y = ap (λ z. z / 2 ^ 32) (carryless_left_zero 32 y)
    ∙ sym (ap (λ z. reversed (z % 2 ^ 32) / 2) (carryless_left_zero 32 (reversed y)))

-- `upper` and `mirrored` agree where the second factor is 0
halves_of_zero_right : (x : ℕ) → upper x 0 ≡ mirrored x 0
unfolding upper mirrored reversed reverse_bits_onto
halves_of_zero_right x = ap (λ z. z / 2 ^ 32) (carryless_right_zero 32 x)
    ∙ sym (ap (λ z. reversed (z % 2 ^ 32) / 2) (carryless_right_zero 32 (reversed x)))

-- `upper` and `mirrored` agree on words of one bit
pair_test : all_pairs 32 32 (λ i j. upper (2 ^ i) (2 ^ j) == mirrored (2 ^ i) (2 ^ j)) ≡ true
unfolding all_below upper mirrored reversed carryless reverse_bits_onto
pair_test = refl

-- the upper half of a product is what `mirrored` computes
halves_are : (x y : ℕ) → x < 2 ^ 32 → y < 2 ^ 32 → upper x y ≡ mirrored x y
halves_are x y hx hy =
    same_linear (λ x. upper x y) (λ x. mirrored x y) (halves_of_zero_left y) (upper_left y)
    (mirrored_left y) 32
    (λ i hi. same_linear (upper (2 ^ i)) (mirrored (2 ^ i)) (halves_of_zero_right (2 ^ i))
    (upper_right (2 ^ i)) (mirrored_right (2 ^ i)) 32
    (λ j hj. eqb-true _ _ (all_pairs_tell 32 32
    (λ i j. upper (2 ^ i) (2 ^ j) == mirrored (2 ^ i) (2 ^ j)) pair_test i j hi hj)) y hy) x hx

-- a product of words is made of its lower half and of a product of reversed words, for the upper
-- one
pub both_halves : (x y l m : ℕ) → x < 2 ^ 32 → y < 2 ^ 32 → l ≡ carryless 32 x y % 2 ^ 32
    → m ≡ carryless 32 (reverse_bits w32 x) (reverse_bits w32 y) % 2 ^ 32
    → bit_xor (reverse_bits w32 m / 2 * 2 ^ 32) l ≡ carryless 32 x y
unfolding upper mirrored reversed
both_halves x y l m hx hy l_is m_is =
    let whole : ℕ = carryless 32 x y in
    let low : whole % 2 ^ 32 < 2 ^ 32 = omega arith in
    (λ t. bit_xor ((ap (λ z. reverse_bits w32 z / 2) m_is ∙ sym (halves_are x y hx hy)) t * 2 ^ 32)
    (l_is t))
    ∙ sum_without_carry 32 (whole / 2 ^ 32) (whole % 2 ^ 32) low ∙ omega arith
