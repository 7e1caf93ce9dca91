-- 64 bits by Karatsuba's three products of 32 bits.
use Rattle.std.proofs.Common.{◌≡◌, ℕ, ◌*◌, ◌%◌, ◌^◌, ◌<◌, ◌∙◌, arith, bit_xor, refl}
use Rattle.std.proofs.lemmas.Nat.{xor_lt}
use Rattle.gcm.proofs.WithoutCarries.Carryless.{karatsuba}
use Rattle.gcm.proofs.holes.product_of_pairs.Goals as goal

pub returns : goal.returns
returns c =
    let l : ℕ = c.product_of_words-low.result in
    let h : ℕ = c.product_of_words-high.result in
    let s : ℕ = c.product_of_words.result in
    let m : ℕ = bit_xor (bit_xor s l) h in
    let m_small : m < 2 ^ 64 =
    xor_lt 64 (bit_xor s l) h (xor_lt 64 s l (omega arith) (omega arith)) (omega arith) in
    let high : h * 2 ^ 64 % 2 ^ 128 ≡ h * 2 ^ 32 * 2 ^ 32 = omega arith in
    let middle : m * 2 ^ 32 % 2 ^ 128 ≡ m * 2 ^ 32 = omega (arith, m_small) in
    (λ t. bit_xor (bit_xor (high t) (middle t)) l)
    ∙ karatsuba 32 c.args.x c.args.y _ _ _ _ refl refl refl refl l h m
    c.product_of_words-low.ensures c.product_of_words-high.ensures
    (λ t. bit_xor (bit_xor (c.product_of_words.ensures t) l) h)
