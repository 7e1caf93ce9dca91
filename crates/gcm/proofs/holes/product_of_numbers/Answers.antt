-- 128 bits by Karatsuba's three products of 64 bits.
use Rattle.std.proofs.Common.{ℕ, ◌∙◌, arith, bit_xor, refl}
use Rattle.gcm.proofs.WithoutCarries.Carryless.{karatsuba, columns}
use Rattle.gcm.proofs.holes.product_of_numbers.Goals as goal

pub returns : goal.returns
returns c =
    let l : ℕ = c.product_of_pairs-low.result in
    let h : ℕ = c.product_of_pairs-high.result in
    let m : ℕ = bit_xor (bit_xor c.product_of_pairs.result l) h in
    columns h m l (omega arith)
    ∙ karatsuba 64 c.args.x c.args.y _ _ _ _ refl refl refl refl l h m
    c.product_of_pairs-low.ensures c.product_of_pairs-high.ensures
    (λ t. bit_xor (bit_xor (c.product_of_pairs.ensures t) l) h)
