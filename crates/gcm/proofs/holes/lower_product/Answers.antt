-- Sixteen products of every fourth bit, summed by their place modulo 4, are the lower half.
use Rattle.std.proofs.Common.{ℕ, ◌*◌, ◌^◌, ◌∙◌, arith, bit_and, bit_xor, refl}
use Rattle.gcm.specs.Carryless.{holes}
use Rattle.gcm.specs.Multiples.{sum_of}
use Rattle.gcm.proofs.WithoutCarries.Fourths.{every_fourth, lower_at, lower_at_sum, sum_of_four, lower_sum}
use Rattle.gcm.proofs.holes.lower_product.Goals as goal

pub returns : goal.returns
unfolding every_fourth holes sum_of
returns c =
    let x : ℕ = c.args.x in
    let y : ℕ = c.args.y in
    let under = λ (t n : ℕ). bit_and n (holes 8 * 2 ^ t) in
    let at = λ (t : ℕ). lower_at_sum x y t _ _ _ _ refl refl refl refl in
    (λ u. bit_xor (bit_xor (bit_xor (under 0 (at 0 u)) (under 1 (at 1 u))) (under 2 (at 2 u)))
    (under 3 (at 3 u)))
    ∙ sum_of_four (under 0 (lower_at x y 0)) (under 1 (lower_at x y 1)) (under 2 (lower_at x y 2))
    (under 3 (lower_at x y 3))
    ∙ lower_sum x y (omega arith) (omega arith)
