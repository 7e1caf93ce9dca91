-- The product of the numbers, doubled and reduced, is the product of the blocks.
use Rattle.std.proofs.Common.{arith}
use Rattle.gcm.specs.Multiples.{folded}
use Rattle.gcm.proofs.WithoutCarries.Carryless.{reduced_product, spread}
use Rattle.gcm.proofs.holes.product_with_holes.Goals as goal

pub returns : goal.returns
unfolding folded spread
returns c =
    reduced_product c.args.x c.args.h c.product_of_numbers-high.result.0
    c.product_of_numbers-high.result.1 c.product_of_numbers-high.ensures (omega arith) (omega arith)
