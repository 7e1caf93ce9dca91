-- What fell out, folded back in, is the number modulo the polynomial.
use Rattle.std.proofs.Common.{◌∙◌, ap, bit_xor}
use Rattle.std.specs.Int.{w128, from_be_bytes}
use Rattle.gcm.specs.Multiples.{reduced, folded}
use Rattle.gcm.proofs.multiples.reduced.Goals as goal

pub returns : goal.returns
unfolding reduced folded
returns c =
    c.sum.ensures
    ∙ ap (bit_xor (from_be_bytes w128 c.args.first))
    (c.vector_of.ensures.back ∙ ap folded c.number_of-over.ensures)
