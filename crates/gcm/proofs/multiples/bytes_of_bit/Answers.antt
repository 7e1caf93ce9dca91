-- Each nibble's look-up is inside the block, or at a place that gives 0.
use Rattle.std.proofs.Common.{◌∙◌}
use Rattle.gcm.proofs.Tables.Nibbles.{indices, looked_bit}
use Rattle.gcm.proofs.multiples.bytes_of_bit.Goals as goal

pub lookup-requires : goal.lookup-requires
lookup-requires c =
    record { are_indices = λ _. indices c.args.bit c.args.r c.requires.bit c.requires.inside }

pub returns : goal.returns
returns c =
    c.lookup.ensures 0
    ∙ looked_bit c.args.v c.args.bit c.args.r _ c.requires.bit c.requires.inside
    c.vector_of.ensures.block
