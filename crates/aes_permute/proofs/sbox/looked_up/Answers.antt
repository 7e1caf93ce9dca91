use Rattle.std.proofs.Common.{◌∙◌}
use Rattle.aes_permute.proofs.Lookups.{summed}
use Rattle.aes_permute.proofs.FieldInverse.{places_looked_up}
use Rattle.aes_permute.proofs.sbox.looked_up.Goals as goal

pub returns : goal.returns
returns g c i =
    summed (c.sum.ensures i) (c.lookup-by_first.ensures i) (c.lookup-by_second.ensures i)
    ∙ places_looked_up c.args.first c.args.second (g.L.Lanes.block c.args.at.first i)
    (g.L.Lanes.block c.args.at.second i)
