use Rattle.std.proofs.Common.{ap, map, ◌∙◌}
use Rattle.aes_planes.specs.Fips197.{shift_times}
use Rattle.aes_permute.specs.Lookup.{by_nibbles}
use Rattle.aes_permute.specs.Stored.{untower}
use Rattle.aes_permute.specs.declared.tables.TheConstants.{TOWER_LOW, TOWER_HIGH}
use Rattle.aes_permute.proofs.RoundLanes.{first_sum_is}
use Rattle.aes_permute.proofs.rounds.EncryptLaneRounds.add_first_key.Goals as goal

pub returns : goal.returns
unfolding shift_times
returns g c i =
    ap (map untower)
    (c.looked_up_by_nibbles.ensures i
    ∙ ap (map (by_nibbles TOWER_LOW TOWER_HIGH)) (c.sum.ensures i))
    ∙ first_sum_is (g.L.Lanes.block c.args.blocks i) (g.L.Lanes.block c.args.key i)
    (c.blocks_have_16_bytes.ensures i)
    (c.blocks_have_16_bytes-2.ensures i)
