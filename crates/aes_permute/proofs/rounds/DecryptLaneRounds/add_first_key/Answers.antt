use Rattle.std.proofs.Common.{ap, map, ◌∙◌}
use Rattle.aes_planes.specs.Fips197.{inv_shift_times}
use Rattle.aes_permute.specs.Lookup.{by_nibbles}
use Rattle.aes_permute.specs.Stored.{decryption_untower}
use Rattle.aes_permute.specs.declared.tables.TheConstants.{INV_TOWER_LOW, INV_TOWER_HIGH}
use Rattle.aes_permute.proofs.DecryptionLanes.{inv_first_sum_is}
use Rattle.aes_permute.proofs.rounds.DecryptLaneRounds.add_first_key.Goals as goal

pub returns : goal.returns
unfolding inv_shift_times
returns g c i =
    ap (map decryption_untower)
    (c.looked_up_by_nibbles.ensures i
    ∙ ap (map (by_nibbles INV_TOWER_LOW INV_TOWER_HIGH)) (c.sum.ensures i))
    ∙ inv_first_sum_is (g.L.Lanes.block c.args.blocks i) (g.L.Lanes.block c.args.key i)
    (c.blocks_have_16_bytes.ensures i)
    (c.blocks_have_16_bytes-2.ensures i)
