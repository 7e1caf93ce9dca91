-- The sum of the look-ups is the round, with its ShiftRows deferred.
use Rattle.std.proofs.Common.{◌%◌, ap, map, ◌∙◌}
use Rattle.aes_planes.specs.Fips197.{shift_times}
use Rattle.aes_permute.specs.Stored.{untower}
use Rattle.aes_permute.specs.declared.tables.TheConstants.{ONE_FIRST, ONE_SECOND, TWO_FIRST}
use Rattle.aes_permute.specs.declared.tables.TheConstants.{TWO_SECOND}
use Rattle.aes_permute.proofs.DeferredRows.{deferred_is}
use Rattle.aes_permute.proofs.RoundLanes.{through_lanes}
use Rattle.aes_permute.proofs.rounds.EncryptLaneRounds.round.Goals as goal

pub returns : goal.returns
returns g c i =
    let f = c.indices_of-at.ensures.first i in
    let s = c.indices_of-at.ensures.second i in
    ap (λ v. shift_times (c.args.number % 4) (map untower v)) (c.mixed_columns.ensures i)
    ∙ deferred_is c.args.number (g.L.Lanes.block c.args.x i) (g.L.Lanes.block c.args.key i)
    c.requires (c.blocks_have_16_bytes.ensures i)
    (c.blocks_have_16_bytes-2.ensures i).0
    (through_lanes ONE_FIRST ONE_SECOND _ f s (c.looked_up-one.ensures i))
    (through_lanes TWO_FIRST TWO_SECOND _ f s (c.looked_up-two.ensures i))
