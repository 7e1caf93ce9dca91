use Rattle.std.proofs.Common.{refl, ◌∙◌}
use Rattle.aes_permute.specs.declared.tables.TheConstants.{INV_SBOX_FIRST, INV_SBOX_SECOND}
use Rattle.aes_permute.proofs.DeferredRows.{shifted_back_indices}
use Rattle.aes_permute.proofs.Lookups.{summed}
use Rattle.aes_permute.proofs.RoundLanes.{through_lanes}
use Rattle.aes_permute.proofs.DecryptionLanes.{inv_last_round_is}
use Rattle.aes_permute.proofs.rounds.DecryptLaneRounds.last_round.Goals as goal

pub permuted-requires : goal.permuted-requires
permuted-requires g c = record { are_indices = shifted_back_indices c.args.number }

pub returns : goal.returns
returns g c i =
    summed (c.sum.ensures i) (c.permuted.ensures i) refl
    ∙ inv_last_round_is c.args.number (g.L.Lanes.block c.args.x i) (g.L.Lanes.block c.args.key i)
    c.requires (c.blocks_have_16_bytes.ensures i)
    (c.blocks_have_16_bytes-2.ensures i).0
    (through_lanes INV_SBOX_FIRST INV_SBOX_SECOND _ (c.indices_of.ensures.first i)
    (c.indices_of.ensures.second i)
    (c.looked_up-one.ensures i))
