-- InvSubBytes by look-ups, and what `mixed_back` makes of its products, is the round, with its
-- InvShiftRows deferred.
use Rattle.std.proofs.Common.{◌≡◌, length, map, ◌∙◌}
use Rattle.std.proofs.lemmas.List.{length-map}
use Rattle.aes_planes.specs.Fips197.{inv_sbox, inv_sub_bytes}
use Rattle.aes_planes.proofs.Standard.Steps.{inv_sub_bytes_bytes}
use Rattle.aes_permute.specs.Stored.{decryption_untower}
use Rattle.aes_permute.specs.declared.tables.TheConstants.{INV_5_FIRST, INV_5_SECOND, INV_4_FIRST}
use Rattle.aes_permute.specs.declared.tables.TheConstants.{INV_4_SECOND}
use Rattle.aes_permute.proofs.RoundLanes.{through_lanes}
use Rattle.aes_permute.proofs.DecryptionLanes.{inv_round_is, inverses_multiplied, made_4, made_5}
use Rattle.aes_permute.proofs.rounds.DecryptLaneRounds.round.Goals as goal

pub returns : goal.returns
unfolding inv_sub_bytes
returns g c i =
    let x = g.L.Lanes.block c.args.x i in
    let s = map decryption_untower x in
    let f = c.indices_of-at.ensures.first i in
    let t = c.indices_of-at.ensures.second i in
    let block = c.blocks_have_16_bytes.ensures i in
    let long : length (inv_sub_bytes s) ≡ 16 =
    length-map s inv_sbox ∙ length-map x decryption_untower ∙ block.0 in
    inv_round_is c.args.number x (g.L.Lanes.block c.args.key i)
    (g.L.Lanes.block c.mixed_back-mixed.result i) c.requires block.0
    (c.blocks_have_16_bytes-2.ensures i).0 (c.blocks_have_16_bytes-3.ensures i).0
    (c.mixed_back-mixed.ensures i (inv_sub_bytes s) (long, inv_sub_bytes_bytes s)
    (inverses_multiplied 5 INV_5_FIRST INV_5_SECOND x made_5 block.1
    (through_lanes INV_5_FIRST INV_5_SECOND x f t (c.looked_up-by_5.ensures i)))
    (inverses_multiplied 4 INV_4_FIRST INV_4_SECOND x made_4 block.1
    (through_lanes INV_4_FIRST INV_4_SECOND x f t (c.looked_up-by_4.ensures i))))
