-- The steps on planes, one by one: packed, shifted back, with the constant taken out, through the
-- inverse S-box.
use Rattle.std.proofs.Common.{[], ◌∷◌, map, slice_index_or, ap, ◌∙◌}
use Rattle.aes_planes.specs.Fips197.{inv_sbox, inv_shift_rows, inv_shift_times}
use Rattle.aes_planes.specs.Planes.{plus63}
use Rattle.aes_planes.proofs.Shifts.Deferred.{without63}
use Rattle.aes_parts_tests.proofs.tests.cipher.one_round.unsubstituted.Goals as goal

pub returns : goal.returns
unfolding inv_shift_times
returns c =
    let loaded = c.bitslice.ensures ∙ c.batch_of.ensures in
    let shifted = c.inv_shift_rows_1.ensures ∙ ap (map (inv_shift_times 1)) loaded in
    let without = c.sub_bytes_nots.ensures ∙ ap (map (map plus63)) shifted in
    let whole = c.inv_sub_bytes.ensures.blocks ∙ ap (map (map (λ b. inv_sbox (plus63 b)))) without
    ∙ ap (λ s. s ∷ []) (without63 (inv_shift_rows c.args.block.now)) in
    c.get.ensures.at ∙ ap (λ blocks. slice_index_or blocks 0 []) (c.inv_bitslice.ensures ∙ whole)
