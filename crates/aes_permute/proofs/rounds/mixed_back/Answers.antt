-- The sum of the look-ups is InvMixColumns and AddRoundKey, with the rows where they are.
use Rattle.std.proofs.Common.{◌%◌, refl, ap, map, ◌∙◌}
use Rattle.aes_planes.specs.Fips197.{shift_times}
use Rattle.aes_permute.specs.Stored.{decryption_untower}
use Rattle.aes_permute.proofs.DeferredRows.{next_but_one_indices}
use Rattle.aes_permute.proofs.Lookups.{summed}
use Rattle.aes_permute.proofs.MixedBack.{mixed_back_is}
use Rattle.aes_permute.proofs.rounds.mixed_back.Goals as goal

pub permuted-third-requires : goal.permuted-third-requires
permuted-third-requires g c = record { are_indices = next_but_one_indices c.args.left_out }

pub returns : goal.returns
returns g c i x block is_5 is_4 =
    ap (λ v. shift_times (c.args.left_out % 4) (map decryption_untower v)) (c.mixed_columns.ensures i)
    ∙ mixed_back_is c.args.left_out x (g.L.Lanes.block c.args.key i) _ _ block
    (c.blocks_have_16_bytes-3.ensures i).0 (c.blocks_have_16_bytes-2.ensures i).0
    (c.blocks_have_16_bytes-4.ensures i)
    is_5 is_4 (summed (c.sum-one.ensures i) refl (c.permuted-third.ensures i))
    (c.looked_up_by_nibbles-two.ensures i)
