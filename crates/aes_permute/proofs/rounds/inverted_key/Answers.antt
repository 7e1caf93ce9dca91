use Rattle.std.proofs.Common.{◌-◌, ◌%◌, ap, ◌∙◌}
use Rattle.aes_planes.specs.Fips197.{inv_mix_columns, shift_times}
use Rattle.aes_permute.specs.Stored.{decryption_untower}
use Rattle.aes_permute.proofs.BackShifts.{moved_between}
use Rattle.aes_permute.proofs.DeferredRows.{shifted_indices}
use Rattle.aes_permute.proofs.rounds.inverted_key.Goals as goal

pub permuted-requires : goal.permuted-requires
permuted-requires c = record { are_indices = shifted_indices c.args.last }

pub returns : goal.returns
returns c =
    moved_between c.args.place c.args.last decryption_untower c.decrypting_key-mixed.result
    c.requires.at_most (c.blocks_have_16_bytes-2.ensures 0).0 (c.permuted.ensures 0)
    ∙ c.decrypting_key-mixed.ensures
    ∙ ap (λ v. inv_mix_columns (shift_times ((c.args.last - c.args.place) % 4) v))
    c.plain_key-key.ensures
