-- The sums, and the places of both tables.
use Rattle.std.proofs.Common.{◌%◌, refl, ap, ◌∙◌}
use Rattle.aes_permute.specs.MixedRows.{permuted, places_in}
use Rattle.aes_permute.specs.declared.tables.TheConstants.{NEXT_ROW}
use Rattle.aes_permute.proofs.DeferredRows.{next_indices, before_indices}
use Rattle.aes_permute.proofs.Lookups.{summed}
use Rattle.aes_permute.proofs.rounds.mixed_columns.Goals as goal

pub permuted-next-requires : goal.permuted-next-requires
permuted-next-requires g c = record { are_indices = next_indices c.args.left_out }

pub permuted-second-requires : goal.permuted-second-requires
permuted-second-requires g c = record { are_indices = next_indices c.args.left_out }

pub permuted-fourth-requires : goal.permuted-fourth-requires
permuted-fourth-requires g c = record { are_indices = before_indices c.args.left_out }

pub returns : goal.returns
returns g c i =
    let pairs = summed (c.sum-pairs.ensures i) refl (c.permuted-next.ensures i) in
    summed (c.sum.ensures i) (summed (c.sum-most.ensures i)
    (summed (c.sum-with_key.ensures i) (c.permuted-fourth.ensures i) refl) pairs)
    (c.permuted-second.ensures i ∙ ap (λ v. permuted v (places_in NEXT_ROW (c.args.left_out % 4))) pairs)
