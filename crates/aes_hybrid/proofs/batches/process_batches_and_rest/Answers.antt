-- The front is processed in whole batches, and the end behind it by another call: together they are
-- the whole slice.
use Rattle.std.proofs.Common.{ℕ, ◌-◌, ◌%◌, length, refl, ◌∙◌, arith}
use Rattle.aes_cipher.proofs.SliceRuns.{end_finished}
use Rattle.aes_soft.proofs.Slices.{front_finished}
use Rattle.aes_hybrid.proofs.Fronts.{whole_batches}
use Rattle.aes_hybrid.proofs.batches.process_batches_and_rest.Goals as goal

pub returns-then-whole-blocks : goal.returns-then-whole-blocks
returns-then-whole-blocks g c =
    let blocks = c.args.blocks.now in
    let whole : ℕ = length blocks - length blocks % c.LEN.result in
    end_finished _ whole _ _ _ (omega (arith, c.process_batches_under.auto.blocks))
    refl c.process_filled_up.ensures
    ∙ front_finished _ whole blocks _ (omega arith) c.process_batches_under.ensures.blocks

pub process_batches_under-requires-clause-whole_batches : goal.process_batches_under-requires-clause-whole_batches
process_batches_under-requires-clause-whole_batches g c =
    whole_batches c.args.blocks.now g.W.Blocks.Batch.LEN c.LEN.result c.LEN.ensures
