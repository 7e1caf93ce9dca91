-- One run of blocks more is processed.
use Rattle.std.proofs.Common.{arith}
use Rattle.aes_soft.proofs.Slices.{next_run}
use Rattle.aes_narrow.proofs.blocks.process_all_batches.Goals as goal

pub loop-done-preserved : goal.loop-done-preserved
loop-done-preserved g c =
    next_run _ c.loop-done.done c.next_count-count.result _ _ _ _ c.loop-done.invariant
    (omega arith) (omega (arith, c.loop-done-test.true, c.next_count-count.ensures.inside))
    c.process_filled_up.ensures
