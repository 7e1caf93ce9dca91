use Rattle.std.proofs.Common.{arith}
use Rattle.aes_soft.proofs.Slices.{next_batch}
use Rattle.aes_soft.proofs.soft.hazmat.par.step_each.Goals as goal

pub loop-done-preserved : goal.loop-done-preserved
loop-done-preserved g c = record {
  blocks = next_batch _ _ c.loop-done.done _ _ _ _ c.loop-done.invariant.blocks
      c.loop-done-test.true (omega arith)
      c.step_batch.ensures;
}
