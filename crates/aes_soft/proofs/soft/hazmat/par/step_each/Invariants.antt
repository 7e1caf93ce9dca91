use Rattle.std.proofs.Common.{◌-◌, length}
use Rattle.aes_soft.proofs.Slices.{Batched}
use Rattle.aes_soft.proofs.soft.hazmat.par.step_each.Given as goal

abbrev pub invariant-loop-done : goal.invariant-loop-done
invariant-loop-done g l = record {
  blocks : Batched g.D.Direction.step l.size l.done l.fn.blocks l.blocks;
}

abbrev pub decreases-loop-done : goal.decreases-loop-done
decreases-loop-done g l = length l.fn.blocks - l.done
