use Rattle.std.proofs.Common.{◌≡◌, ◌-◌, ◌++◌, replicate}
use Rattle.aes_planes.proofs.soft.word.batch.every_slot.Given as goal

abbrev pub invariant-loop-i : goal.invariant-loop-i
invariant-loop-i g l =
    g.B.Batch.blocks l.blocks ≡ replicate l.i l.block
    ++ replicate (g.B.Batch.LEN - l.i) (replicate 16 0)
