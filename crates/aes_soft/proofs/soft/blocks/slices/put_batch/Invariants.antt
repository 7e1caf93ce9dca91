use Rattle.std.proofs.Common.{◌≡◌, take}
use Rattle.aes_soft.proofs.soft.blocks.slices.put_batch.Given as goal

abbrev pub invariant-put : goal.invariant-put
invariant-put g l = take l.k l.blocks ≡ take l.k (g.B.Batch.blocks l.batch)
