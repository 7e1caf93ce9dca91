use Rattle.std.proofs.Common.{◌≡◌, length, take}
use Rattle.aes_soft.proofs.soft.blocks.slices.batch_of.Given as goal

abbrev pub invariant-fill : goal.invariant-fill
invariant-fill g l = record {
  sized : length (g.B.Batch.blocks l.batch) ≡ g.B.Batch.LEN;
  copied : take l.k (g.B.Batch.blocks l.batch) ≡ take l.k l.blocks;
}
