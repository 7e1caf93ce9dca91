-- The first k blocks of the slice are those of the batch.
use Rattle.std.proofs.Common.{◌≡◌, ◌≤◌, length, take}
use Rattle.aes_soft.proofs.soft.blocks.filled_up.copy_first.Given as goal

abbrev pub invariant-copy : goal.invariant-copy
invariant-copy g l = record {
  inside : l.k ≤ length l.blocks;
  sized : length l.blocks ≡ length l.fn.blocks;
  copied : take l.k l.blocks ≡ take l.k (g.B.Batch.blocks l.batch);
}
