-- The first k blocks of the batch are those of the slice, and the others copies of the first one.
use Rattle.std.proofs.Common.{◌≡◌, ◌≤◌, [], length, get_or, take, drop, replicate}
use Rattle.aes_soft.proofs.soft.blocks.filled_up.filled_up.Given as goal

abbrev pub invariant-fill : goal.invariant-fill
invariant-fill g l = record {
  inside : l.k ≤ length l.blocks;
  sized : length (g.B.Batch.blocks l.batch) ≡ g.B.Batch.LEN;
  copied : take l.k (g.B.Batch.blocks l.batch) ≡ take l.k l.blocks;
  others : drop l.k (g.B.Batch.blocks l.batch)
      ≡ drop l.k (replicate g.B.Batch.LEN (get_or l.blocks 0 []));
}
