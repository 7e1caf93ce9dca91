-- The counter is that of block i, and the blocks before it are written.
use Rattle.std.proofs.Common.{◌≡◌, ℕ, ◌+◌, ◌<◌, [], get_or}
use Rattle.std.specs.Int.{w128, to_be_bytes, from_be_bytes}
use Rattle.gcm.specs.Gcm.{counter_at}
use Rattle.gcm.proofs.gctr.LastBitsCounterBlocks.put.Given as goal

abbrev pub invariant-loop-i : goal.invariant-loop-i
invariant-loop-i l = record {
  at : l.others + l.counter ≡ counter_at (from_be_bytes w128 l.self.start) (l.first + l.i);
  counted : (k : ℕ) → k < l.i → get_or l.blocks k []
      ≡ to_be_bytes w128 (counter_at (from_be_bytes w128 l.self.start) (l.first + k));
}
