-- The counter is that of block i, and the blocks before it are written.
use Rattle.std.proofs.Common.{◌≡◌, ℕ, ◌+◌, ◌<◌, [], get_or}
use Rattle.gcm_siv.specs.GcmSiv.{counter, counter_block}
use Rattle.gcm_siv.proofs.counters.FirstBitsCounterBlocks.put.Given as goal

abbrev pub invariant-loop-i : goal.invariant-loop-i
invariant-loop-i l = record {
  at : l.counter ≡ counter l.self.start (l.first + l.i);
  counted : (k : ℕ) → k < l.i → get_or l.blocks k [] ≡ counter_block l.self.start (l.first + k);
}
