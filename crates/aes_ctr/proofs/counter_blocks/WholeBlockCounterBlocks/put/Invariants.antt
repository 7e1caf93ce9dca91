use Rattle.std.proofs.Common.{◌≡◌, ℕ, ◌+◌, ◌<◌, [], get_or}
use Rattle.aes_ctr.specs.CounterMode.{counter, counter_block}
use Rattle.aes_ctr.proofs.counter_blocks.WholeBlockCounterBlocks.put.Given as goal

abbrev pub invariant-loop-i : goal.invariant-loop-i
invariant-loop-i l = record {
  at : l.counter ≡ counter l.self.iv (l.first + l.i);
  counted : (k : ℕ) → k < l.i → get_or l.blocks k [] ≡ counter_block l.self.iv (l.first + k);
}
