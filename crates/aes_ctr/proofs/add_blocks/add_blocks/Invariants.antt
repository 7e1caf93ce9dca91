use Rattle.std.proofs.Common.{◌≡◌, ◌≤◌, ◌<◌, ◌-◌, ◌+◌, ◌%◌, length}
use Rattle.aes_ctr.specs.CounterMode.{plus_stream}
use Rattle.aes_ctr.specs.Private.{added_from, byte_of_blocks}
use Rattle.aes_ctr.proofs.add_blocks.add_blocks.Given as goal

abbrev pub invariant-whole : goal.invariant-whole
invariant-whole l = record {
  within : l.done ≤ length l.fn.bytes;
  aligned : l.done < length l.fn.bytes → (l.from + l.done) % 16 ≡ 0;
  value : added_from (byte_of_blocks l.blocks) l.from l.done l.bytes
      ≡ plus_stream (byte_of_blocks l.blocks) l.from
      l.fn.bytes;
}

abbrev pub decreases-whole : goal.decreases-whole
decreases-whole l = length l.initial.bytes - l.done
