use Rattle.std.proofs.Common.{◌≡◌, slice_index}
use Rattle.aes_ctr.specs.CounterMode.{plus_stream}
use Rattle.aes_ctr.specs.Private.{added_from}
use Rattle.aes_ctr.proofs.add_blocks.add_part.Given as goal

abbrev pub invariant-loop-i : goal.invariant-loop-i
invariant-loop-i l = added_from (slice_index l.block) l.from l.i l.bytes
    ≡ plus_stream (slice_index l.block) l.from
    l.fn.bytes
