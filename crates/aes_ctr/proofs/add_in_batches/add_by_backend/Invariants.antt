use Rattle.std.proofs.Common.{◌≡◌, ◌≤◌, ◌<◌, ◌-◌, ◌+◌, ◌%◌, ◌^◌, length}
use Rattle.aes_ctr.specs.CounterMode.{plus_stream}
use Rattle.aes_ctr.specs.Streams.{stream_byte}
use Rattle.aes_ctr.specs.Private.{added_from}
use Rattle.aes_ctr.proofs.add_in_batches.add_by_backend.Given as goal

abbrev pub invariant-whole : goal.invariant-whole
invariant-whole g l =
    let stream = stream_byte (g.B.RoundKeysUser.round_keys l.backend)
    (g.K.CounterBlocks.block l.counters) in record {
      within : l.done ≤ length l.fn.bytes;
      aligned : l.done < length l.fn.bytes → (l.position + l.done) % 16 ≡ 0;
      value : l.position + length l.fn.bytes < 2 ^ 64 → added_from stream l.position l.done l.bytes
          ≡ plus_stream stream l.position l.fn.bytes;
    }

abbrev pub decreases-whole : goal.decreases-whole
decreases-whole g l = length l.initial.bytes - l.done

abbrev pub invariant-rest : goal.invariant-rest
invariant-rest g l =
    let stream = stream_byte (g.B.RoundKeysUser.round_keys l.backend)
    (g.K.CounterBlocks.block l.counters) in record {
      within : l.done ≤ length l.fn.bytes;
      value : l.position + length l.fn.bytes < 2 ^ 64 → added_from stream l.position l.done l.bytes
          ≡ plus_stream stream l.position l.fn.bytes;
    }

abbrev pub decreases-rest : goal.decreases-rest
decreases-rest g l = length l.initial.bytes - l.done
