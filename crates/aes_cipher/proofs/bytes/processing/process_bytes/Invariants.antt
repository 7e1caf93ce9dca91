use Rattle.std.proofs.Common.{◌≡◌, ◌≤◌, ◌-◌, map}
use Rattle.std.specs.Simd.{first_chunks}
use Rattle.aes_cipher.proofs.ByteBlocks.{processed_from}
use Rattle.aes_cipher.proofs.bytes.processing.process_bytes.Given as goal

abbrev pub invariant-loop-done : goal.invariant-loop-done
invariant-loop-done g l =
    let f = g.D.Direction.processed (g.C.RoundKeysUser.round_keys l.cipher) in record {
      within : l.done ≤ l.whole;
      value : processed_from f l.whole l.done l.bytes ≡ map f (first_chunks 16 l.whole l.fn.bytes);
    }

abbrev pub decreases-loop-done : goal.decreases-loop-done
decreases-loop-done g l = l.whole - l.done
