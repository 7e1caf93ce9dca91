use Rattle.std.proofs.Common.{◌≡◌, ◌+◌, ◌-◌, ◌*◌, ◌/◌, length}
use Rattle.aes_planes.specs.Fips197.{key_expansion}
use Rattle.aes_soft.specs.Stored.{key_of_planes, rounds_of}
use Rattle.aes_soft.proofs.Slices.{Batched}
use Rattle.aes_soft.proofs.soft.blocks.slices.process_batches_under.Given as goal

abbrev pub invariant-loop-done : goal.invariant-loop-done
invariant-loop-done g l =
    let f = g.D.Direction.processed
    (key_expansion (key_of_planes g.W.Word.bits g.W.Word.BLOCKS l.words)) in record {
      blocks : Batched f l.size l.done l.fn.blocks l.blocks;
      layers : l.layers + rounds_of (length l.words) * ((length l.blocks - l.done) / l.size)
          ≡ l.fn.layers + rounds_of (length l.words) * (length l.fn.blocks / l.size);
    }

abbrev pub decreases-loop-done : goal.decreases-loop-done
decreases-loop-done g l = length l.fn.blocks - l.done
