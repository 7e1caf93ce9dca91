-- The first blocks of the slice are processed, and the others as they were.
use Rattle.std.proofs.Common.{◌-◌, length}
use Rattle.aes_planes.specs.Fips197.{key_expansion}
use Rattle.aes_soft.specs.Stored.{key_of_planes}
use Rattle.aes_soft.proofs.Slices.{Worked}
use Rattle.aes_narrow.proofs.blocks.process_all_batches.Given as goal

abbrev pub invariant-loop-done : goal.invariant-loop-done
invariant-loop-done g l =
    Worked (g.D.Direction.processed
    (key_expansion (key_of_planes g.W.Word.bits g.W.Word.BLOCKS l.words)))
    l.done l.fn.blocks l.blocks

abbrev pub decreases-loop-done : goal.decreases-loop-done
decreases-loop-done g l = length l.fn.blocks - l.done
