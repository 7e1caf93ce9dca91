-- To undo the mixing of the blocks that are left gives every block unmixed.
use Rattle.std.proofs.Common.{◌≡◌, map}
use Rattle.aes_cipher.proofs.SliceRuns.{finished}
use Rattle.aes_rounds.proofs.rounds.all_rounds.unmix.Given as goal

abbrev pub invariant-loop-block : goal.invariant-loop-block
invariant-loop-block g l = finished g.D.SingleRounds.unmixed l.block-index l.blocks
    ≡ map g.D.SingleRounds.unmixed l.fn.blocks
