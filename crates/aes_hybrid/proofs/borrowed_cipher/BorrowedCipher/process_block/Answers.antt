-- All rounds under the stored round keys of a direction are its cipher, on one block.
use Rattle.std.proofs.Common.{◌∙◌, arith}
use Rattle.std.proofs.lemmas.Grind.{common_steps}
use Rattle.aes_permute.proofs.KeyOfLanes.{two_stored, direction_rounds}
use Rattle.aes_hybrid.proofs.borrowed_cipher.BorrowedCipher.process_block.Goals as goal

pub process_block-requires : goal.process_block-requires
process_block-requires g c = record {
  two = two_stored g.D.LaneRounds.form c.rounds_use_every_key.ensures _ _ c.self.invariant.1;
}

pub returns : goal.returns
returns g c = grind (
  arith,
  common_steps,
  c.process_block.ensures
      ∙ direction_rounds g.D.Direction.step g.D.Direction.last_step g.D.LaneRounds.form
      c.rounds_follow_the_standard.ensures _ _ c.self.invariant.1 c.args.block.now,
)
