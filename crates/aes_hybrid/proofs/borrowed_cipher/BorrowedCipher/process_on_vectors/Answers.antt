-- All rounds under the stored round keys of a direction are its cipher, on each block of a slice.
use Rattle.std.proofs.Common.{◌∙◌, arith}
use Rattle.std.proofs.lemmas.Grind.{common_steps}
use Rattle.aes_planes.proofs.Lists.{map-ext}
use Rattle.aes_permute.proofs.KeyOfLanes.{two_stored, direction_rounds}
use Rattle.aes_hybrid.proofs.borrowed_cipher.BorrowedCipher.process_on_vectors.Goals as goal

pub process_on_lanes-requires : goal.process_on_lanes-requires
process_on_lanes-requires g c = record {
  two = two_stored g.D.LaneRounds.form c.rounds_use_every_key.ensures _ _ c.self.invariant.1;
}

pub returns : goal.returns
returns g c = grind (
  arith,
  common_steps,
  c.process_on_lanes.ensures ∙ map-ext _ _ c.args.blocks.now
      (direction_rounds g.D.Direction.step g.D.Direction.last_step g.D.LaneRounds.form
      c.rounds_follow_the_standard.ensures _ _ c.self.invariant.1),
)
