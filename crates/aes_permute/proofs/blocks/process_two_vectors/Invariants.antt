use Rattle.std.proofs.Common.{◌≡◌, ℕ, ◌-◌, map}
use Rattle.aes_planes.specs.Rounds.{rounds_after}
use Rattle.aes_permute.specs.Stored.{round_keys_of}
use Rattle.aes_permute.proofs.blocks.process_two_vectors.Given as goal

abbrev pub invariant-loop-i : goal.invariant-loop-i
invariant-loop-i g l = record {
  one : (k : ℕ) → g.D.LaneRounds.form.placed (l.i - 1)
      (map g.D.LaneRounds.state_byte (g.L.Lanes.block l.x k))
      ≡ rounds_after g.D.Direction.step (round_keys_of g.D.LaneRounds.form l.keys)
      (g.L.Lanes.block l.fn.one k) (l.i - 1);
  other : (k : ℕ) → g.D.LaneRounds.form.placed (l.i - 1)
      (map g.D.LaneRounds.state_byte (g.L.Lanes.block l.y k))
      ≡ rounds_after g.D.Direction.step (round_keys_of g.D.LaneRounds.form l.keys)
      (g.L.Lanes.block l.fn.other k)
      (l.i - 1);
}
