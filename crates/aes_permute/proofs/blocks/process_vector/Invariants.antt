use Rattle.std.proofs.Common.{◌≡◌, ℕ, ◌-◌, map}
use Rattle.aes_planes.specs.Rounds.{rounds_after}
use Rattle.aes_permute.specs.Stored.{round_keys_of}
use Rattle.aes_permute.proofs.blocks.process_vector.Given as goal

abbrev pub invariant-loop-i : goal.invariant-loop-i
invariant-loop-i g l =
    (k : ℕ) → g.D.LaneRounds.form.placed (l.i - 1)
    (map g.D.LaneRounds.state_byte (g.L.Lanes.block l.x k))
    ≡ rounds_after g.D.Direction.step (round_keys_of g.D.LaneRounds.form l.keys)
    (g.L.Lanes.block l.fn.blocks k) (l.i - 1)
