-- Every block has gone through the rounds before this one.
use Rattle.std.proofs.Common.{◌≡◌, ◌-◌, map}
use Rattle.aes_planes.specs.Rounds.{rounds_after}
use Rattle.aes_rounds.proofs.rounds.all_rounds.apply_rounds.Given as goal

abbrev pub invariant-loop-number : goal.invariant-loop-number
invariant-loop-number g l =
    l.blocks ≡ map (λ b. rounds_after g.D.Direction.step l.round_keys b (l.number - 1)) l.fn.blocks
