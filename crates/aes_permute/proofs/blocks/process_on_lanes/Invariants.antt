use Rattle.std.proofs.Common.{◌≡◌, ℕ, ◌≤◌, ◌-◌, List, length, map}
use Rattle.aes_cipher.proofs.SliceRuns.{finished}
use Rattle.aes_planes.specs.Rounds.{all_rounds}
use Rattle.aes_permute.specs.Stored.{round_keys_of}
use Rattle.aes_permute.proofs.blocks.process_on_lanes.Given as goal

-- the first blocks are processed, and the others are as they were given
pub record FirstProcessed (f : List ℕ → List ℕ) (done count : ℕ)
    (given blocks : List (List ℕ)) : Type 0 where
  pub within : done ≤ count
  pub same_length : length blocks ≡ count
  pub value : finished f done blocks ≡ map f given

abbrev pub invariant-pairs : goal.invariant-pairs
invariant-pairs g l = FirstProcessed (all_rounds g.D.Direction.step g.D.Direction.last_step
    (round_keys_of g.D.LaneRounds.form l.keys)) l.done l.count l.fn.blocks l.blocks

abbrev pub decreases-pairs : goal.decreases-pairs
decreases-pairs g l = l.count - l.done

abbrev pub invariant-vectors : goal.invariant-vectors
invariant-vectors g l = FirstProcessed (all_rounds g.D.Direction.step g.D.Direction.last_step
    (round_keys_of g.D.LaneRounds.form l.keys)) l.done l.count l.fn.blocks l.blocks

abbrev pub decreases-vectors : goal.decreases-vectors
decreases-vectors g l = l.count - l.done

abbrev pub invariant-singles : goal.invariant-singles
invariant-singles g l = FirstProcessed (all_rounds g.D.Direction.step g.D.Direction.last_step
    (round_keys_of g.D.LaneRounds.form l.keys)) l.done l.count l.fn.blocks l.blocks

abbrev pub decreases-singles : goal.decreases-singles
decreases-singles g l = l.count - l.done
