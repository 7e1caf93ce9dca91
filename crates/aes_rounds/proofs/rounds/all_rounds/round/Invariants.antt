-- To apply the round to the blocks that are left gives every block after it.
use Rattle.std.proofs.Common.{◌≡◌, ℕ, List, map}
use Rattle.aes_cipher.proofs.SliceRuns.{finished}
use Rattle.aes_planes.specs.Fips197 as fips
use Rattle.aes_rounds.proofs.rounds.all_rounds.round.Given as goal

abbrev pub invariant-loop-block : goal.invariant-loop-block
invariant-loop-block g l =
    let f : List ℕ → List ℕ = λ b. fips.add_round_key (g.D.Direction.step b) l.round_key in
    finished f l.block-index l.blocks ≡ map f l.fn.blocks
