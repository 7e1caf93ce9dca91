-- To add the round key to the blocks that are left gives every block with it.
use Rattle.std.proofs.Common.{◌≡◌, map}
use Rattle.aes_cipher.proofs.SliceRuns.{finished}
use Rattle.aes_planes.specs.Fips197 as fips
use Rattle.aes_rounds.proofs.rounds.all_rounds.add_round_key.Given as goal

abbrev pub invariant-loop-block : goal.invariant-loop-block
invariant-loop-block l = finished (λ b. fips.add_round_key b l.round_key) l.block-index l.blocks
    ≡ map (λ b. fips.add_round_key b l.round_key) l.fn.blocks
