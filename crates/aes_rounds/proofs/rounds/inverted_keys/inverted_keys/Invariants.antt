-- The first i round keys are those of EqInvCipher.
use Rattle.std.proofs.Common.{◌≡◌, ◌<◌, ℕ, length, slice_index_or, []}
use Rattle.aes_planes.specs.Fips197 as fips
use Rattle.aes_rounds.proofs.rounds.inverted_keys.inverted_keys.Given as goal

abbrev pub invariant-loop-i : goal.invariant-loop-i
invariant-loop-i g l = record {
  sized : length l.inverted ≡ g.row.RK;
  done : (k : ℕ) → k < l.i → slice_index_or l.inverted k []
      ≡ slice_index_or (fips.inverted_keys l.round_keys) k [];
}
