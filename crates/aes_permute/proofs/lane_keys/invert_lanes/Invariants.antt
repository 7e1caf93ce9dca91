use Rattle.std.proofs.Common.{◌≡◌, ◌≤◌, ◌<◌, ℕ, length}
use Rattle.aes_permute.proofs.DecryptionKeys.{Unmixed}
use Rattle.aes_permute.proofs.lane_keys.invert_lanes.Given as goal

abbrev pub invariant-keys : goal.invariant-keys
invariant-keys l = record {
  same_length : length l.inverse ≡ length l.keys;
  done : (k : ℕ) → 1 ≤ k → k < l.i → Unmixed l.keys l.inverse k;
}
