use Rattle.std.proofs.Common.{◌≡◌, ℕ, ◌+◌, ◌<◌, ◌≤◌, ◌⊎◌, length, slice_index_or}
use Rattle.aes_planes.proofs.soft.round_keys.store_round_key.Given as goal

abbrev pub invariant-loop-p : goal.invariant-loop-p
invariant-loop-p g l = record {
  others : (j : ℕ) (d : _) → (j < l.start) ⊎ (l.start + l.p ≤ j)
      → slice_index_or l.round_keys j d ≡ slice_index_or l.initial.round_keys j d;
  done : (m : ℕ) (d : _) → m < l.p → slice_index_or l.round_keys (l.start + m) d
      ≡ slice_index_or l.planes m d;
  same_length : length l.round_keys ≡ length l.initial.round_keys;
}
