use Rattle.std.proofs.Common.{◌≡◌, ℕ, ◌+◌, ◌-◌, ◌%◌, ◌<◌, ◌≤◌, ◌⊎◌, length, slice_index_or}
use Rattle.aes_planes.specs.Bits.{at, xor}
use Rattle.aes_planes.specs.Planes.{place, fold_to}
use Rattle.aes_planes.proofs.soft.key_columns.xor_columns.Given as goal

abbrev pub invariant-loop-i : goal.invariant-loop-i
invariant-loop-i g l = record {
  others : (j : ℕ) (d : _) → (j < l.offset) ⊎ (l.offset + l.i ≤ j) → slice_index_or l.round_keys j d
      ≡ slice_index_or l.initial.round_keys j d;
  sums : (m : ℕ) (d : _) (r c k : ℕ) → m < l.i → r < 4 → c < 4 → k < g.W.Word.BLOCKS
      → at (g.W.Word.bits (slice_index_or l.round_keys (l.offset + m) d))
      (place g.W.Word.BLOCKS r c k)
      ≡ fold_to xor (λ e. at
      (g.W.Word.bits (slice_index_or l.initial.round_keys (l.offset + m - l.idx_xor) d))
      (place g.W.Word.BLOCKS r e k))
      (at (g.W.Word.bits (slice_index_or l.initial.round_keys (l.offset + m) d))
      ((place g.W.Word.BLOCKS r 0 k + l.idx_ror) % g.W.Word.BITS)) c;
  same_length : length l.round_keys ≡ length l.initial.round_keys;
}
