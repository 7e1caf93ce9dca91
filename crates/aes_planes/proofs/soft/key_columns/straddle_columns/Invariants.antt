use Rattle.std.proofs.Common.{◌≡◌, ℕ, ◌+◌, ◌-◌, ◌<◌, cond, nat_lt, length, slice_index_or}
use Rattle.aes_planes.specs.Bits.{at}
use Rattle.aes_planes.specs.Planes.{place}
use Rattle.aes_planes.proofs.soft.key_columns.straddle_columns.Given as goal

abbrev pub invariant-planes : goal.invariant-planes
invariant-planes g l = record {
  done : (m : ℕ) (d : _) (r c k : ℕ) → m < l.p → r < 4 → c < 4 → k < g.W.Word.BLOCKS
      → at (g.W.Word.bits (slice_index_or l.columns m d)) (place g.W.Word.BLOCKS r c k)
      ≡ cond (nat_lt c 2)
      (at (g.W.Word.bits (slice_index_or l.left m d)) (place g.W.Word.BLOCKS r (c + 2) k))
      (at (g.W.Word.bits (slice_index_or l.right m d)) (place g.W.Word.BLOCKS r (c - 2) k));
  same_length : length l.columns ≡ 8;
}
