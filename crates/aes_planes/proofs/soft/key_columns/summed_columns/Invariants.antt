use Rattle.std.proofs.Common.{◌≡◌, ℕ, ◌+◌, ◌%◌, ◌<◌, length, slice_index_or}
use Rattle.aes_planes.specs.Bits.{at, xor}
use Rattle.aes_planes.specs.Planes.{place, fold_to}
use Rattle.aes_planes.proofs.soft.key_columns.summed_columns.Given as goal

abbrev pub invariant-planes : goal.invariant-planes
invariant-planes g l = record {
  done : (m : ℕ) (d : _) (r c k : ℕ) → m < l.p → r < 4 → c < 4 → k < g.W.Word.BLOCKS
      → at (g.W.Word.bits (slice_index_or l.sums m d)) (place g.W.Word.BLOCKS r c k)
      ≡ fold_to xor (λ e. at (g.W.Word.bits (slice_index_or l.before m d))
      (place g.W.Word.BLOCKS r e k)) (at
      (g.W.Word.bits (slice_index_or l.start m d))
      ((place g.W.Word.BLOCKS r 0 k + l.rotation) % g.W.Word.BITS)) c;
  same_length : length l.sums ≡ 8;
}
