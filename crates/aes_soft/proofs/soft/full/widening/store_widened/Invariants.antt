use Rattle.std.proofs.Common.{◌≡◌, ℕ, ◌<◌, length, slice_index_or}
use Rattle.aes_soft.proofs.Widened.{InEverySlot}
use Rattle.aes_soft.proofs.soft.full.widening.store_widened.Given as goal

abbrev pub invariant-widen : goal.invariant-widen
invariant-widen g l = record {
  spread : (m : ℕ) (d : _) → m < l.i
      → InEverySlot g.W.Word.bits g.W.Word.BITS g.W.Word.ROW_BITS g.W.Word.QUARTER_ROW
      l.round_keys m (slice_index_or l.widened m d);
  same_length : length l.widened ≡ length l.round_keys;
}
