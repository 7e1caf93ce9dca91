use Rattle.std.proofs.Common.{◌≡◌, ℕ, ◌*◌, ◌/◌, ◌%◌, ◌^◌, ◌<◌, [], ◌∷◌, length, get_or}
use Rattle.std.proofs.Common.{slice_index_or}
use Rattle.aes_planes.specs.Bits.{at, bit}
use Rattle.aes_planes.proofs.soft.word.Word.constant_planes.Given as goal

abbrev pub invariant-planes : goal.invariant-planes
invariant-planes g l = record {
  done : (m : ℕ) (d : _) (i : ℕ) → m < l.p → i < g.Self.Word.BITS
      → at (g.Self.Word.bits (slice_index_or l.planes m d)) i
      ≡ bit (get_or (0 ∷ 8 * (l.byte / 2 ^ m % 2) ∷ 0 ∷ 0 ∷ []) (i / g.Self.Word.ROW_BITS) 0)
      (i % g.Self.Word.ROW_BITS / g.Self.Word.QUARTER_ROW);
  same_length : length l.planes ≡ 8;
}
