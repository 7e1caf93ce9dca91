use Rattle.std.proofs.Common.{ℕ, ◌<◌, List, slice_index_or}
use Rattle.key_wrap.specs.KeyWrap.{IsSemiblock}
use Rattle.key_wrap.proofs.laws.semiblocks_have_8_bytes.Given as goal

abbrev pub invariant-loop-i : goal.invariant-loop-i
invariant-loop-i l = (k : ℕ) (d : List ℕ) → k < l.i → IsSemiblock (slice_index_or l.key k d)
