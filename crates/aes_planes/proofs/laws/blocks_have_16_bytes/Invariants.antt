use Rattle.std.proofs.Common.{ℕ, ◌<◌, slice_index_or, []}
use Rattle.aes_planes.specs.Fips197.{IsBlock}
use Rattle.aes_planes.proofs.laws.blocks_have_16_bytes.Given as goal

abbrev pub invariant-loop-i : goal.invariant-loop-i
invariant-loop-i l = (k : ℕ) → k < l.i → IsBlock (slice_index_or l.blocks k [])
