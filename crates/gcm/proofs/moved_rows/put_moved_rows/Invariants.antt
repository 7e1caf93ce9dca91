-- The first 2 r rows are those of the multiples by four powers of x more.
use Rattle.std.proofs.Common.{◌≡◌, ℕ, ◌*◌, ◌<◌, [], length, get_or}
use Rattle.gcm.specs.Gcm.{v_at}
use Rattle.gcm.specs.Multiples.{multiples_row, row_at}
use Rattle.gcm.proofs.moved_rows.put_moved_rows.Given as goal

abbrev pub invariant-loop-r : goal.invariant-loop-r
invariant-loop-r l = record {
  sized : length l.moved_rows ≡ 16;
  at : (k : ℕ) → k < 2 * l.r → get_or l.moved_rows k [] ≡ multiples_row (v_at l.v 4) (row_at k);
}
