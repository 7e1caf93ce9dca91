-- A piece begins inside the bytes.
use Rattle.std.proofs.Common.{◌≤◌, length}
use Rattle.mode_tests.proofs.tests.counter_mode.apply_in_pieces.Given as goal

abbrev pub invariant-loop-piece : goal.invariant-loop-piece
invariant-loop-piece g l = l.from ≤ length l.bytes
