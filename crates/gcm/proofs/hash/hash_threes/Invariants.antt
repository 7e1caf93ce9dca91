-- The first 3 i blocks are hashed.
use Rattle.std.proofs.Common.{◌≡◌, ◌*◌}
use Rattle.std.specs.Int.{w128, from_be_bytes}
use Rattle.gcm.specs.Hashed.{hashed_as}
use Rattle.gcm.proofs.hash.hash_threes.Given as goal

abbrev pub invariant-loop-i : goal.invariant-loop-i
invariant-loop-i g l =
    from_be_bytes w128 l.value ≡ hashed_as g.O.ByteOrder.number l.multiples
    (from_be_bytes w128 l.fn.value) l.bytes (3 * l.i)
