-- The first i blocks are hashed.
use Rattle.std.proofs.Common.{◌≡◌}
use Rattle.gcm.specs.Hashed.{hashed_as}
use Rattle.gcm.proofs.single_blocks.hash_whole.Given as goal

abbrev pub invariant-loop-i : goal.invariant-loop-i
invariant-loop-i g l =
    g.F.Factor.number l.hashed ≡ hashed_as g.O.ByteOrder.number (g.F.Factor.subkey l.factor)
    (g.F.Factor.number l.fn.value) l.bytes l.i
