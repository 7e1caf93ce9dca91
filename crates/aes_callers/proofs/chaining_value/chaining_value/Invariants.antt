-- After i blocks the value is that of a chain of i blocks.
use Rattle.std.proofs.Common.{◌≡◌}
use Rattle.aes_callers.specs.ChainingValue.{value_after}
use Rattle.aes_callers.proofs.chaining_value.chaining_value.Given as goal

abbrev pub invariant-loop-i : goal.invariant-loop-i
invariant-loop-i g l = l.value ≡ value_after (g.C.RoundKeysUser.round_keys l.cipher) l.blocks l.i
