use Rattle.std.proofs.Common.{◌≡◌}
use Rattle.aes_cipher.specs.Blocks.{padded}
use Rattle.cmac.specs.Chain.{chained}
use Rattle.cmac.proofs.chaining.chain.Given as goal

abbrev pub invariant-loop-i : goal.invariant-loop-i
invariant-loop-i g l =
    l.value ≡ chained (g.C.RoundKeysUser.round_keys l.cipher) l.fn.value (padded l.bytes) l.i
