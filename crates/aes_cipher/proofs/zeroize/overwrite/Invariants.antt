use Rattle.std.proofs.Common.{◌≡◌, ◌++◌, replicate, drop}
use Rattle.aes_cipher.proofs.zeroize.overwrite.Given as goal

abbrev pub invariant-loop-place : goal.invariant-loop-place
invariant-loop-place g l = l.elements ≡ replicate l.place-index l.fn.element
    ++ drop l.place-index l.fn.elements
