-- The bytes so far have no separator.
use Rattle.std.proofs.Common.{take}
use Rattle.aes_kat.specs.Lines.{Lacks}
use Rattle.aes_kat.proofs.split.split_once.Given as goal

abbrev pub invariant-loop-at : goal.invariant-loop-at
invariant-loop-at l = Lacks l.separator (take l.at l.text)
