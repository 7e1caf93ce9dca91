-- What was gathered answers the whole lines so far; the line that has begun has no line end.
use Rattle.std.proofs.Common.{◌++◌, length}
use Rattle.aes_kat.specs.Lines.{Lacks}
use Rattle.aes_kat.specs.Private.Progress.{Gathers}
use Rattle.aes_kat.proofs.runs.gather.Given as goal

abbrev pub invariant-loop-front : goal.invariant-loop-front
invariant-loop-front g l = record {
  begun : Lacks 10 l.line.items;
  gathers : Gathers l.fn.answers.items l.answers.items (l.fn.line.items ++ l.fn.chunk)
      (l.line.items ++ l.rest) l.fault;
}

abbrev pub decreases-loop-front : goal.decreases-loop-front
decreases-loop-front g l = length l.rest
