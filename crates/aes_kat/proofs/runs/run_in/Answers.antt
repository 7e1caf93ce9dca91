-- A run answers all of its input, or fails after a beginning of the answers.
use Rattle.std.proofs.Common.{◌++◌, take, arith}
use Rattle.std.proofs.KnownBytes.{Consumes-trans}
use Rattle.aes_kat.specs.Answers.{answers_to, AppendsBeginning}
use Rattle.aes_kat.proofs.Progress.{Runs-failed, Advances-chunk, StopsWithin-here}
use Rattle.aes_kat.proofs.Progress.{StopsWithin-chunk, AppendsBeginning-ended, held-ended}
use Rattle.aes_kat.proofs.Progress.{stops-held}
use Rattle.aes_kat.proofs.runs.run_in.Goals as goal

pub returns-in_err-count : goal.returns-in_err-count
returns-in_err-count g c =
    let i = c.reads.invariant.read in
    Runs-failed _ _ _ _ _ c.from_residual-in_err-count.ensures.0
    (stops-held _ _ _ _ i.0 i.1 (StopsWithin-here _ _ _ _ _ i.2))

pub returns-in_err-last : goal.returns-in_err-last
returns-in_err-last g c =
    let i = c.reads.invariant.read in
    let read = c.in_ok-count.ensures.bytes in
    let written = g.W.Write.contents in
    let stopped = rw c.as_slice.ensures.value at c.in_err-last.ensures.stopped in
    Runs-failed _ _ _ _ _ c.from_residual-in_err-last.ensures.0
    (held-ended _ _ _ i.0 c.read.new.buf c.in_ok-count.count
    (λ text. AppendsBeginning (written c.args.output.now) (written c.finish.new.output)
    (answers_to text))
    i.1 read.0 c.if-count-eq0.true (read.1 c.if-count-eq0.true (omega arith))
    (AppendsBeginning-ended _ _ _ i.0 c.reads.line.items c.reads.fault i.2 stopped))

pub returns-in_err-more : goal.returns-in_err-more
returns-in_err-more g c =
    let i = c.reads.invariant.read in
    Runs-failed _ _ _ _ _ c.from_residual-in_err-more.ensures.0
    (stops-held _ _ _ _ (i.0 ++ take c.in_ok-count.count c.read.new.buf)
    (Consumes-trans _ _ _ i.0 _ i.1 c.in_ok-count.ensures.bytes.0)
    (StopsWithin-chunk _ _ _ i.0 c.reads.line.items c.reads.fault i.2 _
    c.in_err-more.ensures.stopped))

pub reads-preserved : goal.reads-preserved
reads-preserved g c =
    let i = c.reads.invariant.read in
    record {
      room = grind arith;
      begun = c.in_ok-more.ensures.begun;
      read = (
        i.0 ++ take c.in_ok-count.count c.read.new.buf,
        Consumes-trans _ _ _ i.0 _ i.1 c.in_ok-count.ensures.bytes.0,
        Advances-chunk _ _ _ i.0 c.reads.line.items c.reads.fault i.2 _ _ c.in_ok-more.more
            c.in_ok-more.ensures.written,
      );
    }

pub returns : goal.returns
returns g c =
    let i = c.reads.invariant.read in
    stops-held _ _ _ _ i.0 i.1 (StopsWithin-here _ _ _ _ _ i.2)
