-- The last line is answered; or a write or a flush fails after a beginning of its answer.
use Rattle.std.proofs.KnownBytes.{Appends-kept}
use Rattle.aes_kat.proofs.Progress.{OnErr-from, AppendsBeginning-whole, only_gathered}
use Rattle.aes_kat.proofs.runs.finish.Goals as goal

pub returns-in_err-write_whole-clause-stopped : goal.returns-in_err-write_whole-clause-stopped
returns-in_err-write_whole-clause-stopped g c =
    let gathered = only_gathered _ _ _ _ c.as_slice.ensures.value c.in_ok-fault.ensures.text
    c.clear.ensures.items in
    OnErr-from _ _ (rw gathered at c.in_err-write_whole.ensures.beginning)

pub returns-in_err-flush-clause-stopped : goal.returns-in_err-flush-clause-stopped
returns-in_err-flush-clause-stopped g c =
    let gathered = only_gathered _ _ _ _ c.as_slice.ensures.value c.in_ok-fault.ensures.text
    c.clear.ensures.items in
    OnErr-from _ _ (AppendsBeginning-whole _ _ _
    (Appends-kept _ _ _ _ (rw gathered at c.in_ok-write_whole.ensures.all)
    c.in_err-flush.ensures.bytes))

pub returns-clause-written : goal.returns-clause-written
returns-clause-written g c =
    let gathered = only_gathered _ _ _ _ c.as_slice.ensures.value c.in_ok-fault.ensures.text
    c.clear.ensures.items in
    Appends-kept _ _ _ _ (rw gathered at c.in_ok-write_whole.ensures.all)
    c.in_ok-flush.ensures.bytes
