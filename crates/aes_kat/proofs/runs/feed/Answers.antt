-- If a write fails, a beginning of the answers was written.
use Rattle.aes_kat.proofs.Progress.{OnErr-from, StopsWithin-written}
use Rattle.aes_kat.proofs.runs.feed.Goals as goal

pub returns-in_err-write_whole-clause-stopped : goal.returns-in_err-write_whole-clause-stopped
returns-in_err-write_whole-clause-stopped g c =
    let fault = c.in_ok-fault in
    OnErr-from _ _ (StopsWithin-written _ _ _ _ _ _ fault.fault c.clear.ensures.items
    fault.ensures.gathers
    (rw c.as_slice.ensures.value at c.in_err-write_whole.ensures.beginning))
