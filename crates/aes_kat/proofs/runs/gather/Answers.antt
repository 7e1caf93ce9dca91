-- A whole line in the chunk is answered, and the next line begins empty.
use Rattle.std.proofs.Common.{◌==◌, ◌≡◌, false, ◌∙◌}
use Rattle.std.proofs.lemmas.List.Elements.{All-nil}
use Rattle.aes_kat.proofs.Progress.{Gathers-line}
use Rattle.aes_kat.proofs.runs.gather.Goals as goal

pub loop-front-preserved : goal.loop-front-preserved
loop-front-preserved g c =
    let i = c.loop-front.invariant in
    record {
      begun = rw c.clear.ensures.items (All-nil (λ b. (b == 10) ≡ false));
      gathers =
          Gathers-line _ _ _ _ _ _ _ _ c.in-Some.after.now _ c.loop-front.fault _ i.gathers i.begun
          c.in-Some.ensures.1 c.in-Some.ensures.0
          (c.as_slice.ensures.value ∙ c.in_ok-extend_from_slice.ensures.items)
          c.in_ok-fault.ensures.text c.in_ok-fault.ensures.fault c.clear.ensures.items;
    }
