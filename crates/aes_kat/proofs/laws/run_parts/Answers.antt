-- What a failed run wrote, by how many bytes it wrote.
use Rattle.std.proofs.Common.{◌≡◌, ◌-◌, ◌++◌, length, take, ap, sym, ◌∙◌, arith, length-append}
use Rattle.std.proofs.Math.Seq.{take-append_seam}
use Rattle.aes_kat.proofs.laws.run_parts.Goals as goal

pub returns-clause-failed : goal.returns-clause-failed
returns-clause-failed c failed text old new left h =
    let count : length new - length old ≡ length h.0 =
    omega (arith, ap length h.1, length-append old h.0) in
    h.1 ∙ ap (λ l. old ++ l) (sym (take-append_seam h.0 h.2.0))
    ∙ (λ i. old ++ take (sym count i) (sym h.2.1 i))
