-- The masked bytes so far have a bit if and only if one of them isn't 0; at the end these are the
-- last bytes.
use Rattle.std.proofs.Common.{◌≡◌, ◌-◌, ◌+◌, ◌<◌, ◌∙◌, ℕ, ap, arith, below_more, bit_and, bit_or, drop}
use Rattle.std.proofs.Common.{get_or, inl, inr, replicate, sym}
use Rattle.std.proofs.lemmas.Bool.{cases_lt}
use Rattle.std.proofs.lemmas.List.{ext_get_or, get_or-drop, get_or-replicate, length-drop}
use Rattle.std.proofs.lemmas.List.{length-replicate}
use Rattle.std.proofs.lemmas.Nat.{and_le_l, and_le_r, and_mask, le_or_l, le_or_r}
use Rattle.key_wrap.proofs.padded.last_bytes.Goals as goal

pub loop-i-preserved : goal.loop-i-preserved
loop-i-preserved c =
    let before = c.loop-i.bytes in
    let i = c.loop-i.i in
    let count = c.args.count in
    let x = get_or c.args.semiblock.now (7 - i) 0 in
    let mask = c.mask_below.result in
    let more = bit_and x mask in
    let whole : i < count → more ≡ x = λ below.
    ap (bit_and x) (c.mask_below.ensures.below below) ∙ and_mask x 8 ∙ omega (arith, c.fits-semiblock (7 - i)) in
    record {
      zeros = λ none. below_more _ _
          (c.loop-i.invariant.zeros (omega (arith, le_or_l before more, none)))
          (λ below. sym (whole below) ∙ omega (arith, le_or_r before more, none));
      none = λ all.
          let none_before : before ≡ 0 = c.loop-i.invariant.none (λ k h. all k (omega arith)) in
          let none_here : more ≡ 0 = elim (cases_lt i count) [
            | inl below ↦ omega (arith, and_le_l x mask, all i (omega arith) below)
            | inr other ↦ omega (arith, and_le_r x mask, c.mask_below.ensures.other other)
          ] in
          λ j. bit_or (none_before j) (none_here j);
    }

pub returns : goal.returns
returns c =
    let semiblock = c.args.semiblock.now in
    let n = c.args.count in
    let at : (i : ℕ) → get_or (drop (8 - n) semiblock) i 0 ≡ get_or semiblock (8 - n + i) 0 =
    λ i. get_or-drop (8 - n) semiblock i 0 in (
      λ none. ext_get_or 0 (drop (8 - n) semiblock) (replicate n 0)
          (length-drop (8 - n) semiblock ∙ omega (arith, c.told-semiblock, c.requires) ∙ sym (length-replicate n 0))
          (λ i h.
          let below : i < n = omega (arith, length-drop (8 - n) semiblock, c.told-semiblock, c.requires) in
          let place : 8 - n + i ≡ 7 - (n - 1 - i) = omega (arith, c.requires, below) in
          at i ∙ ap (λ k. get_or semiblock k 0) place
          ∙ c.loop-i.invariant.zeros none (n - 1 - i) (omega (arith, c.requires)) (omega (arith, below))
          ∙ sym (get_or-replicate n i 0 0 below)),
      λ zeros. c.loop-i.invariant.none (λ k h below.
          let place : 7 - k ≡ 8 - n + (n - 1 - k) = omega (arith, c.requires, below) in
          ap (λ m. get_or semiblock m 0) place ∙ sym (at (n - 1 - k))
          ∙ ap (λ l. get_or l (n - 1 - k) 0) zeros
          ∙ get_or-replicate n (n - 1 - k) 0 0 (omega (arith, below))),
    )
