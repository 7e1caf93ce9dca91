use Rattle.std.proofs.Common.{◌≡◌, ℕ, ◌∙◌, ap, arith, below_more, bit_or, bit_xor, get_or, sym}
use Rattle.std.proofs.lemmas.List.{ext_get_or}
use Rattle.std.proofs.lemmas.Nat.{le_or_l, le_or_r}
use Rattle.std.specs.Int.Bits.{or_zero_l, xor_assoc, xor_self, xor_zero_l, xor_zero_r}
use Rattle.aes_cipher.proofs.blocks.difference.Goals as goal

-- two numbers whose sum modulo 2 is 0
same : (x y : ℕ) → bit_xor x y ≡ 0 → x ≡ y
same x y e =
    sym (xor_zero_r x) ∙ ap (bit_xor x) (sym (xor_self y)) ∙ sym (xor_assoc x y y)
    ∙ ap (λ s. bit_xor s y) e
    ∙ xor_zero_l y

pub loop-i-preserved : goal.loop-i-preserved
loop-i-preserved c =
    let d = c.loop-i.difference in
    let i = c.loop-i.i in
    let x = get_or c.args.a.now i 0 in
    let y = get_or c.args.b.now i 0 in
    let s = bit_xor x y in
    let here : bit_or d s ≡ 0 → x ≡ y = λ zero. same x y (omega (arith, le_or_r d s, zero)) in
    record {
      agree = λ zero. below_more _ _
          (c.loop-i.invariant.agree (omega (arith, le_or_l d s, zero))) (here zero);
      none = λ all.
          let before : d ≡ 0 = c.loop-i.invariant.none (λ k h. all k (omega arith)) in
          let here : s ≡ 0 = ap (bit_xor x) (sym (all i (omega arith))) ∙ xor_self x in
          ap (λ v. bit_or v s) before ∙ or_zero_l s ∙ here;
    }

pub returns : goal.returns
returns c =
    let a = c.args.a.now in
    let b = c.args.b.now in (
      λ none. ext_get_or 0 a b (omega (arith, c.told-a, c.told-b))
          (λ k h. c.loop-i.invariant.agree none k (omega (arith, c.told-a))),
      λ e. c.loop-i.invariant.none (λ k h. ap (λ l. get_or l k 0) e),
    )
