-- One bit of the block more: V goes on by a step, and Z by V if the bit is 1.
use Rattle.std.proofs.Common.{◌≡◌, ℕ, suc, ◌+◌, ◌*◌, ◌%◌, ◌∙◌, ap, arith, refl}
use Rattle.gcm.specs.Gcm.{next_v, v_at, z_at, product}
use Rattle.gcm.proofs.Products.BitByBit.{shifted, one_more}
use Rattle.gcm.proofs.bitwise.product_bitwise.Goals as goal

pub loop-i-init : goal.loop-i-init
unfolding v_at z_at
loop-i-init c = record { left = omega arith; sum = refl; multiple = refl }

pub loop-i-preserved : goal.loop-i-preserved
unfolding v_at
loop-i-preserved c =
    let x : ℕ = c.args.x in
    let h : ℕ = c.args.h in
    let i : ℕ = c.loop-i.i in
    let now = c.loop-i.invariant in
    let more : suc i ≡ i + 1 = omega arith in
    record {
      left = ap (λ l. l * 2 % 340282366920938463463374607431768211456) now.left ∙ shifted x i;
      sum = one_more x h _ _ _ _ i now.left now.sum now.multiple (omega arith) c.if_one-z.ensures
          ∙ ap (z_at x h) more;
      multiple = c.next_v-v.ensures ∙ ap next_v now.multiple ∙ ap (v_at h) more;
    }

pub returns : goal.returns
unfolding product
returns c =
    let all : c.loop-i.i ≡ 128 = omega arith in
    c.loop-i.invariant.sum ∙ ap (z_at c.args.x c.args.h) all
