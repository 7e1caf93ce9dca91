use Rattle.std.proofs.Common.{◌≡◌, ◌+◌, ◌-◌, ◌*◌, ◌∷◌, ◌∙◌, ap, length, length-set, set, arith}
use Rattle.key_wrap.specs.KeyWrap.{unwrapped_from}
use Rattle.key_wrap.proofs.Turns.{step_unwrapped, turned}
use Rattle.key_wrap.proofs.steps.unwrap_turn.Goals as goal

pub loop-k-preserved : goal.loop-k-preserved
loop-k-preserved g c =
    let w = g.C.RoundKeysUser.round_keys c.args.cipher.now in
    let m = length c.args.others.now in
    let at = c.args.turn * m in
    let k = c.loop-k.k in
    let i = length c.loop-k.others - 1 - k in
    let now : m - (k + 1) ≡ i = omega (arith, c.loop-k.invariant.sized) in
    let next : i + 1 ≡ m - k = omega (arith, c.loop-k.invariant.sized) in
    let n : at + i + 1 ≡ at + (m - k) = omega (arith, c.loop-k.invariant.sized) in
    let a = c.unwrap_step.new.check in
    let r = c.unwrap_step.new.semiblock in
    record {
      sized = length-set c.loop-k.others i r ∙ c.loop-k.invariant.sized;
      state = ap (λ j. unwrapped_from w (a ∷ turned j (set c.loop-k.others i r)) (at + j)) now
          ∙ step_unwrapped w c.loop-k.check c.loop-k.others i (at + i)
          (omega arith) a r c.unwrap_step.ensures.check c.unwrap_step.ensures.semiblock
          ∙ (λ j. unwrapped_from w (c.loop-k.check ∷ turned (next j) c.loop-k.others) (n j))
          ∙ c.loop-k.invariant.state;
    }
