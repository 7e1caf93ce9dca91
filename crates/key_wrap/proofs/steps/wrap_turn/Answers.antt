use Rattle.std.proofs.Common.{◌≡◌, ◌+◌, ◌*◌, ◌∙◌, ap, length, length-set, arith}
use Rattle.key_wrap.specs.KeyWrap.{wrapped_after}
use Rattle.key_wrap.proofs.Turns.{step_wrapped}
use Rattle.key_wrap.proofs.steps.wrap_turn.Goals as goal

pub loop-i-preserved : goal.loop-i-preserved
loop-i-preserved g c =
    let w = g.C.RoundKeysUser.round_keys c.args.cipher.now in
    let at = c.args.turn * length c.args.others.now in
    let i = c.loop-i.i in
    let n : at + (i + 1) ≡ at + i + 1 = omega arith in
    record {
      sized = length-set c.loop-i.others i c.wrap_step.new.semiblock ∙ c.loop-i.invariant.sized;
      state = λ s begun.
          ap (wrapped_after w s) n
          ∙ step_wrapped w c.loop-i.check c.loop-i.others i (at + i)
          (omega arith) c.wrap_step.new.check
          c.wrap_step.new.semiblock c.wrap_step.ensures.check c.wrap_step.ensures.semiblock s
          (c.loop-i.invariant.state s begun);
    }
