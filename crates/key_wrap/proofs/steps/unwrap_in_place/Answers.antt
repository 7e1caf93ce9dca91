use Rattle.std.proofs.Common.{◌≡◌, ◌-◌, ◌*◌, ◌∷◌, ◌∙◌, ap, length, sym, arith}
use Rattle.key_wrap.specs.KeyWrap.{unwrapped_from}
use Rattle.key_wrap.proofs.steps.unwrap_in_place.Goals as goal

pub returns : goal.returns
unfolding unwrapped_from
returns g c =
    let w = g.C.RoundKeysUser.round_keys c.args.cipher.now in
    let m = length c.args.others.now in
    let ended : 6 - c.loop-k.k ≡ 0 = omega arith in
    let none : 0 * m ≡ 0 = omega arith in
    sym (ap (unwrapped_from w (c.loop-k.check ∷ c.loop-k.others)) (ap (λ n. n * m) ended ∙ none))
    ∙ c.loop-k.invariant.state
