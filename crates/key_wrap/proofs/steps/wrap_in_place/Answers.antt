use Rattle.std.proofs.Common.{◌≡◌, ◌*◌, ◌∷◌, ap, length, refl, arith}
use Rattle.key_wrap.specs.KeyWrap.{wrapped_after}
use Rattle.key_wrap.proofs.steps.wrap_in_place.Goals as goal

pub loop-turn-init : goal.loop-turn-init
unfolding wrapped_after
loop-turn-init g c =
    let w = g.C.RoundKeysUser.round_keys c.args.cipher.now in
    let none : 0 * length c.args.others.now ≡ 0 = omega arith in
    record {
      sized = refl;
      state =
          ap (wrapped_after w (c.args.check.now ∷ c.args.others.now)) none;
    }
