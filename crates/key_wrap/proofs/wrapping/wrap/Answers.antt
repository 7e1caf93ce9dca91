use Rattle.std.proofs.Common.{◌*◌, ◌∷◌, ◌∙◌, ap, length}
use Rattle.key_wrap.specs.KeyWrap.{integrity_check, wrapped, wrapped_after}
use Rattle.key_wrap.proofs.wrapping.wrap.Goals as goal

pub returns-in-Some-clause-wrapped : goal.returns-in-Some-clause-wrapped
unfolding wrapped
returns-in-Some-clause-wrapped g c =
    let w = g.C.RoundKeysUser.round_keys c.args.cipher.now in
    c.wrap_in_place.ensures
    ∙ ap (λ key. wrapped_after w (integrity_check ∷ key) (6 * length key))
    c.copy_from_slice.ensures.after
