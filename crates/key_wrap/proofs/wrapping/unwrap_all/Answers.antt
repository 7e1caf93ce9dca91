use Rattle.std.proofs.Common.{◌≡◌, ◌-◌, ◌*◌, ◌∷◌, ◌∙◌, [], ap, arith, get_or, length, sym}
use Rattle.key_wrap.specs.KeyWrap.{unwrapped, unwrapped_from}
use Rattle.key_wrap.proofs.wrapping.unwrap_all.Goals as goal

pub returns-clause-all : goal.returns-clause-all
unfolding unwrapped
returns-clause-all g c =
    let w = g.C.RoundKeysUser.round_keys c.args.cipher.now in
    let copied = c.copy_apart-check.result ∷ c.copy_apart-check.new.output in
    let n : length c.copy_apart-check.new.output ≡ length copied - 1 = omega arith in
    c.unwrap_in_place.ensures ∙ ap (λ m. unwrapped_from w copied (6 * m)) n
    ∙ ap (unwrapped w) c.copy_apart-check.ensures

pub returns-clause-first : goal.returns-clause-first
returns-clause-first g c = ap (λ l. get_or l 0 []) (sym (returns-clause-all g c))
