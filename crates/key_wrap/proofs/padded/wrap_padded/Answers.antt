use Rattle.std.proofs.Common.{◌∷◌, ◌∙◌}
use Rattle.key_wrap.specs.Padded.{headed, wrapped_padded, wrapped_string}
use Rattle.key_wrap.proofs.padded.wrap_padded.Goals as goal

pub returns-in-Some-clause-wrapped : goal.returns-in-Some-clause-wrapped
unfolding wrapped_padded headed
returns-in-Some-clause-wrapped g c =
    let w = g.C.RoundKeysUser.round_keys c.args.cipher.now in
    c.wrap_string.ensures ∙ (λ j. wrapped_string w (c.heading_of.ensures j ∷ c.fill.ensures j))
