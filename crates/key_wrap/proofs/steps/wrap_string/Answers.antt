use Rattle.std.proofs.Common.{◌∷◌, ◌∙◌, arith, length}
use Rattle.aes_planes.specs.Fips197.{cipher_with}
use Rattle.key_wrap.specs.KeyWrap.{wrapped_after}
use Rattle.key_wrap.specs.Padded.{wrapped_string}
use Rattle.key_wrap.proofs.Padding.{two_semiblocks_as_block, other_strings_as_steps}
use Rattle.key_wrap.proofs.steps.wrap_string.Goals as goal

pub returns-then-others-eq1 : goal.returns-then-others-eq1
unfolding wrapped_string
returns-then-others-eq1 g c =
    let w = g.C.RoundKeysUser.round_keys c.args.cipher.now in
    two_semiblocks_as_block (cipher_with w) (wrapped_after w)
    c.args.check.now c.args.others.now c.encrypt_halves.new.first c.encrypt_halves.new.second
    c.if-others-eq1.true c.encrypt_halves.ensures.first c.encrypt_halves.ensures.second

pub returns-else-others-eq1 : goal.returns-else-others-eq1
unfolding wrapped_string
returns-else-others-eq1 g c =
    let w = g.C.RoundKeysUser.round_keys c.args.cipher.now in
    c.wrap_in_place.ensures
    ∙ other_strings_as_steps (cipher_with w) (wrapped_after w) (c.args.check.now ∷ c.args.others.now)
    (length c.args.others.now) (omega arith)
    (λ two. c.if-others-eq1.false (omega (arith, two)))
