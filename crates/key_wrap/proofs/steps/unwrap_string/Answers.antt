use Rattle.std.proofs.Common.{◌∷◌, ◌∙◌, arith, length}
use Rattle.aes_planes.specs.Fips197.{inv_cipher_with}
use Rattle.key_wrap.specs.KeyWrap.{unwrapped_from}
use Rattle.key_wrap.specs.Padded.{unwrapped_string}
use Rattle.key_wrap.proofs.Padding.{two_semiblocks_as_block, other_strings_as_steps}
use Rattle.key_wrap.proofs.steps.unwrap_string.Goals as goal

pub returns-then-others-eq1 : goal.returns-then-others-eq1
unfolding unwrapped_string
returns-then-others-eq1 g c =
    let w = g.C.RoundKeysUser.round_keys c.args.cipher.now in
    two_semiblocks_as_block (inv_cipher_with w) (unwrapped_from w)
    c.args.check.now c.args.others.now c.decrypt_halves.new.first c.decrypt_halves.new.second
    c.if-others-eq1.true c.decrypt_halves.ensures.first c.decrypt_halves.ensures.second

pub returns-else-others-eq1 : goal.returns-else-others-eq1
unfolding unwrapped_string
returns-else-others-eq1 g c =
    let w = g.C.RoundKeysUser.round_keys c.args.cipher.now in
    c.unwrap_in_place.ensures
    ∙ other_strings_as_steps (inv_cipher_with w) (unwrapped_from w) (c.args.check.now ∷ c.args.others.now)
    (length c.args.others.now) (omega arith)
    (λ two. c.if-others-eq1.false (omega (arith, two)))
