-- The cipher that was made encrypts under its key.
use Rattle.std.proofs.Common.{◌∙◌, ap, sym}
use Rattle.aes_planes.specs.Fips197.{cipher_with, key_expansion}
use Rattle.gcm_siv.specs.Private.{key_of_some}
use Rattle.gcm_siv.proofs.message_key.MadeCipherMessageKey.encrypt_block.Goals as goal

pub returns : goal.returns
unfolding key_of_some
returns g c =
    c.encrypt_block.ensures
    ∙ ap (λ w. cipher_with w c.args.block.now) (g.met.C.KeyInit.expanded _
    ∙ ap (λ it. key_expansion (key_of_some g.C.KeyInit.own_key it)) (sym c.in-Some.is))
