-- The cipher that was made gives the keystream of its key.
use Rattle.std.proofs.Common.{◌∙◌, ap, sym}
use Rattle.aes_planes.specs.Fips197.{key_expansion}
use Rattle.gcm_siv.specs.GcmSiv.{counter_mode}
use Rattle.gcm_siv.specs.Private.{key_of_some}
use Rattle.gcm_siv.proofs.message_key.MadeCipherMessageKey.add_keystream.Goals as goal

pub returns : goal.returns
unfolding key_of_some
returns g c =
    c.add_keystream.ensures
    ∙ ap (λ w. counter_mode w c.args.start.now c.args.bytes.now) (g.met.C.KeyInit.expanded _
    ∙ ap (λ it. key_expansion (key_of_some g.C.KeyInit.own_key it)) (sym c.in-Some.is))
