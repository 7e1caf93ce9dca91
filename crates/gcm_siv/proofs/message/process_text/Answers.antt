-- Counter mode from the tag's counter block on is the text's encryption.
use Rattle.std.proofs.Common.{◌∙◌, ap}
use Rattle.aes_planes.specs.Fips197.{key_expansion}
use Rattle.gcm_siv.specs.GcmSiv.{counter_mode, text_under}
use Rattle.gcm_siv.proofs.message.process_text.Goals as goal

pub returns : goal.returns
unfolding text_under
returns g c =
    c.add_keystream.ensures
    ∙ ap (λ b. counter_mode (key_expansion (g.K.MessageKey.own_key c.args.key.now)) b c.args.text.now)
    c.first_counter.ensures
