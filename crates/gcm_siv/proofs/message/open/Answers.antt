-- A refused text was decrypted and encrypted again, so that it is as it came.
use Rattle.std.proofs.Common.{◌∙◌, ap}
use Rattle.aes_planes.specs.Fips197.{key_expansion}
use Rattle.gcm_siv.specs.GcmSiv.{text_under}
use Rattle.gcm_siv.proofs.Messages.{under_twice}
use Rattle.gcm_siv.proofs.message.open.Goals as goal

pub returns-clause-untouched : goal.returns-clause-untouched
returns-clause-untouched g c = λ refused.
    let w = key_expansion (g.K.MessageKey.own_key c.args.key.now) in
    c.process_text-2.ensures ∙ ap (text_under w c.args.tag.now) c.process_text.ensures
    ∙ under_twice w c.args.tag.now c.args.text.now
