-- Under the derived keys tag and text are those of the key and the nonce.
use Rattle.std.proofs.Common.{◌∙◌, ℕ, ap}
use Rattle.std.specs.Int.{w128, from_le_bytes}
use Rattle.aes_planes.specs.Fips197.{key_expansion}
use Rattle.gcm_siv.specs.GcmSiv.{authentication_key, tag, tag_under, text, text_under}
use Rattle.gcm_siv.proofs.course.seal_in.Goals as goal

pub returns-clause-tag : goal.returns-clause-tag
unfolding tag
returns-clause-tag g c key is =
    let h : ℕ = from_le_bytes w128 (authentication_key key c.args.nonce.now) in
    c.seal-tag.ensures.tag h (c.derive_and_prepare.ensures.small key is)
    (ap g.R.ProductRoom.subkey c.value-2.ensures ∙ c.derive_and_prepare.ensures.authentication key is)
    ∙ ap (λ k. tag_under (key_expansion k) h c.args.nonce.now c.args.additional.now c.args.text.now)
    (ap g.K.MessageKey.own_key c.value.ensures ∙ c.derive_and_prepare.ensures.encryption key is)

pub returns-clause-encrypted : goal.returns-clause-encrypted
unfolding text
returns-clause-encrypted g c key is =
    c.seal-tag.ensures.text
    ∙ ap (λ k. text_under (key_expansion k) c.seal-tag.result c.args.text.now)
    (ap g.K.MessageKey.own_key c.value.ensures ∙ c.derive_and_prepare.ensures.encryption key is)
