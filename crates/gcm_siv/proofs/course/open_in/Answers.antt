-- Under the derived keys a tag is judged, and a text decrypted, as under the key and the nonce.
use Rattle.std.proofs.Common.{◌∙◌, ℕ, ap, sym}
use Rattle.std.specs.Int.{w128, from_le_bytes}
use Rattle.aes_planes.specs.Fips197.{key_expansion}
use Rattle.gcm_siv.specs.GcmSiv.{authentication_key, tag, tag_under, text, text_under}
use Rattle.gcm_siv.proofs.course.open_in.Goals as goal

pub returns-clause-accepted : goal.returns-clause-accepted
unfolding tag text
returns-clause-accepted g c key is =
    let h : ℕ = from_le_bytes w128 (authentication_key key c.args.nonce.now) in
    let right = c.open-is_right.ensures.accepted h (c.derive_and_prepare.ensures.small key is)
    (ap g.R.ProductRoom.subkey c.value-2.ensures
    ∙ c.derive_and_prepare.ensures.authentication key is) in
    let same = ap (λ k. tag_under (key_expansion k) h c.args.nonce.now c.args.additional.now
    (text_under (key_expansion k) c.args.tag.now c.args.text.now))
    (ap g.K.MessageKey.own_key c.value.ensures ∙ c.derive_and_prepare.ensures.encryption key is) in
    (λ e. right.0 e ∙ same, λ right-tag. right.1 (right-tag ∙ sym same))

pub returns-clause-decrypted : goal.returns-clause-decrypted
unfolding text
returns-clause-decrypted g c key is = λ yes.
    c.open-is_right.ensures.decrypted yes
    ∙ ap (λ k. text_under (key_expansion k) c.args.tag.now c.args.text.now)
    (ap g.K.MessageKey.own_key c.value.ensures ∙ c.derive_and_prepare.ensures.encryption key is)
