-- Both derived keys are those of the nonce under the key of the cipher.
use Rattle.std.proofs.Common.{◌∙◌, ◌+◌, ◌/◌, ◌^◌, ◌<◌, ap, subst, take}
use Rattle.std.specs.Int.{w128, from_le_bytes}
use Rattle.gcm.specs.Gcm.{next_v}
use Rattle.gcm_siv.proofs.DerivedKeys.{authentication_is, encryption_is}
use Rattle.gcm_siv.proofs.keys.derive_and_prepare.Goals as goal

pub returns-clause-authentication : goal.returns-clause-authentication
returns-clause-authentication g c key is =
    let n = c.args.size / 16 in
    c.put_authentication.ensures.authentication
    ∙ ap (λ k. next_v (from_le_bytes w128 k))
    (authentication_is key c.args.nonce.now _ c.value.result.now n is.1
    (ap (take (n + 1)) c.value.ensures ∙ c.derive.ensures))

pub returns-clause-small : goal.returns-clause-small
returns-clause-small g c key is =
    let n = c.args.size / 16 in
    subst (λ k. from_le_bytes w128 k < 2 ^ 128)
    (authentication_is key c.args.nonce.now _ c.value.result.now n is.1
    (ap (take (n + 1)) c.value.ensures ∙ c.derive.ensures))
    c.put_authentication.ensures.small

pub returns-clause-encryption : goal.returns-clause-encryption
returns-clause-encryption g c key is =
    encryption_is key c.args.nonce.now _ _ c.value-2.result.now c.args.size c.requires.size is.0 is.1
    (ap (take (c.args.size / 16 + 1)) c.value-2.ensures ∙ c.derive.ensures)
    c.set_encryption_key.ensures.short c.set_encryption_key.ensures.long
