-- Both derived keys, by the halves of six encrypted blocks.
use Rattle.std.proofs.Common.{◌++◌, take}
use Rattle.gcm_siv.proofs.OnLiterals.{siv_on_literals}
use Rattle.gcm_siv.proofs.examples.keys_256_example.Goals as goal

pub returns-clause-authentication : goal.returns-clause-authentication
unfolding siv_on_literals
returns-clause-authentication c =
    let known = c.encrypted_numbers.ensures in
    (λ t. take 8 (known.zero t) ++ take 8 (known.one t))

pub returns-clause-encryption : goal.returns-clause-encryption
unfolding siv_on_literals
returns-clause-encryption c =
    let known = c.encrypted_numbers.ensures in
    (λ t. take 8 (known.two t) ++ take 8 (known.three t)
    ++ (take 8 (known.four t) ++ take 8 (known.five t)))
