-- A message has begun, and all of its text came in one piece.
use Rattle.std.proofs.Common.{[], inl, inr, refl, arith}
use Rattle.aes_ctr.specs.CounterMode.{plus_stream}
use Rattle.aes_planes.specs.Fips197.State.{build}
use Rattle.gcm.specs.Gcm.{text}
use Rattle.gcm_c.proofs.examples.decrypt_and_write_the_right_tag.Goals as goal

pub returns-clause-decrypted : goal.returns-clause-decrypted
unfolding text plus_stream build
returns-clause-decrypted c = λ done.
    let begun = c.fotsgure_gcm_begin.ensures.begun
    (c.fotsgure_gcm_begin.ensures.done.1 (omega (arith, c.told-nonce), c.requires.key)) in
    c.fotsgure_gcm_decrypt_unverified-decrypted.ensures.decrypted c.if-decrypted-ne-DONE.false
    c.args.nonce.now [] [] (inl (begun, refl))

pub returns-clause-tag : goal.returns-clause-tag
returns-clause-tag c = λ done.
    let begun = c.fotsgure_gcm_begin.ensures.begun
    (c.fotsgure_gcm_begin.ensures.done.1 (omega (arith, c.told-nonce), c.requires.key)) in
    c.fotsgure_gcm_finish_unverified.ensures.tag done c.args.nonce.now [] c.args.text.now
    (inr (c.fotsgure_gcm_decrypt_unverified-decrypted.ensures.added c.if-decrypted-ne-DONE.false
    c.args.nonce.now [] [] (inl (begun, refl))))
