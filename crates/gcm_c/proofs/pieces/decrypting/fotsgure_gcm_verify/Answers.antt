-- Under the key that the struct keeps, one more piece was hashed.
use Rattle.std.proofs.Common.{◌++◌}
use Rattle.gcm.specs.Pieces.{IsVerifying, IsInText}
use Rattle.gcm.specs.declared.message_state.Phase.TheVariants.{Verifying}
use Rattle.gcm_c.proofs.Carried.{carried}
use Rattle.gcm_c.proofs.pieces.decrypting.fotsgure_gcm_verify.Goals as goal

pub returns-in-Ok-clause-added : goal.returns-in-Ok-clause-added
returns-in-Ok-clause-added c = λ done iv a t.
    carried (λ w m. IsVerifying w iv a t m)
    (λ w m. IsInText Verifying w iv a (t ++ c.args.text.now) m) _ _ _ _
    c.mode_of-mode.ensures (c.in-Ok.ensures.added iv a t)
