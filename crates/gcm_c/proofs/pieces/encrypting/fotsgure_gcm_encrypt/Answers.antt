-- Under the key that the struct keeps, one more piece was encrypted and hashed.
use Rattle.std.proofs.Common.{◌++◌}
use Rattle.gcm.specs.Pieces.{IsEncrypting, IsInText}
use Rattle.gcm.specs.declared.message_state.Phase.TheVariants.{Encrypting}
use Rattle.gcm_c.proofs.Carried.{carried}
use Rattle.gcm_c.proofs.pieces.encrypting.fotsgure_gcm_encrypt.Goals as goal

pub returns-in-Ok-clause-added : goal.returns-in-Ok-clause-added
returns-in-Ok-clause-added c = λ done iv a t.
    carried (λ w m. IsEncrypting w iv a t m)
    (λ w m. IsInText Encrypting w iv a (t ++ c.encrypt_piece.new.text) m) _ _ _ _
    c.mode_of-mode.ensures (c.in-Ok.ensures.added iv a t)
