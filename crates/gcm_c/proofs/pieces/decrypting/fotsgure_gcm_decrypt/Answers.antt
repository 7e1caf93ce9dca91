-- Under the key that the struct keeps, one more piece was decrypted.
use Rattle.std.proofs.Common.{◌++◌}
use Rattle.gcm.specs.Pieces.{IsDecrypting}
use Rattle.gcm_c.proofs.Carried.{carried}
use Rattle.gcm_c.proofs.pieces.decrypting.fotsgure_gcm_decrypt.Goals as goal

pub returns-in-Ok-clause-added : goal.returns-in-Ok-clause-added
returns-in-Ok-clause-added c = λ done n iv t.
    carried (λ w m. IsDecrypting w iv n t m)
    (λ w m. IsDecrypting w iv n (t ++ c.args.text.now) m) _ _ _ _
    c.mode_of-mode.ensures (c.in-Ok.ensures.added n iv t)
