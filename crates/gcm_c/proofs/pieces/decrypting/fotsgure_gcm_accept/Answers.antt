-- Under the key that the struct keeps, an accepted message may be decrypted.
use Rattle.std.proofs.Common.{[], length}
use Rattle.gcm.specs.Pieces.{IsVerifying, IsDecrypting}
use Rattle.gcm_c.proofs.Carried.{carried}
use Rattle.gcm_c.proofs.pieces.decrypting.fotsgure_gcm_accept.Goals as goal

pub returns-in-Ok-clause-decrypting : goal.returns-in-Ok-clause-decrypting
returns-in-Ok-clause-decrypting c = λ done iv a t.
    carried (λ w m. IsVerifying w iv a t m) (λ w m. IsDecrypting w iv (length t) [] m) _ _ _ _
    c.mode_of-mode.ensures (c.in-Ok.ensures.decrypting iv a t)
