-- Under the key that the struct keeps, one more piece of additional data was hashed.
use Rattle.std.proofs.Common.{◌++◌}
use Rattle.gcm.specs.Pieces.{IsBegun}
use Rattle.gcm_c.proofs.Carried.{carried}
use Rattle.gcm_c.proofs.pieces.fotsgure_gcm_additional.Goals as goal

pub returns-in-Ok-clause-added : goal.returns-in-Ok-clause-added
returns-in-Ok-clause-added c = λ done iv a.
    carried (λ w m. IsBegun w iv a m) (λ w m. IsBegun w iv (a ++ c.args.additional.now) m) _ _ _ _
    c.mode_of-mode.ensures (c.in-Ok.ensures.added iv a)
