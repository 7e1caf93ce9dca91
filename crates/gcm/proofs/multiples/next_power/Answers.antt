-- A power times the block of the table is the next power.
use Rattle.std.proofs.Common.{◌∙◌, ap}
use Rattle.gcm.specs.Gcm.{product}
use Rattle.gcm.specs.Multiples.{subkey_in}
use Rattle.gcm.proofs.multiples.next_power.Goals as goal

pub returns : goal.returns
returns c =
    c.number_of.ensures ∙ c.product.ensures
    ∙ ap (λ x. product x (subkey_in c.args.rows.now)) c.vector_of.ensures.back
