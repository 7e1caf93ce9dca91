-- A product by the first of the three tables, which is that of H.
use Rattle.std.proofs.Common.{◌∙◌, ap, refl}
use Rattle.std.specs.Int.{w128, from_be_bytes}
use Rattle.gcm.specs.Gcm.{product}
use Rattle.gcm.proofs.Tables.Written.{first_in}
use Rattle.gcm.proofs.multiples.Multiples.block_product.Goals as goal

pub product-requires-clause-table : goal.product-requires-clause-table
product-requires-clause-table c = (first_in c.self.inside.room.now _ c.self.invariant refl).0

pub returns : goal.returns
returns c =
    let block = (first_in c.self.inside.room.now _ c.self.invariant refl).1 in
    c.product.ensures ∙ ap (product (from_be_bytes w128 c.args.x)) (block ∙ c.self.view_is)
