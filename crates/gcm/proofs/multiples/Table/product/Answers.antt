-- A product by the block that contracts see in the table.
use Rattle.std.proofs.Common.{◌∙◌, ap}
use Rattle.std.specs.Int.{w128, from_be_bytes}
use Rattle.gcm.specs.Gcm.{product}
use Rattle.gcm.proofs.multiples.Table.product.Goals as goal

pub returns : goal.returns
returns c = c.product.ensures ∙ ap (product (from_be_bytes w128 c.args.x)) c.self.view_is
