-- All sixteen rows, shifted and summed, are the product with the block of the table.
use Rattle.std.proofs.Common.{◌∙◌, ap}
use Rattle.std.specs.Int.{w128, from_be_bytes}
use Rattle.gcm.specs.Multiples.{subkey_in, row_number, rows_after}
use Rattle.gcm.proofs.Products.Reduction.{all_rows}
use Rattle.gcm.proofs.Tables.Written.{table_below}
use Rattle.gcm.proofs.multiples.product.Goals as goal

pub returns : goal.returns
returns c =
    c.shifted_sum.ensures
    ∙ ap (λ h. rows_after (row_number h (from_be_bytes w128 c.args.x)) 16) c.new.ensures
    ∙ all_rows (subkey_in c.args.rows.now) (from_be_bytes w128 c.args.x)
    (table_below c.args.rows.now c.requires.table)
