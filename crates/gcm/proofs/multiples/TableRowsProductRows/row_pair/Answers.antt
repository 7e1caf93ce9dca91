-- Rows r and 8 + r of a product, looked up by the nibbles of its other factor.
use Rattle.std.proofs.Common.{List, ℕ, sym}
use Rattle.gcm.proofs.Tables.RowPairs.{rows_in_halves}
use Rattle.gcm.proofs.Tables.RowSums.{rows_found}
use Rattle.gcm.proofs.multiples.TableRowsProductRows.row_pair.Goals as goal

pub returns : goal.returns
returns c =
    let x : List ℕ = c.args.self.now.1 in
    rw (sym c.table.view_is) (rows_found x _ c.table.inside.rows.now c.args.r c.table.invariant.0
    c.requires c.block_has_16_bytes.ensures
    (rows_in_halves _ _ _ _ x _ _ _ _ c.block_has_16_bytes.ensures.0 c.low_nibbles_twice.ensures.nibbles
    c.high_nibbles_twice.ensures.nibbles c.lookup_in_halves-low.ensures
    c.lookup_in_halves-high.ensures))
