-- The sum of two rows is the row of the sum.
use Rattle.gcm.proofs.Tables.RowSums.{rows_summed}
use Rattle.gcm.proofs.multiples.SummedRowsProductRows.row_pair.Goals as goal

pub returns : goal.returns
returns g c = rows_summed _ _ c.args.r c.row_pair.result c.row_pair-2.result c.row_pair.ensures c.row_pair-2.ensures
