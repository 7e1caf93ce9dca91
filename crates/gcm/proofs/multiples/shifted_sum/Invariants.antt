-- Each half has the sum of its last k rows, each shifted by its place.
use Rattle.gcm.proofs.Tables.RowSums.{SummedInHalves}
use Rattle.gcm.proofs.multiples.shifted_sum.Given as goal

abbrev pub invariant-loop-k : goal.invariant-loop-k
invariant-loop-k g l = SummedInHalves (g.P.ProductRows.numbers l.rows) l.k l.first l.second
