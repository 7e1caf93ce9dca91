-- One row more in each half, and at the end both halves as one number.
use Rattle.std.proofs.Common.{◌∙◌, arith}
use Rattle.gcm.proofs.Tables.RowSums.{halves_none, halves_next, both_halves}
use Rattle.gcm.proofs.multiples.shifted_sum.Goals as goal

pub loop-k-init : goal.loop-k-init
loop-k-init g c = halves_none (g.P.ProductRows.numbers c.args.rows.now)

pub loop-k-preserved : goal.loop-k-preserved
loop-k-preserved g c =
    let moved = c.after_zeros.ensures in
    let last = c.after_lasts-second.ensures in
    halves_next (g.P.ProductRows.numbers c.args.rows.now) c.loop-k.k c.loop-k.first c.loop-k.second
    c.row_pair-added.result c.after_zeros.result _
    (omega arith) c.loop-k.invariant c.row_pair-added.ensures
    moved.lower moved.upper last.lower last.upper

pub returns : goal.returns
returns g c =
    c.reduced_halves.ensures
    ∙ both_halves (g.P.ProductRows.numbers c.args.rows.now)
    c.loop-k.k c.loop-k.first c.loop-k.second c.loop-k.invariant (omega arith)
