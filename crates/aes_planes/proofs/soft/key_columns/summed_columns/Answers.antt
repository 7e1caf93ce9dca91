use Rattle.std.proofs.Common.{arith, rules}
use Rattle.aes_planes.proofs.KeySchedule.SummedColumns.{columns_of_eight}
use Rattle.aes_planes.proofs.soft.key_columns.summed_columns.Goals as goal

pub returns : goal.returns
returns g c = λ rows cols hr hc e.
    columns_of_eight g.met.W.Word.shape c.planes.sums c.args.before.now c.args.start.now
    (search rules) c.told-before c.told-start c.args.rotation rows cols hr hc e
    (λ m d r q k h. c.planes.invariant.done m d r q k (omega arith))
