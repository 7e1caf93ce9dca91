use Rattle.std.proofs.Common.{arith}
use Rattle.aes_soft.proofs.Slots.{summed_in_slots}
use Rattle.aes_soft.proofs.soft.plane_words.PlaneWordsFourWords.plain.Goals as goal

pub returns : goal.returns
returns g c = λ x y hx hy.
    summed_in_slots g.W.Word.BLOCKS _ _ _ 0 1 x y _ _ _ c.summed_columns.ensures (omega arith)
    (omega arith)
    c.ror_distance.ensures g.met.W.Word.shape.four g.met.W.Word.shape.one hx hy
