use Rattle.std.proofs.Common.{arith}
use Rattle.aes_planes.specs.Fips197.{sub_bytes}
use Rattle.aes_soft.proofs.Slots.{stepped, summed_in_slots}
use Rattle.aes_soft.proofs.soft.plane_words.PlaneWordsFourWords.substituted.Goals as goal

pub returns-clause-words : goal.returns-clause-words
returns-clause-words g c = λ x y hx hy.
    summed_in_slots g.W.Word.BLOCKS _ _ _ 0 3 x _ _ _ _ c.summed_columns.ensures (omega arith)
    (omega arith)
    c.ror_distance.ensures g.met.W.Word.shape.four g.met.W.Word.shape.one hx
    (stepped g.W.Word.BLOCKS sub_bytes _ _ y c.substitute.ensures.blocks hy)
