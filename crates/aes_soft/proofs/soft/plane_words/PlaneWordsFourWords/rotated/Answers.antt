use Rattle.std.proofs.Common.{arith}
use Rattle.aes_planes.specs.Fips197.{sub_bytes, add_round_key}
use Rattle.aes_planes.specs.Planes.{constant_block}
use Rattle.aes_soft.proofs.Slots.{stepped, summed_in_slots}
use Rattle.aes_soft.proofs.soft.plane_words.PlaneWordsFourWords.rotated.Goals as goal

pub returns-clause-words : goal.returns-clause-words
returns-clause-words g c = λ x y hx hy.
    let n = g.W.Word.BLOCKS in
    let start = stepped n (λ s. add_round_key s (constant_block c.args.constant))
    _ _ _ c.add_round_constant.ensures
    (stepped n sub_bytes _ _ y c.substitute.ensures.blocks hy) in
    summed_in_slots n _ _ _ 1 3 x _ _ _ _ c.summed_columns.ensures (omega arith)
    (omega arith) c.ror_distance.ensures
    g.met.W.Word.shape.four g.met.W.Word.shape.one hx start
