use Rattle.std.proofs.Common.{map}
use Rattle.aes_planes.proofs.KeySchedule.RoundConstantBit.{constant_added}
use Rattle.aes_planes.proofs.soft.key_columns.add_round_constant.Goals as goal

pub returns : goal.returns
returns g c =
    let bits = g.W.Word.bits in
    constant_added g.W.Word.BLOCKS g.W.Word.BITS c.args.constant (map bits c.sum_planes.result)
    (map bits c.args.state.now)
    (map bits c.constant_planes.result) g.met.W.Word.shape.sixteen c.sum_planes.ensures
    c.constant_planes.ensures
