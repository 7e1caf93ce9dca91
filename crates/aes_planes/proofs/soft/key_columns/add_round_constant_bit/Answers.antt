use Rattle.aes_planes.proofs.KeySchedule.RoundConstantBit.{constant_bit_held}
use Rattle.aes_planes.proofs.soft.key_columns.add_round_constant_bit.Goals as goal

pub returns : goal.returns
returns g c =
    constant_bit_held g.met.W.Word.shape c.args.bit c.args.state.now c.bit_xor-flipped.result
    c.index-state-bit.result
    (g.W.Word.bits c.pack_rows-mask.result) c.requires.below_8 c.told-state
    c.bit_xor-flipped.ensures
    c.pack_rows-mask.ensures
