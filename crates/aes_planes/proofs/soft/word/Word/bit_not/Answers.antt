use Rattle.std.proofs.Common.{◌%◌, ap, ◌∙◌, arith}
use Rattle.aes_planes.specs.Bits.{at, xor}
use Rattle.aes_planes.proofs.Bits.BitCases.{xor_true}
use Rattle.aes_planes.proofs.Bits.NumberBits.{bit_ones}
use Rattle.aes_planes.proofs.soft.word.Word.bit_not.Goals as goal

pub returns : goal.returns
returns g c i h =
    let bit = at (g.Self.Word.bits c.args.self) i in
    c.bit_xor.ensures i h
    ∙ ap (xor bit) (c.byte_repeat.ensures i h ∙ bit_ones 8 (i % 8) (omega arith)) ∙ xor_true bit
