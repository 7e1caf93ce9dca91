use Rattle.std.proofs.Common.{◌/◌, ◌%◌, ap, ◌∙◌, cond, arith}
use Rattle.aes_planes.specs.Bits.{bit}
use Rattle.aes_planes.proofs.Words.Spread.{bit_of_lane, byte_of_lane, lanes_spread}
use Rattle.aes_planes.proofs.soft.word.vector128.lane_for_each_bit.Goals as goal

pub returns : goal.returns
returns c = lanes_spread c.args.x c.lanes_with.result (omega arith) (λ j h.
    c.lanes_with.ensures j (j % 8) h (omega arith) (bit_of_lane j h)
    ∙ ap (λ b. cond (bit b (j % 8)) 255 0) (byte_of_lane (c.args.x % 256) (c.args.x / 256) j h))
