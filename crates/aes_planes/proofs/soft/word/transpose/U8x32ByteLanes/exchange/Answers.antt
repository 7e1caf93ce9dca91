use Rattle.std.proofs.Common.{rules}
use Rattle.aes_planes.proofs.Words.Wide.{wide}
use Rattle.aes_planes.proofs.Words.Transpose.{lanes_high, lanes_low}
use Rattle.aes_planes.proofs.soft.word.transpose.U8x32ByteLanes.exchange.Goals as goal

pub returns-clause-low : goal.returns-clause-low
returns-clause-low c =
    lanes_low wide c.args.shift c.args.mask c.args.low c.args.high (search rules) (search rules)
    c.requires.inside

pub returns-clause-high : goal.returns-clause-high
returns-clause-high c =
    lanes_high wide c.args.shift c.args.mask c.args.low c.args.high (search rules) (search rules)
    c.requires.inside
