use Rattle.std.proofs.Common.{rules}
use Rattle.aes_permute.proofs.ByHalves.{high_of_half}
use Rattle.aes_permute.proofs.lanes.U8x32Lanes.high_nibbles.Goals as goal

pub returns : goal.returns
returns c i = high_of_half c.args.self i (search rules) (search rules)
