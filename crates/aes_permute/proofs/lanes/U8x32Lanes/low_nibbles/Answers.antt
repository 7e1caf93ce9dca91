use Rattle.std.proofs.Common.{rules}
use Rattle.aes_permute.proofs.ByHalves.{low_of_half}
use Rattle.aes_permute.proofs.lanes.U8x32Lanes.low_nibbles.Goals as goal

pub returns : goal.returns
returns c i = low_of_half c.args.self i (search rules) (search rules)
