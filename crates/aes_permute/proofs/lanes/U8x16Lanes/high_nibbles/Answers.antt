use Rattle.std.proofs.Common.{rules}
use Rattle.aes_permute.proofs.Lookups.{high_nibbles_are}
use Rattle.aes_permute.proofs.lanes.U8x16Lanes.high_nibbles.Goals as goal

pub returns : goal.returns
returns c i = high_nibbles_are c.args.self (search rules)
