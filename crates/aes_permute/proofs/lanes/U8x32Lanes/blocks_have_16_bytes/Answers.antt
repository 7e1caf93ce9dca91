use Rattle.std.proofs.Common.{rules}
use Rattle.aes_permute.proofs.ByHalves.{half_is_block}
use Rattle.aes_permute.proofs.lanes.U8x32Lanes.blocks_have_16_bytes.Goals as goal

pub returns : goal.returns
returns c i = half_is_block c.args.self i (search rules) (search rules)
