use Rattle.std.proofs.Common.{bit_xor}
use Rattle.aes_permute.proofs.ByHalves.{half_of_zip}
use Rattle.aes_permute.proofs.lanes.U8x32Lanes.sum.Goals as goal

pub returns : goal.returns
returns c i = half_of_zip bit_xor c.args.self c.args.other i
