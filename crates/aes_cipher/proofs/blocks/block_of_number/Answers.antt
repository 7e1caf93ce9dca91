use Rattle.std.proofs.Common.{arith}
use Rattle.aes_cipher.proofs.BlockNumbers.{bytes_of_halves, number_back}
use Rattle.aes_cipher.proofs.blocks.block_of_number.Goals as goal

pub returns-clause-back : goal.returns-clause-back
returns-clause-back c = number_back c.args.number _ (omega arith) (bytes_of_halves c.args.number)
