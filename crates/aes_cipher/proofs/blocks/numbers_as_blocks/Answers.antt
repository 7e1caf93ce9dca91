use Rattle.aes_cipher.proofs.BlockNumbers.{block_back, number_block}
use Rattle.aes_cipher.proofs.blocks.numbers_as_blocks.Goals as goal

pub returns-clause-block : goal.returns-clause-block
returns-clause-block c = number_block

pub returns-clause-back : goal.returns-clause-back
returns-clause-back c = block_back
