-- The block in a register is block 0 of a vector.
use Rattle.aes_permute.proofs.blocks.process_block.Goals as goal

pub returns : goal.returns
returns g c = c.process_vector-processed.ensures 0
