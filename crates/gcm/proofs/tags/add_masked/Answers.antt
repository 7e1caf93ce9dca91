-- The sum of the mask and a value's bytes is GCTR of that one block.
use Rattle.std.proofs.Common.{◌∙◌, ap, arith}
use Rattle.gcm.specs.Gcm.{gctr}
use Rattle.gcm.proofs.Messages.Counting.{one_block}
use Rattle.gcm.proofs.tags.add_masked.Goals as goal

pub returns : goal.returns
returns c w first masked =
    c.sum_of_blocks.ensures
    ∙ one_block w first c.block_of_number.result c.args.sum.now masked (omega arith) (omega arith)
    ∙ ap (gctr w first) c.block_of_number.ensures.block
