use Rattle.std.proofs.Common.{◌∙◌, ap, arith}
use Rattle.std.specs.Int.{w128, to_be_bytes}
use Rattle.cmac.specs.Cmac.{doubled, doubled_block}
use Rattle.cmac.proofs.Doubling.{doubled_by_product}
use Rattle.cmac.proofs.subkeys.double.Goals as goal

pub returns : goal.returns
unfolding doubled_block
returns c =
    c.block_of_number.ensures.block
    ∙ ap (to_be_bytes w128) (doubled_by_product c.number_of_block-number.result (omega arith)
    ∙ ap doubled c.number_of_block-number.ensures.number)
