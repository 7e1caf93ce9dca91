use Rattle.aes_permute.proofs.ByHalves.{both_written}
use Rattle.aes_permute.proofs.lanes.U8x32Lanes.store.Goals as goal

pub returns : goal.returns
returns c =
    both_written c.args.self _ _ c.args.blocks.now c.args.from c.lower.ensures c.upper.ensures
