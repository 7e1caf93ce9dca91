use Rattle.std.proofs.Common.{◌≡◌, ◌+◌, set, arith}
use Rattle.aes_permute.specs.Vectors.{written}
use Rattle.aes_permute.proofs.lanes.U8x16Lanes.store.Goals as goal

pub returns : goal.returns
unfolding written
returns c =
    let start : c.args.from ≡ c.args.from + 0 = omega arith in
    λ t. set c.args.blocks.now (start t) c.args.self
