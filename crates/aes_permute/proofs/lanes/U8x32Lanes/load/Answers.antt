use Rattle.std.proofs.Common.{refl, ap, ◌∙◌}
use Rattle.aes_permute.specs.Vectors.{half}
use Rattle.aes_permute.proofs.ByHalves.{half_of_joined}
use Rattle.aes_permute.proofs.lanes.U8x32Lanes.load.Goals as goal

pub returns : goal.returns
returns c i small =
    ap (λ l. half l i) c.joined.ensures
    ∙ half_of_joined _ _ c.args.blocks.now c.args.from i c.block_has_16_bytes.ensures.0 refl refl small
