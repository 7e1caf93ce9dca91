use Rattle.std.proofs.Common.{rules, ap, ◌∙◌}
use Rattle.aes_permute.specs.Vectors.{half}
use Rattle.aes_permute.proofs.ByHalves.{half_of_both}
use Rattle.aes_permute.proofs.lanes.U8x32Lanes.repeated.Goals as goal

pub returns : goal.returns
returns c i = ap (λ l. half l i) c.twice.ensures ∙ half_of_both c.args.bytes i (search rules)
