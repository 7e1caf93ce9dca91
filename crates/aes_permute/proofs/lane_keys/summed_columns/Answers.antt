use Rattle.std.proofs.Common.{bit_xor, ◌∙◌}
use lib.Lanes.{zip2}
use Rattle.aes_permute.proofs.ExpandedLanes.{tower_summed_is}
use Rattle.aes_permute.proofs.lane_keys.summed_columns.Goals as goal

pub returns : goal.returns
returns c =
    tower_summed_is c.args.before c.args.start c.args.addend c.requires.before c.requires.start
    c.requires.addend
    (c.sum-pairs.ensures 0 ∙ (λ i. zip2 bit_xor c.args.before (c.permuted.ensures 0 i)))
    (c.sum-sums.ensures 0 ∙ (λ i. zip2 bit_xor c.sum-pairs.result (c.permuted-2.ensures 0 i)))
