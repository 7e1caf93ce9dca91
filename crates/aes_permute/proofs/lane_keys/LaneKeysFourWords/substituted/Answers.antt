use Rattle.std.proofs.Common.{◌≡◌, length}
use Rattle.aes_permute.proofs.ExpandedLanes.{substituted_is}
use Rattle.aes_permute.proofs.lane_keys.LaneKeysFourWords.substituted.Goals as goal

pub returns-clause-words : goal.returns-clause-words
returns-clause-words c = λ x y hx hy.
    substituted_is c.args.before c.args.last _ _ hx hy (let l : length c.args.last ≡ 16 = search in l)
    c.sub_bytes_but_constant.ensures c.summed_columns.ensures
