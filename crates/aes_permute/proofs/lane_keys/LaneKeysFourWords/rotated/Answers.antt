use Rattle.std.proofs.Common.{◌≡◌, length}
use Rattle.aes_permute.proofs.ExpandedLanes.{rotated_is}
use Rattle.aes_permute.proofs.lane_keys.LaneKeysFourWords.rotated.Goals as goal

pub returns-clause-words : goal.returns-clause-words
returns-clause-words c = λ x y hx hy.
    rotated_is c.args.before c.args.last _ _ _ c.args.constant hx hy (let l : length c.args.before ≡ 16 = search in l)
    (let m : length c.args.last ≡ 16 = search in m) c.with_constant.ensures
    c.sub_bytes_but_constant-start.ensures c.summed_columns.ensures
