use Rattle.std.proofs.Common.{◌≡◌, length}
use Rattle.aes_permute.proofs.ExpandedLanes.{plain_is}
use Rattle.aes_permute.proofs.lane_keys.LaneKeysFourWords.plain.Goals as goal

pub returns : goal.returns
returns c = λ x y hx hy.
    plain_is c.args.before c.args.last _ hx hy (let l : length c.args.last ≡ 16 = search in l) c.summed_columns.ensures
