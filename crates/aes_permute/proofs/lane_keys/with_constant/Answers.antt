use Rattle.aes_permute.proofs.ExpandedLanes.{constant_is}
use Rattle.aes_permute.proofs.lane_keys.with_constant.Goals as goal

pub returns : goal.returns
returns c = constant_is c.args.words c.args.constant c.tower_byte-byte.result c.tower_byte-byte.ensures
