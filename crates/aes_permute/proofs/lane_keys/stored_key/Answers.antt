use Rattle.std.proofs.Common.{ap, map, ◌∙◌}
use Rattle.aes_planes.specs.Planes.{plus63}
use Rattle.aes_permute.proofs.ExpandedLanes.{last_key_is}
use Rattle.aes_permute.proofs.lane_keys.stored_key.Goals as goal

pub returns-then-i-last-clause-at_last : goal.returns-then-i-last-clause-at_last
returns-then-i-last-clause-at_last c = λ e.
    ap (map plus63) c.plain_key.ensures ∙ last_key_is c.args.words
