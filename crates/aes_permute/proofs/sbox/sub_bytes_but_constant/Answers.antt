use Rattle.std.proofs.Common.{ap, map, ◌∙◌}
use Rattle.aes_permute.specs.Stored.{untower}
use Rattle.aes_permute.specs.declared.tables.TheConstants.{ONE_FIRST, ONE_SECOND}
use Rattle.aes_permute.proofs.RoundLanes.{through_lanes, sub_bytes_is}
use Rattle.aes_permute.proofs.sbox.sub_bytes_but_constant.Goals as goal

pub returns : goal.returns
returns c =
    ap (map untower) (through_lanes ONE_FIRST ONE_SECOND c.args.x (c.indices_of.ensures.first 0)
    (c.indices_of.ensures.second 0)
    (c.looked_up.ensures 0))
    ∙ sub_bytes_is c.args.x c.requires.block.1
