use Rattle.std.proofs.Common.{ap, map, ◌∙◌}
use Rattle.aes_permute.specs.Stored.{untower}
use Rattle.aes_permute.proofs.RoundLanes.{untowered}
use Rattle.aes_permute.proofs.rounds.into_tower.Goals as goal

pub returns : goal.returns
returns c =
    ap (map untower) (c.looked_up_by_nibbles.ensures 0) ∙ untowered c.args.block (c.blocks_have_16_bytes.ensures 0).1
