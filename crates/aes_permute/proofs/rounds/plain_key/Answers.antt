use Rattle.std.proofs.Common.{replicate, bit_xor, ◌∙◌}
use lib.Lanes.{zip2}
use Rattle.aes_permute.proofs.ExpandedLanes.{plain_key_is}
use Rattle.aes_permute.proofs.rounds.plain_key.Goals as goal

pub returns : goal.returns
returns c =
    (λ t. zip2 bit_xor (c.out_of_tower.ensures t) (replicate 16 0x63))
    ∙ plain_key_is c.args.stored c.requires.0
