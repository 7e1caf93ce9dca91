use Rattle.aes_permute.specs.Stored.{untower}
use Rattle.aes_permute.proofs.rounds.out_of_tower.Goals as goal

pub returns : goal.returns
unfolding untower
returns c = c.looked_up_by_nibbles.ensures 0
