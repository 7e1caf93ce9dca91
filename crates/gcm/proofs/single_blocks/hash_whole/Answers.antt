-- No block yet, and one block more.
use Rattle.std.proofs.Common.{refl}
use Rattle.gcm.specs.Hashed.{hashed_as}
use Rattle.gcm.proofs.single_blocks.hash_whole.Goals as goal

pub loop-i-init : goal.loop-i-init
unfolding hashed_as
loop-i-init g c = refl
