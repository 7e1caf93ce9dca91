-- A block more is hashed by one step of the definition.
use Rattle.std.proofs.Common.{refl}
use Rattle.gcm.specs.Gcm.{hashed}
use Rattle.gcm.proofs.examples.block_rules.Goals as goal

pub returns-clause-next : goal.returns-clause-next
unfolding hashed
returns-clause-next c h y x i = refl
