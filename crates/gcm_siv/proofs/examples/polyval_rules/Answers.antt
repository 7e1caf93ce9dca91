-- A block more is hashed by one step of the definition.
use Rattle.std.proofs.Common.{refl}
use Rattle.gcm_siv.specs.GcmSiv.{polyval_after}
use Rattle.gcm_siv.proofs.examples.polyval_rules.Goals as goal

pub returns-clause-next : goal.returns-clause-next
unfolding polyval_after
returns-clause-next c h s x j = refl
