-- The length in bits follows from the length in bytes alone, with no string at hand.
use Rattle.std.proofs.Common.{◌*◌, ap}
use Rattle.std.specs.Int.{w64, to_be_bytes}
use Rattle.gcm.proofs.Literals.OnLiterals.{gcm_on_literals}
use Rattle.gcm.proofs.examples.length_examples.Goals as goal

pub returns : goal.returns
unfolding gcm_on_literals
returns c x is = ap (λ n. to_be_bytes w64 (8 * n)) is
