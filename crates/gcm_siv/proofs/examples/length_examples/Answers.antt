-- The block of lengths follows from the lengths alone, with no strings at hand.
use Rattle.std.proofs.Common.{◌*◌, ◌++◌}
use Rattle.std.specs.Int.{w64, to_le_bytes}
use Rattle.aes_planes.specs.BigEndian.{bytes}
use Rattle.gcm_siv.specs.GcmSiv.{length_block}
use Rattle.gcm_siv.proofs.examples.length_examples.Goals as goal

pub returns : goal.returns
unfolding bytes length_block
returns c a p a_is p_is = (λ t. to_le_bytes w64 (8 * a_is t) ++ to_le_bytes w64 (8 * p_is t))
