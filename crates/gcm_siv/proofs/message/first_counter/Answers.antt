-- The tag with the highest bit of its last byte set.
use Rattle.std.proofs.Common.{rules, ◌+◌, ◌%◌, slice_index}
use Rattle.gcm_siv.specs.GcmSiv.{first_counter}
use Rattle.gcm_siv.proofs.Messages.{last_set}
use Rattle.gcm_siv.proofs.message.first_counter.Goals as goal

pub returns : goal.returns
unfolding first_counter
returns c = last_set c.args.tag.now (128 + slice_index c.args.tag.now 15 % 128) (search rules)
