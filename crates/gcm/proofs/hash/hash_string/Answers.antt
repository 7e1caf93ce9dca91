-- Three blocks at a time, and then the rest, are the whole string.
use Rattle.std.specs.Int.{w128, from_be_bytes}
use Rattle.gcm.proofs.hash.hash_string.Goals as goal

pub returns : goal.returns
returns g c = c.hash_last_group.ensures (from_be_bytes w128 c.args.value) c.hash_threes-value.ensures
