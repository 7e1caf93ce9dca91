-- Three blocks at a time, the rest and the closing block are the whole string and that block.
use Rattle.std.specs.Int.{w128, from_be_bytes}
use Rattle.gcm.proofs.hash.hash_string_and_end.Goals as goal

pub returns : goal.returns
returns g c =
    c.hash_last_group_and_end.ensures (from_be_bytes w128 c.args.value) c.hash_threes-value.ensures
