-- A block moved on by eight bytes behind the end of another, as a number.
use Rattle.std.proofs.Common.{rules}
use Rattle.gcm.proofs.Tables.RowPairs.{eight_lasts}
use Rattle.gcm.proofs.row_pairs.after_last_eight.Goals as goal

pub returns : goal.returns
returns c = eight_lasts c.args.x c.args.y (search rules) (search rules)
