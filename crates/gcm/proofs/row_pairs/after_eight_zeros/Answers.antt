-- A block moved on by eight bytes, as a number.
use Rattle.std.proofs.Common.{rules}
use Rattle.gcm.proofs.Tables.RowPairs.{eight_zeros}
use Rattle.gcm.proofs.row_pairs.after_eight_zeros.Goals as goal

pub returns : goal.returns
returns c = eight_zeros c.args.x (search rules)
