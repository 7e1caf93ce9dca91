-- Each half moved on by a byte, behind a byte 0.
use Rattle.std.proofs.Common.{rules}
use Rattle.gcm.proofs.Tables.RowPairs.{zeros_lower, zeros_upper}
use Rattle.gcm.proofs.row_pairs.after_zeros.Goals as goal

pub returns-clause-lower : goal.returns-clause-lower
returns-clause-lower c = zeros_lower c.args.x (search rules)

pub returns-clause-upper : goal.returns-clause-upper
returns-clause-upper c = zeros_upper c.args.x (search rules)
