-- Each half moved on by a byte, behind the last byte of another vector's half.
use Rattle.std.proofs.Common.{rules}
use Rattle.gcm.proofs.Tables.RowPairs.{lasts_lower, lasts_upper}
use Rattle.gcm.proofs.row_pairs.after_lasts.Goals as goal

pub returns-clause-lower : goal.returns-clause-lower
returns-clause-lower c = lasts_lower c.args.x c.args.y (search rules) (search rules)

pub returns-clause-upper : goal.returns-clause-upper
returns-clause-upper c = lasts_upper c.args.x c.args.y (search rules) (search rules)
