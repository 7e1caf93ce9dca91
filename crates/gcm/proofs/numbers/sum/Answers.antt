-- The sum of two vectors is that of the numbers that they write.
use Rattle.std.proofs.Common.{rules}
use Rattle.gcm.proofs.Tables.Rows.{number_summed}
use Rattle.gcm.proofs.numbers.sum.Goals as goal

pub returns : goal.returns
returns c = number_summed c.args.x c.args.y (search rules) (search rules)
