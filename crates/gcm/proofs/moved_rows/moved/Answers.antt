-- A byte of a moved row: four bits of its own byte and four of the byte before it.
use Rattle.std.proofs.Common.{rules}
use Rattle.gcm.proofs.Tables.MovedRows.{lane_of_half}
use Rattle.gcm.proofs.moved_rows.moved.Goals as goal

pub returns : goal.returns
returns c i n small =
    lane_of_half c.args.rows c.args.before i n (search rules) (search rules) small
