-- What was written is a table, and its block is H.
use Rattle.std.proofs.Common.{arith}
use Rattle.gcm.proofs.Tables.Written.{table_read, table_block}
use Rattle.gcm.proofs.multiples.put_one_table.Goals as goal

pub returns-clause-table : goal.returns-clause-table
returns-clause-table c = table_read c.args.h _ c.put_table.ensures (omega arith)

pub returns-clause-subkey : goal.returns-clause-subkey
returns-clause-subkey c = table_block c.args.h _ c.put_table.ensures (omega arith)
