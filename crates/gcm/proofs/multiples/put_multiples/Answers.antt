-- H^2 and H^3 come from the table of H, and each has a table behind it.
use Rattle.std.proofs.Common.{arith}
use Rattle.gcm.proofs.Tables.Written.{table_read, multiples_written, multiples_read, room_block}
use Rattle.gcm.proofs.multiples.put_multiples.Goals as goal

pub next_power-h2-requires-clause-table : goal.next_power-h2-requires-clause-table
next_power-h2-requires-clause-table c = table_read c.args.h _ c.put_table.ensures (omega arith)

pub next_power-h3-requires-clause-table : goal.next_power-h3-requires-clause-table
next_power-h3-requires-clause-table c = table_read c.args.h _ c.put_table.ensures (omega arith)

pub returns-clause-multiples : goal.returns-clause-multiples
returns-clause-multiples c =
    multiples_read _ c.args.h
    (multiples_written c.args.h _ _ _ _ _ (omega arith) c.put_table.ensures c.put_table-2.ensures
    c.put_table-3.ensures c.next_power-h2.ensures c.next_power-h3.ensures) (omega arith)

pub returns-clause-subkey : goal.returns-clause-subkey
returns-clause-subkey c =
    room_block _ c.args.h
    (multiples_written c.args.h _ _ _ _ _ (omega arith) c.put_table.ensures c.put_table-2.ensures
    c.put_table-3.ensures c.next_power-h2.ensures c.next_power-h3.ensures) (omega arith)
