use Rattle.aes_planes.proofs.Words.Constants.{rows_packed}
use Rattle.aes_planes.proofs.soft.word.word32.U32Word.pack_rows.Goals as goal

pub returns : goal.returns
returns c = rows_packed {n = 2}
    (record { small = c.row_of_nibble-x0.ensures.small; bits = c.row_of_nibble-x0.ensures.bits })
    (record { small = c.row_of_nibble-x1.ensures.small; bits = c.row_of_nibble-x1.ensures.bits })
    (record { small = c.row_of_nibble-x2.ensures.small; bits = c.row_of_nibble-x2.ensures.bits })
    (record { small = c.row_of_nibble-x3.ensures.small; bits = c.row_of_nibble-x3.ensures.bits })
