use Rattle.std.proofs.Common.{sym, ◌∙◌, arith}
use Rattle.aes_planes.proofs.Shifts.ColumnSwaps.{two_apart_2, two_apart_2_swap, shifted_2}
use Rattle.aes_planes.proofs.soft.shifts.shift_rows_2.Goals as goal

pub returns : goal.returns
returns g c =
    c.swap_columns.ensures 2 two_apart_2 (omega arith)
    (omega (arith, c.HALF_ROW.ensures, g.met.W.Word.shape.two)) two_apart_2_swap
    c.pack_rows-by_two.ensures ∙ sym (shifted_2 _)
