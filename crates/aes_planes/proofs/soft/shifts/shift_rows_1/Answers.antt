use Rattle.std.proofs.Common.{map, ap, sym, ◌∙◌, arith}
use Rattle.aes_planes.specs.Private.Swaps.{columns_swapped}
use Rattle.aes_planes.proofs.Shifts.ColumnSwaps.{two_apart_1, two_apart_1_swap, pairs, pairs_swap}
use Rattle.aes_planes.proofs.Shifts.ColumnSwaps.{shifted_1}
use Rattle.aes_planes.proofs.soft.shifts.shift_rows_1.Goals as goal

pub returns : goal.returns
returns g c =
    c.swap_columns-2.ensures 1 pairs (omega arith)
    (omega (arith, c.QUARTER_ROW.ensures, g.met.W.Word.shape.one)) pairs_swap
    c.pack_rows-by_one.ensures
    ∙ ap (map (columns_swapped 1 pairs)) (c.swap_columns.ensures 2 two_apart_1 (omega arith)
    (omega (arith, c.HALF_ROW.ensures, g.met.W.Word.shape.two)) two_apart_1_swap
    c.pack_rows-by_two.ensures) ∙ sym (shifted_1 _)
