use Rattle.std.proofs.Common.{◌+◌, ◌%◌, map, ap, sym}
use Rattle.aes_planes.specs.Planes.{held_byte, place}
use Rattle.aes_planes.proofs.Bits.BitCases.{list_of_eight}
use Rattle.aes_planes.proofs.soft.word.Word.rotate_planes.Goals as goal

pub returns : goal.returns
returns g c = λ r q k h l kn.
    let there = place g.Self.Word.BLOCKS ((r + c.args.rows) % 4) ((q + c.args.cols) % 4) k in
    rw (
      c.rotate_rows_and_columns-rotated0.ensures r q k h l kn,
      c.rotate_rows_and_columns-rotated1.ensures r q k h l kn,
      c.rotate_rows_and_columns-rotated2.ensures r q k h l kn,
      c.rotate_rows_and_columns-rotated3.ensures r q k h l kn,
      c.rotate_rows_and_columns-rotated4.ensures r q k h l kn,
      c.rotate_rows_and_columns-rotated5.ensures r q k h l kn,
      c.rotate_rows_and_columns-rotated6.ensures r q k h l kn,
      c.rotate_rows_and_columns-rotated7.ensures r q k h l kn,
    )
    (ap (λ ys. held_byte (map g.Self.Word.bits ys) there)
    (sym (list_of_eight c.args.x.now _ _ _ _ _ _ _ _ c.told-x)))
