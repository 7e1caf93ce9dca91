use Rattle.std.proofs.Common.{◌≡◌, ◌*◌, ◌%◌, ◌/◌, ◌<◌, arith}
use Rattle.aes_planes.specs.Planes.{place}
use Rattle.aes_planes.proofs.Planes.Held.{place_lt, column_of}
use Rattle.aes_planes.proofs.KeySchedule.SummedColumns.{straddled}
use Rattle.aes_planes.proofs.soft.key_columns.straddle.Goals as goal

pub returns : goal.returns
returns g c = λ r q k h l kn.
    let w = g.W.Word in
    let laws = g.met.W.Word.shape in
    let e2 : c.HALF_ROW.result ≡ 2 * w.BLOCKS = omega (arith, c.HALF_ROW.ensures, laws.two) in
    let e3 : c.HALF_ROW-2.result ≡ 2 * w.BLOCKS = omega (arith, c.HALF_ROW-2.ensures, laws.two) in
    let p = place w.BLOCKS r q k in
    let low : p < w.BITS = omega (arith, laws.sixteen, place_lt w.BLOCKS r q k h l kn) in
    let col : p % w.ROW_BITS / w.QUARTER_ROW ≡ q =
    column_of w.BLOCKS _ _ r q k laws.four laws.one h l kn in
    rw (
      c.bit_or.ensures p low,
      c.bit_and-first.ensures p low,
      c.uniform_row-low.ensures p low,
      c.shift_right-down.ensures p low,
      c.bit_and-last.ensures p low,
      c.uniform_row-high.ensures p low,
      c.shift_left-up.ensures p low,
      col,
      e2,
      e3,
    )
    (straddled w.BLOCKS w.BITS r k (w.bits c.args.left) (w.bits c.args.right) laws.sixteen h kn q l)
