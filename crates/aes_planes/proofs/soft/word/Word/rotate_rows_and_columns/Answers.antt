-- One rotation, if no column moves; or two, of which a mask takes at each place the one that
-- doesn't leave the row.
use Rattle.std.proofs.Common.{◌+◌, ◌%◌, ◌<◌, ap, sym, ◌∙◌, arith}
use Rattle.std.proofs.lemmas.Bool.{cases_lt}
use Rattle.aes_planes.specs.Bits.{at}
use Rattle.aes_planes.specs.Planes.{place}
use Rattle.aes_planes.proofs.Planes.Held.{place_lt, column_of}
use Rattle.aes_planes.proofs.Mixing.Rotations.{rotated_place, wrapped_place, stay_bit, masked_rotation}
use Rattle.aes_planes.proofs.soft.word.Word.rotate_rows_and_columns.Goals as goal

pub returns-then-cols-eq0 : goal.returns-then-cols-eq0
returns-then-cols-eq0 g c = λ r q k h l kn.
    let n = g.Self.Word.BLOCKS in
    let B = g.Self.Word.BITS in
    let laws = g.met.Self.Word.shape in
    let x = g.Self.Word.bits c.args.self in
    let p = place n r q k in
    let low : p < B = omega (arith, laws.sixteen, place_lt n r q k h l kn) in
    c.ror.ensures p low ∙ (λ t. at x ((p + c.ror_distance.ensures t) % B))
    ∙ ap (at x) (rotated_place laws r q k c.args.rows 0 h (omega arith) kn c.requires.four_rows)
    ∙ ap (λ v. at x (place n ((r + c.args.rows) % 4) ((q + v) % 4) k)) (sym c.if-cols-eq0.true)

pub returns : goal.returns
returns g c = λ r q k h l kn.
    let n = g.Self.Word.BLOCKS in
    let B = g.Self.Word.BITS in
    let laws = g.met.Self.Word.shape in
    let rows = c.args.rows in
    let cols = c.args.cols in
    let x = g.Self.Word.bits c.args.self in
    let p = place n r q k in
    let low : p < B = omega (arith, laws.sixteen, place_lt n r q k h l kn) in
    rw (
      c.bit_or.ensures p low,
      c.bit_and-left.ensures p low,
      c.bit_and-right.ensures p low,
      c.bit_not-wraps.ensures p low,
      c.uniform_row-stays.ensures p low,
      column_of n _ _ r q k laws.four laws.one h l kn,
    )
    (masked_rotation _ _ _ _ (q + cols) (stay_bit cols q c.requires.four_columns l)
    (λ lt. c.ror-ahead.ensures p low ∙ (λ t. at x ((p + c.ror_distance-2.ensures t) % B))
    ∙ ap (at x) (rotated_place laws r q k rows cols h lt kn c.requires.four_rows))
    (λ le. c.ror-wrapped.ensures p low ∙ (λ t. at x ((p + c.ror_distance-3.ensures t) % B))
    ∙ ap (at x) (wrapped_place laws r q k rows cols h l le kn c.requires.some_rows
    c.requires.four_rows
    c.requires.four_columns))
    (cases_lt (q + cols) 4))
