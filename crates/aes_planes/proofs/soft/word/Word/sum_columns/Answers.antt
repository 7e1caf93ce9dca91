-- The three steps of the sum, each bit by its column; `bit_of_sums` puts them together.
use Rattle.std.proofs.Common.{◌≡◌, ℕ, ◌*◌, ◌%◌, ◌/◌, ◌<◌, refl, arith}
use Rattle.aes_planes.specs.Planes.{place}
use Rattle.aes_planes.proofs.Planes.Held.{place_lt, column_of}
use Rattle.aes_planes.proofs.KeySchedule.SummedColumns.{bit_of_sums}
use Rattle.aes_planes.proofs.soft.word.Word.sum_columns.Goals as goal

pub returns : goal.returns
returns g c = λ r q k h l kn.
    let w = g.Self.Word in
    let laws = g.met.Self.Word.shape in
    let n = w.BLOCKS in
    let at = λ (q : ℕ). place n r q k in
    let e1 : c.QUARTER_ROW.result ≡ n = omega (arith, c.QUARTER_ROW.ensures, laws.one) in
    let e2 : c.HALF_ROW.result ≡ 2 * n = omega (arith, c.HALF_ROW.ensures, laws.two) in
    let low : (q : ℕ) → q < 4 → at q < w.BITS =
    λ q l. omega (arith, laws.sixteen, place_lt n r q k h l kn) in
    let col : (q : ℕ) → q < 4 → at q % w.ROW_BITS / w.QUARTER_ROW ≡ q =
    λ q l. column_of n _ _ r q k laws.four laws.one h l kn in
    bit_of_sums n w.BITS c.args.rotation r k (w.bits c.args.self) (w.bits c.args.start)
    (w.bits c.bit_xor-first.result)
    (w.bits c.bit_xor-pairs.result) (w.bits c.bit_xor.result)
    (λ q l. rw (
      c.bit_xor-first.ensures (at q) (low q l),
      c.bit_and-first_column.ensures (at q) (low q l),
      c.uniform_row-column0.ensures (at q) (low q l),
      c.ror-rotated.ensures (at q) (low q l),
      col q l,
    ) refl)
    (λ q l. rw (
      c.bit_xor-pairs.ensures (at q) (low q l),
      c.bit_and-part1.ensures (at q) (low q l),
      c.uniform_row-from1.ensures (at q) (low q l),
      c.shift_left-up1.ensures (at q) (low q l),
      col q l,
      e1,
    ) refl)
    (λ q l. rw (
      c.bit_xor.ensures (at q) (low q l),
      c.bit_and-part2.ensures (at q) (low q l),
      c.uniform_row-from2.ensures (at q) (low q l),
      c.shift_left-up2.ensures (at q) (low q l),
      col q l,
      e2,
    ) refl)
    q l
