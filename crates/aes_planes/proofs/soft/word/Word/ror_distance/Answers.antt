use Rattle.std.proofs.Common.{◌≤◌, arith, mul-le-mul}
use Rattle.aes_planes.proofs.soft.word.Word.ror_distance.Goals as goal

pub overflow_mul-down : goal.overflow_mul-down
overflow_mul-down g c =
    let laws = g.met.Self.Word.shape in
    let row : c.ROW_BITS.result ≤ 64 =
    omega (arith, c.ROW_BITS.ensures, laws.four, laws.few_blocks) in
    omega (arith, mul-le-mul c.requires.four_rows row)

pub overflow_mul-across : goal.overflow_mul-across
overflow_mul-across g c =
    let laws = g.met.Self.Word.shape in
    let column : c.QUARTER_ROW.result ≤ 16 =
    omega (arith, c.QUARTER_ROW.ensures, laws.one, laws.few_blocks) in
    omega (arith, mul-le-mul c.requires.four_columns column)
