use Rattle.std.proofs.Common.{◌*◌, ◌/◌, ◌%◌, ◌^◌, ◌==◌, ◌&&◌, [], ◌∷◌, get_or, ◌∙◌, arith}
use Rattle.aes_planes.specs.Bits.{bit}
use Rattle.aes_planes.specs.Planes.{place}
use Rattle.aes_planes.proofs.KeySchedule.RoundConstantBit.{flagged_byte, nibble_is}
use Rattle.aes_planes.proofs.Shifts.ColumnSwaps.{row_mask}
use Rattle.aes_planes.proofs.soft.word.Word.constant_planes.Goals as goal

pub returns : goal.returns
unfolding bit
returns g c = λ r q k hr hq hk.
    let w = g.Self.Word in
    let planes = c.planes.planes in
    let zero = c.zero-planes.result in
    let inv = c.planes.invariant in
    flagged_byte w.bits planes zero c.args.byte (place w.BLOCKS r q k) ((r == 1) && (q == 3))
    (omega arith)
    inv.same_length (λ m h. let b = c.args.byte / 2 ^ m % 2 in
    row_mask g.met.Self.Word.shape r q k (0 ∷ 8 * b ∷ 0 ∷ 0 ∷ [])
    (w.bits (get_or planes m zero)) hr hq hk
    (λ i l. inv.done m zero i (omega arith) l)
    ∙ nibble_is b r q (omega arith) hr hq)
