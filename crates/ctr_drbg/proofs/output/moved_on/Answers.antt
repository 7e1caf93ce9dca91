-- V plus a number of blocks is V after as many turns, also where it wraps.
use Rattle.std.proofs.Common.{◌≡◌, ◌∙◌, ◌+◌, ◌/◌, ap, arith}
use Rattle.ctr_drbg.specs.CtrDrbg.{v_after, blocks_for}
use Rattle.ctr_drbg.proofs.Keystream.{v_after_any}
use Rattle.ctr_drbg.proofs.output.moved_on.Goals as goal

pub returns : goal.returns
unfolding blocks_for
returns c =
    let v = c.args.v.now in
    let number = c.number_of_block.ensures in
    let count : c.div_ceil.result ≡ (c.args.bytes + 15) / 16 = omega (arith, c.div_ceil.ensures) in
    v_after_any v c.block_of_number.result c.div_ceil.result c.number_of_block.result
    c.block_of_number.ensures.block
    number.number number.back (omega arith)
    ∙ ap (v_after v) count
