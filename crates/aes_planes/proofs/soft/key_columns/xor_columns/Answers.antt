use Rattle.std.proofs.Common.{arith}
use Rattle.aes_planes.proofs.KeySchedule.SummedColumns.{columns_of_words}
use Rattle.aes_planes.proofs.soft.key_columns.xor_columns.Goals as goal

pub returns-clause-blocks : goal.returns-clause-blocks
returns-clause-blocks g c = λ rows cols hr hc e.
    columns_of_words g.met.W.Word.shape c.args.idx_ror rows cols c.args.offset c.args.idx_xor
    c.loop-i.round_keys
    c.args.round_keys.now c.loop-i.invariant.same_length c.requires.room c.requires.inside hr hc e
    (λ m d r q k h. c.loop-i.invariant.sums m d r q k (omega arith))
