use Rattle.std.proofs.Common.{length, arith}
use Rattle.aes_ctr.proofs.Places.{ciphered_or_left}
use Rattle.aes_ctr.proofs.keystream.fill_by_backend.Goals as goal

pub returns-after-loop-i-clause-others : goal.returns-after-loop-i-clause-others
returns-after-loop-i-clause-others g c k lt =
    ciphered_or_left _ (g.K.CounterBlocks.block c.args.counters.now) c.args.first c.loop-i.i k
    (length c.args.blocks.now) c.loop-i.blocks c.put.new.blocks
    (omega arith) c.loop-i.invariant.done c.loop-i.invariant.left (omega arith) c.put.ensures
    (omega arith) lt
