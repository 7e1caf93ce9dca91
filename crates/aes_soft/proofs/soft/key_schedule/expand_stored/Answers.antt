use Rattle.std.proofs.Common.{map, refl, arith}
use Rattle.aes_planes.specs.Fips197 as fips
use Rattle.std.proofs.Math.Nat.{zero-mod}
use Rattle.aes_soft.specs.Stored.{deferred}
use Rattle.aes_soft.proofs.KeyOfPlanes.{key_of-schedule}
use Rattle.aes_soft.proofs.StoredRoundKeys.{deferred_below, schedule_of}
use Rattle.aes_soft.proofs.soft.key_schedule.expand_stored.Goals as goal

pub returns-clause-schedule : goal.returns-clause-schedule
returns-clause-schedule g c =
    schedule_of g.W.Word.BLOCKS (fips.rounds c.args.key.now) g.L.Layout.PERIOD c.args.key.now
    (map g.W.Word.bits c.store.new.round_keys) (omega arith)
    (omega (arith, c.requires.one_of_three))
    (c.store.ensures.blocks _ (λ i l. c.expand.ensures.keys i (omega (arith, l))))

pub returns-clause-key : goal.returns-clause-key
returns-clause-key g c =
    let rounds = fips.rounds c.args.key.now in
    let p = g.L.Layout.PERIOD in
    key_of-schedule g.W.Word.BLOCKS (deferred p rounds) g.met.W.Word.shape.some_block
    (deferred_below rounds p 0 0 (omega arith) (zero-mod p))
    (map g.W.Word.bits c.store.new.round_keys) _
    (fips.key_words c.args.key.now) c.args.key.now
    (omega (arith, c.requires.one_of_three)) refl (omega (arith, c.requires.one_of_three))
    (omega (arith, c.requires.one_of_three)) (returns-clause-schedule g c)
