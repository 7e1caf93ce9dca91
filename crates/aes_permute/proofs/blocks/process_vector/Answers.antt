-- All rounds on one vector: the first state, a round more, the last round, for each block.
use Rattle.std.proofs.Common.{arith}
use Rattle.aes_permute.proofs.StoredStates.{first_state, next_state, last_state}
use Rattle.aes_permute.proofs.blocks.process_vector.Goals as goal

pub loop-i-init : goal.loop-i-init
loop-i-init g c k =
    first_state g.D.LaneRounds.form c.args.keys.now g.D.Direction.step
    g.D.LaneRounds.state_byte (g.L.Lanes.block c.args.blocks k) (g.L.Lanes.block c.add_first_key-x.result k)
    (omega (arith, c.requires.two)) (c.add_first_key-x.ensures k) (c.repeated-first_key.ensures k)

pub loop-i-preserved : goal.loop-i-preserved
loop-i-preserved g c k =
    next_state g.D.LaneRounds.form c.args.keys.now g.D.Direction.step
    g.D.LaneRounds.state_byte (g.L.Lanes.block c.args.blocks k) (g.L.Lanes.block c.loop-i.x k)
    (g.L.Lanes.block c.round-x.result k) c.loop-i.i (omega arith) (omega arith)
    (c.round-x.ensures k)
    (c.repeated-key.ensures k) (c.loop-i.invariant k)

pub returns : goal.returns
returns g c k =
    last_state g.D.LaneRounds.form c.args.keys.now g.D.Direction.step g.D.Direction.last_step
    g.D.LaneRounds.state_byte (g.L.Lanes.block c.args.blocks k) (g.L.Lanes.block c.loop-i.x k) _
    c.loop-i.i c.requires.two (omega (arith, c.requires.two)) (c.last_round.ensures k)
    (c.repeated-last_key.ensures k)
    (c.loop-i.invariant k)
