-- All rounds on two vectors: what `process_vector` has, for each of the two.
use Rattle.std.proofs.Common.{◌-◌, ap, map, ◌∙◌, arith}
use Rattle.aes_planes.specs.Fips197.{add_round_key}
use Rattle.aes_permute.proofs.StoredStates.{first_state, next_state, last_state}
use Rattle.aes_permute.proofs.blocks.process_two_vectors.Goals as goal

pub loop-i-init : goal.loop-i-init
loop-i-init g c = record {
  one = λ k. first_state g.D.LaneRounds.form c.args.keys.now g.D.Direction.step
      g.D.LaneRounds.state_byte (g.L.Lanes.block c.args.one k) (g.L.Lanes.block c.add_first_key-x.result k)
      (omega (arith, c.requires.two)) (c.add_first_key-x.ensures k) (c.repeated-first_key.ensures k);
  other = λ k. first_state g.D.LaneRounds.form c.args.keys.now g.D.Direction.step
      g.D.LaneRounds.state_byte (g.L.Lanes.block c.args.other k)
      (g.L.Lanes.block c.add_first_key-y.result k)
      (omega (arith, c.requires.two)) (c.add_first_key-y.ensures k) (c.repeated-first_key.ensures k);
}

pub loop-i-preserved : goal.loop-i-preserved
loop-i-preserved g c = record {
  one = λ k. next_state g.D.LaneRounds.form c.args.keys.now g.D.Direction.step
      g.D.LaneRounds.state_byte (g.L.Lanes.block c.args.one k) (g.L.Lanes.block c.loop-i.x k)
      (g.L.Lanes.block c.sum-x.result k) c.loop-i.i (omega arith) (omega arith)
      (ap (λ v. g.D.LaneRounds.form.placed c.loop-i.i (map g.D.LaneRounds.state_byte v)) (c.sum-x.ensures k)
      ∙ c.keys_may_come_later.ensures c.loop-i.i _ (g.L.Lanes.block c.round-one_round.result k)
      (g.L.Lanes.block c.repeated-key.result k) (c.blocks_have_16_bytes.ensures k).0
      (c.blocks_have_16_bytes-in-loop-i-2.ensures k).0 (c.round-one_round.ensures k
      ∙ (λ j. add_round_key (g.D.Direction.step (g.D.LaneRounds.form.placed (c.loop-i.i - 1)
      (map g.D.LaneRounds.state_byte (g.L.Lanes.block c.loop-i.x k))))
      (g.D.LaneRounds.form.placed c.loop-i.i (map g.D.LaneRounds.form.inner_byte (c.repeated-zero.ensures k j))))))
      (c.repeated-key.ensures k) (c.loop-i.invariant.one k);
  other = λ k. next_state g.D.LaneRounds.form c.args.keys.now g.D.Direction.step
      g.D.LaneRounds.state_byte (g.L.Lanes.block c.args.other k) (g.L.Lanes.block c.loop-i.y k)
      (g.L.Lanes.block c.sum-y.result k) c.loop-i.i (omega arith) (omega arith)
      (ap (λ v. g.D.LaneRounds.form.placed c.loop-i.i (map g.D.LaneRounds.state_byte v)) (c.sum-y.ensures k)
      ∙ c.keys_may_come_later.ensures c.loop-i.i _ (g.L.Lanes.block c.round-other_round.result k)
      (g.L.Lanes.block c.repeated-key.result k) (c.blocks_have_16_bytes-in-loop-i.ensures k).0
      (c.blocks_have_16_bytes-in-loop-i-2.ensures k).0 (c.round-other_round.ensures k
      ∙ (λ j. add_round_key (g.D.Direction.step (g.D.LaneRounds.form.placed (c.loop-i.i - 1)
      (map g.D.LaneRounds.state_byte (g.L.Lanes.block c.loop-i.y k))))
      (g.D.LaneRounds.form.placed c.loop-i.i (map g.D.LaneRounds.form.inner_byte (c.repeated-zero.ensures k j))))))
      (c.repeated-key.ensures k) (c.loop-i.invariant.other k);
}

pub returns-clause-one : goal.returns-clause-one
returns-clause-one g c k =
    last_state g.D.LaneRounds.form c.args.keys.now g.D.Direction.step g.D.Direction.last_step
    g.D.LaneRounds.state_byte (g.L.Lanes.block c.args.one k) (g.L.Lanes.block c.loop-i.x k) _
    c.loop-i.i c.requires.two (omega (arith, c.requires.two)) (c.last_round-first.ensures k)
    (c.repeated-last_key.ensures k)
    (c.loop-i.invariant.one k)

pub returns-clause-other : goal.returns-clause-other
returns-clause-other g c k =
    last_state g.D.LaneRounds.form c.args.keys.now g.D.Direction.step g.D.Direction.last_step
    g.D.LaneRounds.state_byte (g.L.Lanes.block c.args.other k) (g.L.Lanes.block c.loop-i.y k) _
    c.loop-i.i c.requires.two (omega (arith, c.requires.two)) (c.last_round-second.ensures k)
    (c.repeated-last_key.ensures k)
    (c.loop-i.invariant.other k)
