-- Each call moves `ReachedBack` on: the start, two rounds or two shifts, a period of the loop, and
-- the end.
use Rattle.std.proofs.Common.{◌≡◌, ℕ, ◌+◌, ◌-◌, ◌*◌, ◌/◌, map, refl, ap, subst, ◌∙◌, arith}
use Rattle.aes_planes.specs.Fips197.{inv_shift_times}
use Rattle.aes_planes.specs.Planes.{held}
use Rattle.aes_soft.proofs.Rounds.{Run, period_of, periods_of, ReachedBack, inv_started, inv_shifted}
use Rattle.aes_soft.proofs.Rounds.{inv_round, two_rounds_back, inv_ended}
use Rattle.aes_soft.proofs.soft.ciphers.planes.DecryptPlaneCipher.process_planes.Given.{Over}
use Rattle.aes_soft.proofs.soft.ciphers.planes.DecryptPlaneCipher.process_planes.Goals.{After-add_key}
use Rattle.aes_soft.proofs.soft.ciphers.planes.DecryptPlaneCipher.process_planes.Goals.{then-period-eq4}
use Rattle.aes_soft.proofs.soft.ciphers.planes.DecryptPlaneCipher.process_planes.Goals.{else-period-eq4}
use Rattle.aes_soft.proofs.soft.ciphers.planes.DecryptPlaneCipher.process_planes.Goals.{then-odd-rounds}
use Rattle.aes_soft.proofs.soft.ciphers.planes.DecryptPlaneCipher.process_planes.Goals.{else-odd-rounds}
use Rattle.aes_soft.proofs.soft.ciphers.planes.DecryptPlaneCipher.process_planes.Goals as goal

-- the round keys and the blocks of a call
abbrev call : (g : Over) → After-add_key g → Run g.row.W.Denot
call g c = record {
  bits = g.W.Word.bits;
  n = g.W.Word.BLOCKS;
  period = g.L.Layout.PERIOD;
  rounds = c.args.rounds;
  round_keys = c.args.round_keys.now;
  xs = held g.W.Word.BLOCKS (map g.W.Word.bits c.args.state.now);
  some = g.met.W.Word.shape.some_block;
  low = c.requires.ten_at_least;
  high = c.requires.fourteen_at_most;
  is_keyed = c.requires.is_schedule;
}

pub whole_periods-init : goal.whole_periods-init
unfolding inv_shift_times
whole_periods-init g c =
    let rounds = c.args.rounds in
    let q = c.PERIOD-period.result in
    let periods : ℕ = (rounds - 2) / q in
    let odd : ℕ = q * periods + 1 in
    let m : ℕ = rounds - 1 - odd in
    let run = call g (goal.at.whole_periods-init g c).After-add_key in
    let whole = periods_of rounds c.requires.ten_at_least c.requires.even _ q c.PERIOD-period.ensures
    g.L.Layout.two_or_four in
    let all : periods - 0 ≡ periods = omega arith in
    let left : q * (periods - 0) ≡ q * periods = ap (λ v. q * v) all in
    let start = inv_started run _ _ _ refl c.add_key.ensures c.inv_sub_bytes.ensures.blocks in
    let two : ReachedBack run (map g.W.Word.bits c.if-odd-rounds.planes) 2 m =
    elim c.if-odd-rounds.branch [
      | then-odd-rounds t ↦
          let more = t.if-odd-rounds.true in
          let ends = whole.all (omega (arith, more)) in
          ap (λ v. held g.W.Word.BLOCKS (map g.W.Word.bits v)) t.planes-is
          ∙ two_rounds_back run _ _ _ 0 m (rounds - 1) (rounds - 2) (omega (arith, ends))
          (whole.three (omega (arith, more)))
          (omega (arith, ends, whole.two (omega (arith, more))))
          start t.inv_round.ensures.blocks t.inv_round-then-odd-rounds.ensures.blocks
      | else-odd-rounds t ↦
          let none : 0 ≡ m = omega (arith, t.if-odd-rounds.false) in
          ap (λ v. held g.W.Word.BLOCKS (map g.W.Word.bits v)) t.planes-is
          ∙ inv_shifted run _ _ m
          (subst (ReachedBack run (map g.W.Word.bits c.inv_sub_bytes.new.state) 0) none start)
          t.inv_shift_rows_2.ensures
    ] in
    record {
      blocks =
          inv_round run 2 _ _ m (rounds - 1 - q * (periods - 0)) odd
          (omega (arith, whole.room, whole.one, left)) two
          c.inv_round-2.ensures.blocks;
      layers = elim c.if-odd-rounds.branch [
        | then-odd-rounds t ↦ omega (arith, left, whole.all (omega (arith, t.if-odd-rounds.true)))
        | else-odd-rounds t ↦ omega (arith, left, whole.room, t.if-odd-rounds.false)
      ];
    }

pub whole_periods-preserved : goal.whole_periods-preserved
unfolding inv_shift_times
whole_periods-preserved g c =
    let rounds = c.args.rounds in
    let q = c.PERIOD-period.result in
    let left : ℕ = (rounds - 2) / q - (c.whole_periods.past + 1) in
    let i : ℕ = q * ((rounds - 2) / q - c.whole_periods.past) in
    let m : ℕ = rounds - 1 - i in
    let end : ℕ = m + q - 1 in
    let run = call g (goal.at.whole_periods-preserved g c).After-add_key in
    let period = period_of left rounds _ q c.PERIOD-period.ensures g.L.Layout.two_or_four
    (omega (arith, c.whole_periods-test.true)) in
    let same : (rounds - 2) / q - c.whole_periods.past ≡ left + 1 = omega (arith, c.whole_periods-test.true) in
    let at : i ≡ q * left + q = ap (λ v. q * v) same ∙ period.next in
    let one = inv_round run 1 _ _ m (m + 1) i
    (omega (arith, at, period.room, period.least, period.ended i at))
    c.whole_periods.invariant.blocks c.inv_round-in-whole_periods.ensures.blocks in
    let two : ReachedBack run (map g.W.Word.bits c.if-period-eq4.planes) 2 end =
    elim c.if-period-eq4.branch [
      | then-period-eq4 t ↦
          let four = t.if-period-eq4.true in
          ap (λ v. held g.W.Word.BLOCKS (map g.W.Word.bits v)) t.planes-is
          ∙ two_rounds_back run _ _ _ (m + 1) end (i - 1) (i - 2) (omega (arith, four, at))
          (period.own 3 (i - 1) (omega (arith, four)) (omega (arith, at, four)))
          (omega (
            arith,
            four,
            at,
            period.room,
            period.own 2 (i - 2) (omega (arith, four)) (omega (arith, at, four)),
          ))
          one t.inv_round-then-period-eq4.ensures.blocks
          t.inv_round-then-period-eq4-2.ensures.blocks
      | else-period-eq4 t ↦
          let next : m + 1 ≡ end =
          omega (arith, t.if-period-eq4.false, period.least, period.even, period.most) in
          ap (λ v. held g.W.Word.BLOCKS (map g.W.Word.bits v)) t.planes-is
          ∙ inv_shifted run _ _ end
          (subst (ReachedBack run (map g.W.Word.bits c.inv_round-in-whole_periods.new.state) 0) next one)
          t.inv_shift_rows_2-else-period-eq4.ensures
    ] in
    record {
      blocks = inv_round run 2 _ _ end (rounds - 1 - q * left) (i + 1 - q) (omega (
        arith,
        at,
        period.room,
        period.least,
        period.own 1 (i + 1 - q) (omega (arith, period.least)) (omega (arith, at)),
      )) two
          c.inv_round-in-whole_periods-2.ensures.blocks;
      layers = elim c.if-period-eq4.branch [
        | then-period-eq4 t ↦ omega (arith, at, period.room, t.if-period-eq4.true)
        | else-period-eq4 t ↦
            omega (arith, at, period.room, t.if-period-eq4.false, period.least, period.even, period.most)
      ];
    }

pub returns-clause-blocks : goal.returns-clause-blocks
unfolding inv_shift_times
returns-clause-blocks g c =
    let q = c.PERIOD-period.result in
    let left : ℕ = (c.args.rounds - 2) / q - c.whole_periods.past in
    let done : left ≡ 0 = omega arith in
    let none : q * left ≡ q * 0 = ap (λ v. q * v) done in
    inv_ended (call g (goal.at.returns-clause-blocks g c).After-add_key) _ _
    (c.args.rounds - 1 - q * left)
    (omega (arith, none)) c.whole_periods.invariant.blocks c.add_key-2.ensures
