-- Each call moves `Reached` on: the start, a period of the loop, the last rounds or two shifts, and
-- the end.
use Rattle.std.proofs.Common.{◌≡◌, ℕ, ◌+◌, ◌-◌, ◌*◌, ◌/◌, map, refl, ap, ◌∙◌, arith}
use Rattle.aes_planes.specs.Fips197.{inv_shift_times}
use Rattle.aes_planes.specs.Planes.{held}
use Rattle.aes_soft.proofs.Rounds.{Run, period_of, periods_of, Reached, started, round, shifted, ended}
use Rattle.aes_soft.proofs.soft.ciphers.planes.EncryptPlaneCipher.process_planes.Given.{Over}
use Rattle.aes_soft.proofs.soft.ciphers.planes.EncryptPlaneCipher.process_planes.Goals.{After-add_key}
use Rattle.aes_soft.proofs.soft.ciphers.planes.EncryptPlaneCipher.process_planes.Goals.{then-period-eq4}
use Rattle.aes_soft.proofs.soft.ciphers.planes.EncryptPlaneCipher.process_planes.Goals.{else-period-eq4}
use Rattle.aes_soft.proofs.soft.ciphers.planes.EncryptPlaneCipher.process_planes.Goals.{then-odd-rounds}
use Rattle.aes_soft.proofs.soft.ciphers.planes.EncryptPlaneCipher.process_planes.Goals.{else-odd-rounds}
use Rattle.aes_soft.proofs.soft.ciphers.planes.EncryptPlaneCipher.process_planes.Goals as goal

-- the round keys and the blocks of a call
abbrev call : (g : Over) → After-add_key g → Run g.row.W.Denot
call g c = record {
  bits = g.W.Word.bits;
  n = g.W.Word.BLOCKS;
  period = g.L.Layout.PERIOD;
  rounds = c.args.rounds;
  round_keys = c.args.round_keys.now;
  xs = held g.W.Word.BLOCKS (map g.W.Word.bits c.args.state.now);
  some = g.met.W.Word.shape.some_block;
  low = c.requires.ten_at_least;
  high = c.requires.fourteen_at_most;
  is_keyed = c.requires.is_schedule;
}

pub whole_periods-init : goal.whole_periods-init
unfolding inv_shift_times
whole_periods-init g c = record {
  blocks = started (call g (goal.at.whole_periods-init g c).After-add_key) _ _ _
      (omega arith) refl c.add_key.ensures;
  layers = omega arith;
}

pub whole_periods-preserved : goal.whole_periods-preserved
unfolding inv_shift_times
whole_periods-preserved g c =
    let q = c.PERIOD-period.result in
    let m : ℕ = q * c.whole_periods.past in
    let end : ℕ = m + q - 1 in
    let run = call g (goal.at.whole_periods-preserved g c).After-add_key in
    let period = period_of c.whole_periods.past c.args.rounds _ q c.PERIOD-period.ensures g.L.Layout.two_or_four
    c.whole_periods-test.true in
    let one = λ (l : ℕ) (e : m + 1 ≡ l). round run 1 _ _ m l (m + 1)
    (omega (arith, e, period.room, period.own 1 (m + 1) (omega (arith, period.least)) refl))
    c.whole_periods.invariant.blocks
    c.round.ensures.blocks in
    let three : Reached run (map g.W.Word.bits c.if-period-eq4.planes) 3 end =
    elim c.if-period-eq4.branch [
      | then-period-eq4 t ↦
          let four = t.if-period-eq4.true in
          ap (λ v. held g.W.Word.BLOCKS (map g.W.Word.bits v)) t.planes-is
          ∙ round run 3 _ _ (m + 2) end (m + 3)
          (omega (arith, four, period.room, period.own 3 (m + 3) (omega (arith, four)) refl))
          (round run 2 _ _ (m + 1) (m + 2) (m + 2)
          (omega (arith, four, period.room, period.own 2 (m + 2) (omega (arith, four)) refl))
          (one (m + 1) refl)
          t.round-then-period-eq4.ensures.blocks)
          t.round-then-period-eq4-2.ensures.blocks
      | else-period-eq4 t ↦
          ap (λ v. held g.W.Word.BLOCKS (map g.W.Word.bits v)) t.planes-is
          ∙ shifted run _ _ end
          (one end (omega (arith, t.if-period-eq4.false, period.least, period.even, period.most)))
          t.shift_rows_2.ensures
    ] in
    record {
      blocks = round run 0 _ _ end (q * (c.whole_periods.past + 1)) (m + q)
          (omega (arith, period.least, period.room, period.next, period.ended (m + q) refl))
          three c.round-in-whole_periods.ensures.blocks;
      layers = elim c.if-period-eq4.branch [
        | then-period-eq4 t ↦ omega (arith, period.next, t.if-period-eq4.true)
        | else-period-eq4 t ↦
            omega (arith, period.next, t.if-period-eq4.false, period.least, period.even, period.most)
      ];
    }

pub returns-clause-blocks : goal.returns-clause-blocks
unfolding inv_shift_times
returns-clause-blocks g c =
    let rounds = c.args.rounds in
    let q = c.PERIOD-period.result in
    let odd : ℕ = q * ((rounds - 2) / q) + 1 in
    let run = call g (goal.at.returns-clause-blocks g c).After-add_key in
    let whole = periods_of rounds c.requires.ten_at_least c.requires.even _ q c.PERIOD-period.ensures
    g.L.Layout.two_or_four in
    let done : c.whole_periods.past ≡ (rounds - 2) / q = omega arith in
    let one = λ (l : ℕ) (e : odd ≡ l). round run 1 _ _ (q * c.whole_periods.past) l odd
    (omega (arith, e, whole.room, whole.one, ap (λ v. q * v) done)) c.whole_periods.invariant.blocks
    c.round-2.ensures.blocks in
    let three : Reached run (map g.W.Word.bits c.if-odd-rounds.planes) 3 (rounds - 1) =
    elim c.if-odd-rounds.branch [
      | then-odd-rounds t ↦
          let more = t.if-odd-rounds.true in
          let all = whole.all (omega (arith, more)) in
          ap (λ v. held g.W.Word.BLOCKS (map g.W.Word.bits v)) t.planes-is
          ∙ round run 3 _ _ (rounds - 2) (rounds - 1) (rounds - 1)
          (omega (arith, all, whole.three (omega (arith, more))))
          (round run 2 _ _ odd (rounds - 2) (rounds - 2)
          (omega (arith, all, whole.two (omega (arith, more))))
          (one odd refl) t.round-then-odd-rounds.ensures.blocks)
          t.round-then-odd-rounds-2.ensures.blocks
      | else-odd-rounds t ↦
          ap (λ v. held g.W.Word.BLOCKS (map g.W.Word.bits v)) t.planes-is
          ∙ shifted run _ _ (rounds - 1)
          (one (rounds - 1) (omega (arith, t.if-odd-rounds.false, whole.room)))
          t.shift_rows_2-else-odd-rounds.ensures
    ] in
    ended run _ _ _ three c.sub_bytes.ensures.blocks c.add_key-2.ensures
