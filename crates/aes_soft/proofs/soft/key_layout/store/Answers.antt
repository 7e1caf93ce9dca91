-- One round key a turn: those before it are stored as the layout defers them, and the others are
-- still as they were.
use Rattle.std.proofs.Common.{◌≡◌, inl, inr, ℕ, ◌*◌, ◌%◌, map, replicate, refl, ap, sym, ◌∙◌, arith}
use Rattle.std.proofs.lemmas.Bool.{cases_lt}
use Rattle.aes_planes.specs.Fips197.{inv_shift_times}
use Rattle.aes_planes.specs.Planes.{held, plus63}
use Rattle.aes_soft.specs.Stored.{deferred}
use Rattle.aes_soft.proofs.StoredRoundKeys.{deferred_below, deferred_last, stored_none, stored_some}
use Rattle.aes_soft.proofs.StoredRoundKeys.{map_none}
use Rattle.aes_soft.proofs.WordsInPlace.{key_changed, key_kept}
use Rattle.aes_soft.proofs.Slots.{stepped_map}
use Rattle.aes_soft.proofs.soft.key_layout.store.Goals.{then-i-rounds, else-i-rounds}
use Rattle.aes_soft.proofs.soft.key_layout.store.Goals as goal

pub keys-init : goal.keys-init
keys-init g c = record {
  done = λ f h j lt. h j (omega arith) ∙ ap (replicate g.W.Word.BLOCKS)
      (stored_none c.args.rounds g.L.Layout.PERIOD f j (omega arith)
      (omega (arith, c.requires.some_rounds)));
  rest = λ f h j ge lt. h j lt;
  same_length = refl;
}

pub keys-preserved : goal.keys-preserved
unfolding inv_shift_times
keys-preserved g c =
    let n = g.W.Word.BLOCKS in
    let bits = g.W.Word.bits in
    let i = c.keys.i in
    let o = 8 * i in
    let rounds = c.args.rounds in
    let period = g.L.Layout.PERIOD in
    let times : ℕ = deferred period rounds i in
    let rk = c.keys.round_keys in
    let rk1 = c.store_round_key.new.round_keys in
    let stay = c.store_round_key.ensures.others in
    let blocks = held n (map bits c.round_key-planes.result) in
    let shifted : held n (map bits c.if-i-rounds.planes) ≡ map (inv_shift_times times) blocks =
    elim c.if-i-rounds.branch [
      | then-i-rounds w ↦
          ap (λ v. held n (map bits v)) w.planes-is ∙ w.shift_back.ensures
          ∙ ap (λ v. map (inv_shift_times v) blocks)
          (sym (deferred_below rounds period i _ w.if-i-rounds.true
          (ap (λ v. i % v) (sym c.PERIOD-period.ensures))))
      | else-i-rounds w ↦
          let last : i ≡ rounds = omega (arith, w.if-i-rounds.false) in
          ap (λ v. held n (map bits v)) w.planes-is ∙ sym (map_none blocks)
          ∙ ap (λ v. map (inv_shift_times v) blocks)
          (sym (deferred_last rounds period i last))
    ] in
    record {
      done = λ f h j lt. elim (cases_lt j i) [
        | inl low ↦ key_kept bits n rk rk1 o (8 * j) _ stay (inl (omega arith))
            (c.keys.invariant.done f h j low)
        | inr ge ↦
            let here : deferred period rounds j ≡ times =
            ap (deferred period rounds) (omega arith) in
            key_changed bits n (λ b. map plus63 (inv_shift_times times b)) rk rk1 _ _ o (8 * j)
            (f j)
            (omega arith)
            c.round_key-planes.ensures
            (stepped_map n (map plus63) (inv_shift_times times)
            _ _ blocks c.sub_bytes_nots.ensures shifted)
            c.store_round_key.ensures.there (c.keys.invariant.rest f h j ge (omega arith))
            ∙ ap (replicate n) (stored_some rounds period f j times (omega arith) here)
      ];
      rest = λ f h j ge lt. key_kept bits n rk rk1 o (8 * j) (f j) stay (inr (omega arith))
          (c.keys.invariant.rest f h j (omega arith) lt);
      same_length = c.store_round_key.ensures.same_length ∙ c.keys.invariant.same_length;
    }

pub returns-clause-blocks : goal.returns-clause-blocks
returns-clause-blocks g c = λ f h j lt. c.keys.invariant.done f h j (omega arith)
