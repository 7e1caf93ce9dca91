-- Each turn of the loop puts one more word in every slot, and words in every slot keep a schedule
-- and its key.
use Rattle.std.proofs.Common.{◌≡◌, ◌⊎◌, length, length-set, map, ap, sym, subst, ◌∙◌, arith}
use Rattle.aes_soft.specs.Stored.{full, key_of, rounds_of, size_of, IsKeyed}
use Rattle.aes_soft.proofs.Widened.{InEverySlot, put_more, same_key, widened_keyed}
use Rattle.aes_soft.proofs.soft.full.widening.store_widened.Goals as goal

pub widen-preserved : goal.widen-preserved
widen-preserved g c =
    let w = g.W.Word in
    let same_length = c.widen.invariant.same_length in
    record {
      spread = put_more (InEverySlot w.bits w.BITS w.ROW_BITS w.QUARTER_ROW c.args.round_keys.now)
          c.widen.widened c.widen.i c.broadcast.result (omega (arith, same_length))
          c.widen.invariant.spread c.broadcast.ensures;
      same_length = length-set c.widen.widened c.widen.i c.broadcast.result ∙ same_length;
    }

pub returns-clause-schedule : goal.returns-clause-schedule
returns-clause-schedule g c =
    let count = length c.args.round_keys.now in
    let widened = c.widen.widened in
    let same = c.widen.invariant.same_length in
    record {
      one_of_three = subst (λ k. (k ≡ 88) ⊎ ((k ≡ 104) ⊎ (k ≡ 120)))
          (sym same) c.requires.is_stored.one_of_three;
      keyed = subst (λ k. IsKeyed (size_of k) g.W.Word.BLOCKS (full (rounds_of k))
          (map g.W.Word.bits widened)) (sym same)
          (widened_keyed _ _ _ _ _ _ _ _ _ g.met.W.Word.shape widened same
          (λ i d lt. c.widen.invariant.spread i d (omega arith)) (size_of count)
          (full (rounds_of count))
          c.requires.is_stored.keyed);
    }

pub returns-clause-key : goal.returns-clause-key
returns-clause-key g c =
    let count = length c.args.round_keys.now in
    let widened = c.widen.widened in
    let same = c.widen.invariant.same_length in
    ap (λ k. key_of (size_of k) g.W.Word.BLOCKS (full (rounds_of k))
    (map g.W.Word.bits widened)) same
    ∙ same_key _ _ _ _ _ _ _ _ _ g.met.W.Word.shape widened same
    (λ i d lt. c.widen.invariant.spread i d (omega arith)) (size_of count) (full (rounds_of count))
