-- Each round key comes to its eight words: the first as it is, those between out of the tower
-- basis, and the last.
use Rattle.std.proofs.Common.{◌≡◌, inl, inr, ℕ, ◌*◌, ap, sym, ◌∙◌, arith}
use Rattle.std.proofs.lemmas.Bool.{cases_lt}
use Rattle.aes_soft.proofs.WordsInPlace.{key_kept}
use Rattle.aes_hybrid.proofs.PlaneKeys.{wanted, first_wanted, inner_wanted, planes_keyed}
use Rattle.aes_hybrid.proofs.PlaneKeys.{planes_key, two_or_more, put_at, all_put}
use Rattle.aes_hybrid.proofs.plane_keys.store_planes.Goals as goal

pub keys-init : goal.keys-init
keys-init g c =
    let keys = c.args.keys.now in
    let two = two_or_more keys c.requires.keyed in
    record {
      done = λ j lt.
          let none : j ≡ 0 = omega arith in
          put_at g.W.Word.bits g.W.Word.BLOCKS c.store_in_every_slot.new.words 0 (8 * j) _ _
          (omega (arith, none))
          c.store_in_every_slot.ensures.there (first_wanted keys two
          ∙ ap (wanted keys two) (sym none));
      same_length = c.store_in_every_slot.ensures.same_length ∙ c.requires.sized;
    }

pub keys-preserved : goal.keys-preserved
keys-preserved g c =
    let keys = c.args.keys.now in
    let two = two_or_more keys c.requires.keyed in
    let i = c.keys.i in
    let inv = c.keys.invariant in
    record {
      done = λ j lt. elim (cases_lt j i) [
        | inl low ↦ key_kept g.W.Word.bits g.W.Word.BLOCKS c.keys.words
            c.store_in_every_slot-in-keys.new.words (8 * i) (8 * j) _
            c.store_in_every_slot-in-keys.ensures.others (inl (omega arith)) (inv.done j low)
        | inr ge ↦
            let same : i ≡ j = omega arith in
            put_at g.W.Word.bits g.W.Word.BLOCKS c.store_in_every_slot-in-keys.new.words (8 * i)
            (8 * j) _ _ (omega (arith, same))
            c.store_in_every_slot-in-keys.ensures.there
            (c.block_for_planes.ensures
            ∙ inner_wanted keys two i c.keys.auto.i c.keys-test.true
            (c.told-keys i (omega (arith, c.keys-test.true)))
            ∙ ap (wanted keys two) same)
      ];
      same_length = c.store_in_every_slot-in-keys.ensures.same_length ∙ inv.same_length;
    }

pub returns-clause-is_schedule : goal.returns-clause-is_schedule
returns-clause-is_schedule g c =
    let n : ℕ = g.W.Word.BLOCKS in
    let keys = c.args.keys.now in
    let two = two_or_more keys c.requires.keyed in
    planes_keyed g.W.Word.bits n g.met.W.Word.shape.some_block _ keys c.requires.keyed
    (c.store_in_every_slot-2.ensures.same_length ∙ c.keys.invariant.same_length)
    (all_put g.W.Word.bits n keys two c.keys.words c.store_in_every_slot-2.new.words
    (λ j low. c.keys.invariant.done j (omega (arith, low, c.keys-test.false)))
    c.store_in_every_slot-2.ensures.others c.store_in_every_slot-2.ensures.there)

pub returns-clause-key : goal.returns-clause-key
returns-clause-key g c =
    let n : ℕ = g.W.Word.BLOCKS in
    let keys = c.args.keys.now in
    let two = two_or_more keys c.requires.keyed in
    planes_key g.W.Word.bits n g.met.W.Word.shape.some_block _ keys c.requires.keyed
    (c.store_in_every_slot-2.ensures.same_length ∙ c.keys.invariant.same_length)
    (all_put g.W.Word.bits n keys two c.keys.words c.store_in_every_slot-2.new.words
    (λ j low. c.keys.invariant.done j (omega (arith, low, c.keys-test.false)))
    c.store_in_every_slot-2.ensures.others c.store_in_every_slot-2.ensures.there)
