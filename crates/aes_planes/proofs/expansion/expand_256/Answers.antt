-- Two round keys a turn, the first by a rotated word and the second by a substituted one; the last
-- one follows the loop.
use Rattle.std.proofs.Common.{◌≡◌, ◌+◌, ◌*◌, refl, ◌∙◌, subst, arith}
use Rattle.aes_planes.proofs.KeySchedule.Forms.{AreStored, form, loaded, none_stored, stored_at}
use Rattle.aes_planes.proofs.KeySchedule.Forms.{one_more_stored}
use Rattle.aes_planes.proofs.KeySchedule.Forms.{layers_counted_twice, all_stored, rotated}
use Rattle.aes_planes.proofs.KeySchedule.Forms.{substituted}
use Rattle.aes_planes.proofs.KeySchedule.ExpandedBlocks.{words_from}
use Rattle.aes_planes.proofs.expansion.expand_256.Goals as goal

pub expand-init : goal.expand-init
expand-init g c =
    let s = form g.F.FourWords.AreWords c.args.key.now 8 (omega arith) c.requires.sized in
    let even = loaded s _ 0 0 c.load-even.ensures refl (omega arith) in
    let odd = loaded s _ 4 16 c.load-odd.ensures refl (omega arith) in
    record {
      done = one_more_stored s 2
          (one_more_stored s 1 (none_stored s (g.F.FourWords.IsStored c.args.stored.now 14))
          (omega arith) c.store.ensures.others
          (c.store.ensures.there _ even) refl refl) (omega arith) c.store-2.ensures.others
          (c.store-2.ensures.there _ odd) refl
          refl;
      first_four = even;
      last_four = odd;
      layers = omega arith;
      same_length = c.store-2.ensures.same_length ∙ c.store.ensures.same_length ∙ c.requires.room;
    }

pub expand-preserved : goal.expand-preserved
expand-preserved g c =
    let i = c.expand.i in
    let inv = c.expand.invariant in
    let s = form g.F.FourWords.AreWords c.args.key.now 8 (omega arith) c.requires.sized in
    let even_before = c.read_back-even_before.ensures _
    (stored_at s (g.F.FourWords.IsStored c.expand.stored 14) _ (2 * i)
    (8 * i) inv.done (omega arith) (omega arith)) inv.first_four in
    let even = rotated s _ i (8 * i) (8 * i + 4) (8 * (i + 1))
    (c.rotated-even.ensures.words _ _ even_before inv.last_four) (omega arith) (omega arith)
    (omega arith)
    (omega arith) in
    let one_more = one_more_stored s (2 * i + 3) inv.done (omega arith)
    c.store-in-expand.ensures.others
    (c.store-in-expand.ensures.there _ even) (omega arith) (omega arith) in
    let odd_before = c.read_back-odd_before.ensures _
    (stored_at s (g.F.FourWords.IsStored c.store-in-expand.new.stored 14)
    (2 * i + 3) (2 * i + 1) (8 * i + 4) one_more (omega arith) (omega arith)) inv.last_four in
    let odd = substituted s _ i (8 * i + 4) (8 * (i + 1)) (8 * (i + 1) + 4)
    (c.substituted-odd.ensures.words _ _ odd_before even) refl (omega arith) (omega arith) refl in
    record {
      done = one_more_stored s (2 * (i + 1) + 2) one_more (omega arith)
          c.store-in-expand-2.ensures.others
          (c.store-in-expand-2.ensures.there _ odd) (omega arith) (omega arith);
      first_four = even;
      last_four = odd;
      layers = layers_counted_twice _ _ _ _ i _ inv.layers c.rotated-even.ensures.layers
          c.substituted-odd.ensures.layers;
      same_length = c.store-in-expand-2.ensures.same_length ∙ c.store-in-expand.ensures.same_length
          ∙ inv.same_length;
    }

pub returns-clause-keys : goal.returns-clause-keys
returns-clause-keys g c =
    let i = c.expand.i in
    let inv = c.expand.invariant in
    let six : i ≡ 6 = omega arith in
    let s = form g.F.FourWords.AreWords c.args.key.now 8 (omega arith) c.requires.sized in
    let done = subst (λ v. AreStored (g.F.FourWords.IsStored c.expand.stored 14) c.args.key.now
    (2 * v + 2)) six
    inv.done in
    let before = c.read_back-before.ensures _
    (stored_at s (g.F.FourWords.IsStored c.expand.stored 14) 14 12 48 done
    (omega arith) refl)
    (subst (λ v. g.F.FourWords.AreWords c.expand.even (words_from c.args.key.now (8 * v))) six
    inv.first_four) in
    let last = rotated s _ 6 48 52 56 (c.rotated-even-2.ensures.words _ _ before
    (subst (λ v. g.F.FourWords.AreWords c.expand.odd (words_from c.args.key.now (8 * v + 4))) six
    inv.last_four))
    (omega arith) refl refl refl in
    all_stored s (g.F.FourWords.IsStored c.store-3.new.stored 14) 15 14
    (one_more_stored s 15 done (omega arith) c.store-3.ensures.others
    (c.store-3.ensures.there _ last) refl refl) refl refl
