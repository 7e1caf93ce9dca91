-- Twelve words a turn, which are three round keys: the first of them straddles two steps of six
-- words.
use Rattle.std.proofs.Common.{◌+◌, ◌*◌, refl, ◌∙◌, arith}
use Rattle.aes_planes.proofs.KeySchedule.Forms.{form, loaded, none_stored, one_more_stored}
use Rattle.aes_planes.proofs.KeySchedule.Forms.{layers_counted_twice, all_stored, rotated}
use Rattle.aes_planes.proofs.KeySchedule.Forms.{plain, straddled}
use Rattle.aes_planes.proofs.expansion.expand_192.Goals as goal

pub expand-init : goal.expand-init
expand-init g c =
    let s = form g.F.FourWords.AreWords c.args.key.now 6 (omega arith) c.requires.sized in
    let front = loaded s _ 0 0 c.load-front.ensures refl (omega arith) in
    record {
      done = one_more_stored s 1 (none_stored s (g.F.FourWords.IsStored c.args.stored.now 12))
          (omega arith) c.store.ensures.others
          (c.store.ensures.there _ front) refl refl;
      first_four = front;
      last_four = loaded s _ 2 8 c.load-back.ensures refl (omega arith);
      layers = omega arith;
      same_length = c.store.ensures.same_length ∙ c.requires.room;
    }

pub expand-preserved : goal.expand-preserved
expand-preserved g c =
    let i = c.expand.i in
    let inv = c.expand.invariant in
    let s = form g.F.FourWords.AreWords c.args.key.now 6 (omega arith) c.requires.sized in
    let front1 = rotated s _ (2 * i) (12 * i) (12 * i + 2) (12 * i + 6)
    (c.rotated-front1.ensures.words _ _ inv.first_four inv.last_four) (omega arith)
    (omega arith) refl (omega arith) in
    let back1 = plain s _ (2 * i) (12 * i + 2) (12 * i + 6) (12 * i + 8)
    (c.plain-back1.ensures _ _ inv.last_four front1) refl (omega arith) (omega arith)
    (omega arith) in
    let middle = straddled s _ (12 * i + 2) (12 * i + 6) (12 * i + 4)
    (c.straddled-middle.ensures _ _ inv.last_four front1) (omega arith) (omega arith) in
    let front = rotated s _ (2 * i + 1) (12 * i + 6) (12 * i + 8) (12 * (i + 1))
    (c.rotated-front.ensures.words _ _ front1 back1) (omega arith) (omega arith) (omega arith)
    (omega arith) in
    let one_more = one_more_stored s (3 * i + 2) inv.done (omega arith)
    c.store-in-expand.ensures.others
    (c.store-in-expand.ensures.there _ middle) (omega arith) (omega arith) in
    let two_more = one_more_stored s (3 * i + 3) one_more (omega arith)
    c.store-in-expand-2.ensures.others
    (c.store-in-expand-2.ensures.there _ back1) (omega arith) (omega arith) in
    record {
      done = one_more_stored s (3 * (i + 1) + 1) two_more (omega arith)
          c.store-in-expand-3.ensures.others
          (c.store-in-expand-3.ensures.there _ front) (omega arith) (omega arith);
      first_four = front;
      last_four = plain s _ (2 * i + 1) (12 * i + 8) (12 * (i + 1)) (12 * (i + 1) + 2)
          (c.plain-back.ensures _ _ back1 front) refl (omega arith) (omega arith) (omega arith);
      layers = layers_counted_twice _ _ _ _ i _ inv.layers c.rotated-front1.ensures.layers
          c.rotated-front.ensures.layers;
      same_length = c.store-in-expand-3.ensures.same_length
          ∙ c.store-in-expand-2.ensures.same_length
          ∙ c.store-in-expand.ensures.same_length ∙ inv.same_length;
    }

pub returns-clause-keys : goal.returns-clause-keys
returns-clause-keys g c =
    all_stored (form g.F.FourWords.AreWords c.args.key.now 6 (omega arith) c.requires.sized)
    (g.F.FourWords.IsStored c.expand.stored 12) _ 12 c.expand.invariant.done (omega arith)
    (omega arith)
