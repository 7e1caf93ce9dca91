-- Before each turn of the loop the last four words are those of the last round key that is stored,
-- and the turn stores the next one.
use Rattle.std.proofs.Common.{◌+◌, ◌*◌, refl, ◌∙◌, arith}
use Rattle.aes_planes.proofs.KeySchedule.Forms.{form, loaded, none_stored, one_more_stored}
use Rattle.aes_planes.proofs.KeySchedule.Forms.{layers_counted, all_stored, rotated}
use Rattle.aes_planes.proofs.expansion.expand_128.Goals as goal

pub expand-init : goal.expand-init
expand-init g c =
    let s = form g.F.FourWords.AreWords c.args.key.now 4 (omega arith) c.requires.sized in
    let words = loaded s _ 0 0 c.load-words.ensures refl (omega arith) in
    record {
      done = one_more_stored s 1 (none_stored s (g.F.FourWords.IsStored c.args.stored.now 10))
          (omega arith) c.store.ensures.others
          (c.store.ensures.there _ words) refl refl;
      last_four = words;
      layers = omega arith;
      same_length = c.store.ensures.same_length ∙ c.requires.room;
    }

pub expand-preserved : goal.expand-preserved
expand-preserved g c =
    let i = c.expand.i in
    let inv = c.expand.invariant in
    let s = form g.F.FourWords.AreWords c.args.key.now 4 (omega arith) c.requires.sized in
    let before = c.read_back-before.ensures _ (inv.done i (omega arith)) inv.last_four in
    let words = rotated s _ i (4 * i) (4 * i) (4 * (i + 1))
    (c.rotated-words.ensures.words _ _ before inv.last_four) (omega arith) (omega arith)
    (omega arith) (omega arith) in
    record {
      done = one_more_stored s (i + 1 + 1) inv.done (omega arith) c.store-in-expand.ensures.others
          (c.store-in-expand.ensures.there _ words) refl (omega arith);
      last_four = words;
      layers = layers_counted _ _ _ i _ inv.layers c.rotated-words.ensures.layers;
      same_length = c.store-in-expand.ensures.same_length ∙ inv.same_length;
    }

pub returns-clause-keys : goal.returns-clause-keys
returns-clause-keys g c =
    all_stored (form g.F.FourWords.AreWords c.args.key.now 4 (omega arith) c.requires.sized)
    (g.F.FourWords.IsStored c.expand.stored 10) _ 10 c.expand.invariant.done (omega arith)
    (omega arith)
