use Rattle.std.proofs.Common.{◌*◌, refl}
use Rattle.aes_soft.proofs.WordsInPlace.{held_at, key_kept, places_apart}
use Rattle.aes_soft.proofs.soft.plane_words.PlaneWordsFourWords.store.Goals as goal

pub returns-clause-there : goal.returns-clause-there
returns-clause-there g c = λ x h.
    held_at g.W.Word.bits g.W.Word.BLOCKS _ _ (8 * c.args.i)
    (8 * c.args.i) x refl c.store_round_key.ensures.there h

pub returns-clause-others : goal.returns-clause-others
returns-clause-others g c = λ j x le ne h.
    key_kept g.W.Word.bits g.W.Word.BLOCKS _ _ (8 * c.args.i) (8 * j) x
    c.store_round_key.ensures.others
    (places_apart c.args.i j ne) h
