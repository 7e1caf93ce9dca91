use Rattle.std.proofs.Common.{◌∙◌, ◌*◌, ap, sym, map}
use Rattle.aes_planes.specs.Planes.{held}
use Rattle.aes_planes.proofs.Planes.EightWords.{words_at-map}
use Rattle.aes_soft.proofs.soft.plane_words.PlaneWordsFourWords.read_back.Goals as goal

pub returns : goal.returns
returns g c = λ x there kept.
    ap (λ v. held g.W.Word.BLOCKS (map g.W.Word.bits v)) c.round_key.ensures
    ∙ ap (held g.W.Word.BLOCKS)
    (sym (words_at-map g.W.Word.bits c.args.stored.now (8 * c.args.i))) ∙ there
