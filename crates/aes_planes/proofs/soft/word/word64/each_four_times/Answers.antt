use Rattle.aes_planes.proofs.Words.Spread.{each_four_times}
use Rattle.aes_planes.proofs.soft.word.word64.each_four_times.Goals as goal

pub returns : goal.returns
returns c = each_four_times c.args.x _ _ _ _ _ _ c.requires.sixteen_bits
    c.drawn_apart-eights.ensures
    c.drawn_apart-fours.ensures c.drawn_apart-twos.ensures
    c.drawn_apart-ones.ensures c.drawn_apart-twice.ensures c.drawn_apart.ensures
