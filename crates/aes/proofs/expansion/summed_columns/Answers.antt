-- Four sums of words, one after another, are the sums of the columns up to each.
use Rattle.aes.proofs.BlockExpansion.{summed_words_are}
use Rattle.aes.proofs.expansion.summed_columns.Goals as goal

pub returns : goal.returns
returns c = summed_words_are c.args.before c.args.start _ _ _ _ c.add_words-a.ensures
    c.add_words-b.ensures
    c.add_words-c.ensures c.add_words-d.ensures
