-- Of the round keys between, for keys of 32 bytes: their first word is substituted alone.
use Rattle.aes.proofs.BlockExpansion.{substituted_is}
use Rattle.aes.proofs.expansion.BlockKeysFourWords.substituted.Goals as goal

pub returns-clause-words : goal.returns-clause-words
returns-clause-words c = λ x y hx hy. substituted_is x y _ c.args.before c.args.last hx hy _
    c.summed_columns.ensures c.substituted_word-word.ensures
