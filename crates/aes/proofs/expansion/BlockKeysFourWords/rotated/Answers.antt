-- Of a round key that begins a key's period: its first word is rotated, substituted and summed with
-- the round constant.
use Rattle.aes.proofs.BlockExpansion.{rotated_is}
use Rattle.aes.proofs.expansion.BlockKeysFourWords.rotated.Goals as goal

pub returns-clause-words : goal.returns-clause-words
returns-clause-words c =
    λ x y hx hy. rotated_is x y _ c.args.before c.args.last hx hy c.substituted_word-word.result _
    c.args.constant c.summed_columns.ensures c.add_words.ensures c.substituted_word-word.ensures
