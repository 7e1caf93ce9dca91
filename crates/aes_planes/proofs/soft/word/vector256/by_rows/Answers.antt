use Rattle.std.proofs.Common.{rules, ◌∙◌}
use Rattle.aes_planes.proofs.Words.Wide.{joined_low, joined_high}
use Rattle.aes_planes.proofs.soft.word.vector256.by_rows.Goals as goal

pub returns-clause-low : goal.returns-clause-low
returns-clause-low c j p h hp = c.by_rows.ensures j p h hp
    ∙ joined_low c.by_rows.result c.by_rows-2.result j p (search rules) h hp

pub returns-clause-high : goal.returns-clause-high
returns-clause-high c j p h hp = c.by_rows-2.ensures j p h hp
    ∙ joined_high c.by_rows.result c.by_rows-2.result j p (search rules) h hp
