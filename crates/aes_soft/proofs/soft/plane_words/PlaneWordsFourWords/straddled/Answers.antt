use Rattle.std.proofs.Common.{◌∙◌}
use Rattle.aes_planes.specs.Planes.{zip_with, columns_straddled}
use Rattle.aes_soft.proofs.Slots.{zip_with-replicates}
use Rattle.aes_soft.proofs.soft.plane_words.PlaneWordsFourWords.straddled.Goals as goal

pub returns : goal.returns
returns g c = λ x y hx hy.
    c.straddle_columns.ensures ∙ (λ t. zip_with columns_straddled (hx t) (hy t))
    ∙ zip_with-replicates columns_straddled g.W.Word.BLOCKS x y
