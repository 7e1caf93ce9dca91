use Rattle.std.proofs.Common.{◌≡◌, ◌+◌, ◌*◌, ◌/◌, ◌%◌, [], ◌∷◌, get_or, ◌∙◌, arith}
use Rattle.aes_planes.specs.Bits.{bit}
use Rattle.aes_planes.proofs.Bits.ByteCases.{by_eight}
use Rattle.aes_planes.proofs.Words.PlaneLanes.{narrow_lane}
use Rattle.aes_planes.proofs.soft.word.planes16.lanes_of.Goals as goal

pub returns : goal.returns
returns c p i hp hi =
    let low = c.joined-low in
    let high = c.joined-high in
    narrow_lane low.result high.result p i (omega arith) (omega arith) hp hi
    ∙ by_eight (λ p. bit (get_or (low.result ∷ high.result ∷ []) (p / 4) 0) (16 * (p % 4) + i)
    ≡ bit (get_or c.args.words.now p 0) i)
    (low.ensures 0 i (omega arith) hi) (low.ensures 1 i (omega arith) hi)
    (low.ensures 2 i (omega arith) hi)
    (low.ensures 3 i (omega arith) hi) (high.ensures 0 i (omega arith) hi)
    (high.ensures 1 i (omega arith) hi)
    (high.ensures 2 i (omega arith) hi) (high.ensures 3 i (omega arith) hi) p hp
