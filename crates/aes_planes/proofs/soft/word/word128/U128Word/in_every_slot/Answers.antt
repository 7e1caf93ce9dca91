use Rattle.std.proofs.Common.{[], ◌∷◌, get_or, map, ap, sym, ◌∙◌, arith, rules}
use Rattle.aes_planes.specs.Bits.{at}
use Rattle.aes_planes.specs.Planes.{held}
use Rattle.aes_planes.specs.Words.{lane_bits}
use Rattle.aes_planes.proofs.Bits.BitCases.{list_of_eight}
use Rattle.aes_planes.proofs.Words.Spread.{held_in_every_slot}
use Rattle.aes_planes.proofs.soft.word.word128.U128Word.in_every_slot.Goals as goal

pub returns : goal.returns
returns c =
    let xs = c.lanes_of_block.result in
    (λ t. held 8 (c.word.ensures t ∷ c.word-2.ensures t ∷ c.word-3.ensures t ∷ c.word-4.ensures t
    ∷ c.word-5.ensures t
    ∷ c.word-6.ensures t ∷ c.word-7.ensures t ∷ c.word-8.ensures t ∷ []))
    ∙ ap (λ ys. held 8 (map lane_bits ys)) (sym (list_of_eight xs [] [] [] [] [] [] [] [] (search rules)))
    ∙ held_in_every_slot lane_bits 8 xs [] c.args.block.now xs
    (search rules) c.lanes_of_block.ensures.typed
    c.lanes_of_block.ensures.lanes
    (λ p r q k hp hr hq hk. ap (at (lane_bits (get_or xs p []))) (omega arith))
