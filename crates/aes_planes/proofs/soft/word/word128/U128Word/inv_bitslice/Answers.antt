use Rattle.std.proofs.Common.{[], ◌∷◌, map, refl, ap, sym, ◌∙◌, arith, rules}
use Rattle.aes_planes.specs.Planes.{held}
use Rattle.aes_planes.specs.Words.{word_bits, lane_bits}
use Rattle.aes_planes.proofs.Bits.BitCases.{list_of_eight}
use Rattle.aes_planes.proofs.Bits.ByteCases.{by_eight}
use Rattle.aes_planes.proofs.Words.Packing.{unpacked}
use Rattle.aes_planes.proofs.soft.word.word128.U128Word.inv_bitslice.Goals as goal

pub returns : goal.returns
returns c =
    let blocks = c.by_columns.result ∷ c.by_columns-2.result ∷ c.by_columns-3.result
    ∷ c.by_columns-4.result
    ∷ c.by_columns-5.result ∷ c.by_columns-6.result ∷ c.by_columns-7.result
    ∷ c.by_columns-8.result ∷ [] in
    unpacked lane_bits 8 (λ j t. t) (λ j t. j)
    (λ r q k hr hq hk. (omega arith, omega arith)) _ c.transpose.result [] blocks refl
    (search rules) refl
    (search rules) c.transpose.ensures
    (by_eight _ c.by_columns.ensures.bits c.by_columns-2.ensures.bits c.by_columns-3.ensures.bits
    c.by_columns-4.ensures.bits
    c.by_columns-5.ensures.bits c.by_columns-6.ensures.bits c.by_columns-7.ensures.bits
    c.by_columns-8.ensures.bits)
    ∙ (λ t. held 8 (c.lanes.ensures t ∷ c.lanes-2.ensures t ∷ c.lanes-3.ensures t
    ∷ c.lanes-4.ensures t
    ∷ c.lanes-5.ensures t
    ∷ c.lanes-6.ensures t ∷ c.lanes-7.ensures t ∷ c.lanes-8.ensures t ∷ []))
    ∙ sym (ap (λ ys. held 8 (map (word_bits 128) ys))
    (list_of_eight c.args.input.now 0 0 0 0 0 0 0 0 (search rules)))
