use Rattle.std.proofs.Common.{◌+◌, ◌*◌, ◌/◌, ◌%◌, [], ◌∷◌, map, refl, ◌∙◌, arith, rules}
use Rattle.std.proofs.lemmas.List.{length-map}
use Rattle.aes_planes.specs.Words.{word_bits}
use Rattle.aes_planes.proofs.Bits.ByteCases.{by_eight}
use Rattle.aes_planes.proofs.Words.Packing.{unpacked}
use Rattle.aes_planes.proofs.soft.word.word64.U64Word.inv_bitslice.Goals as goal

pub returns : goal.returns
returns c =
    let b0 = c.columns_together-b0 in
    let b1 = c.columns_together-b1 in
    let b2 = c.columns_together-b2 in
    let b3 = c.columns_together-b3 in
    unpacked (word_bits 64) 4 (λ j t. t % 4) (λ j t. 2 * j + t / 4)
    (λ r q k hr hq hk. (omega arith, omega arith))
    (map (word_bits 64) c.args.input.now) c.transpose.result 0
    (b0.result ∷ b1.result ∷ b2.result ∷ b3.result ∷ [])
    (length-map c.args.input.now (word_bits 64) ∙ search rules) (search rules) refl
    (b0.ensures.typed, (b1.ensures.typed, (b2.ensures.typed, (b3.ensures.typed, tt))))
    c.transpose.ensures
    (by_eight _ (b0.ensures.bits 0 (omega arith)) (b1.ensures.bits 0 (omega arith))
    (b2.ensures.bits 0 (omega arith))
    (b3.ensures.bits 0 (omega arith)) (b0.ensures.bits 1 (omega arith))
    (b1.ensures.bits 1 (omega arith))
    (b2.ensures.bits 1 (omega arith)) (b3.ensures.bits 1 (omega arith)))
