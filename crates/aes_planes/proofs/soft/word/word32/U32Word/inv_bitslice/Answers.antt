use Rattle.std.proofs.Common.{◌+◌, ◌*◌, ◌/◌, ◌%◌, [], ◌∷◌, map, refl, ◌∙◌, arith, rules}
use Rattle.std.proofs.lemmas.List.{length-map}
use Rattle.aes_planes.specs.Words.{word_bits}
use Rattle.aes_planes.proofs.Bits.ByteCases.{by_eight}
use Rattle.aes_planes.proofs.Words.Packing.{unpacked}
use Rattle.aes_planes.proofs.soft.word.word32.U32Word.inv_bitslice.Goals as goal

pub returns : goal.returns
returns c =
    let b0 = c.block_of-b0 in
    let b1 = c.block_of-b1 in
    unpacked (word_bits 32) 2 (λ j t. t % 2) (λ j t. 4 * j + t / 2)
    (λ r q k hr hq hk. (omega arith, omega arith))
    (map (word_bits 32) c.args.input.now) c.transpose.result 0 (b0.result ∷ b1.result ∷ [])
    (length-map c.args.input.now (word_bits 32) ∙ search rules) (search rules) refl
    (search rules) c.transpose.ensures
    (by_eight _ (b0.ensures 0 (omega arith)) (b1.ensures 0 (omega arith))
    (b0.ensures 1 (omega arith))
    (b1.ensures 1 (omega arith))
    (b0.ensures 2 (omega arith)) (b1.ensures 2 (omega arith)) (b0.ensures 3 (omega arith))
    (b1.ensures 3 (omega arith)))
