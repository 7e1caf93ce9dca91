use Rattle.std.proofs.Common.{ℕ, ◌+◌, ◌*◌, ◌/◌, ◌%◌, [], ◌∷◌, get_or, map, refl, ◌∙◌, arith, rules}
use Rattle.std.proofs.lemmas.List.{length-map}
use Rattle.aes_planes.specs.Words.{wide_bits}
use Rattle.aes_planes.proofs.Bits.ByteCases.{by_eight}
use Rattle.aes_planes.proofs.Words.Packing.{unpacked, by_turns}
use Rattle.aes_planes.proofs.soft.word.word256.U8x32Word.inv_bitslice.Goals as goal

pub returns : goal.returns
returns c =
    let blocks = c.low_block.result ∷ c.low_block-2.result ∷ c.low_block-3.result
    ∷ c.low_block-4.result
    ∷ c.low_block-5.result ∷ c.low_block-6.result ∷ c.low_block-7.result ∷ c.low_block-8.result
    ∷ c.high_block.result
    ∷ c.high_block-2.result ∷ c.high_block-3.result ∷ c.high_block-4.result ∷ c.high_block-5.result
    ∷ c.high_block-6.result ∷ c.high_block-7.result ∷ c.high_block-8.result ∷ [] in
    let word = λ (t : ℕ). wide_bits (get_or c.transpose.result t []) in
    unpacked wide_bits 16 (λ j t. 8 * (j % 2) + t) (λ j t. j / 2)
    (λ r q k hr hq hk. (omega arith, omega arith))
    (map wide_bits c.args.input.now) c.transpose.result [] blocks
    (length-map c.args.input.now wide_bits ∙ search rules)
    (search rules) refl (search rules) c.transpose.ensures
    (by_eight _
    (by_turns blocks (word 0) 0 c.low_block.ensures.bits c.high_block.ensures.bits)
    (by_turns blocks (word 1) 1 c.low_block-2.ensures.bits c.high_block-2.ensures.bits)
    (by_turns blocks (word 2) 2 c.low_block-3.ensures.bits c.high_block-3.ensures.bits)
    (by_turns blocks (word 3) 3 c.low_block-4.ensures.bits c.high_block-4.ensures.bits)
    (by_turns blocks (word 4) 4 c.low_block-5.ensures.bits c.high_block-5.ensures.bits)
    (by_turns blocks (word 5) 5 c.low_block-6.ensures.bits c.high_block-6.ensures.bits)
    (by_turns blocks (word 6) 6 c.low_block-7.ensures.bits c.high_block-7.ensures.bits)
    (by_turns blocks (word 7) 7 c.low_block-8.ensures.bits c.high_block-8.ensures.bits))
