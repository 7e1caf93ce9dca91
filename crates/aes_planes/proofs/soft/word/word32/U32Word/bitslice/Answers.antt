use Rattle.std.proofs.Common.{◌+◌, ◌*◌, ◌/◌, ◌%◌, [], ◌∷◌, refl, arith, rules}
use Rattle.aes_planes.specs.Words.{word_bits}
use Rattle.aes_planes.proofs.Bits.ByteCases.{by_eight}
use Rattle.aes_planes.proofs.Words.Packing.{packed}
use Rattle.aes_planes.proofs.soft.word.word32.U32Word.bitslice.Goals as goal

pub returns : goal.returns
returns c =
    let words = c.column_of-w0.result ∷ c.column_of-w1.result ∷ c.column_of-w2.result
    ∷ c.column_of-w3.result
    ∷ c.column_of-w4.result ∷ c.column_of-w5.result ∷ c.column_of-w6.result
    ∷ c.column_of-w7.result ∷ [] in
    packed (word_bits 32) 2 (λ j t. t % 2) (λ j t. 4 * j + t / 2)
    (λ r q k hr hq hk. (omega arith, omega arith))
    c.transpose.result words (c.get-b0.result ∷ c.get-b1.result ∷ []) c.args.input.now
    (search rules) refl c.get-b0.ensures.sized
    (search rules) c.transpose.ensures (by_eight _ c.column_of-w0.ensures c.column_of-w1.ensures
    c.column_of-w2.ensures
    c.column_of-w3.ensures c.column_of-w4.ensures c.column_of-w5.ensures c.column_of-w6.ensures
    c.column_of-w7.ensures)
