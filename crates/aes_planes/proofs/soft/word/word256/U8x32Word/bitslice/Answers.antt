use Rattle.std.proofs.Common.{◌+◌, ◌*◌, ◌/◌, ◌%◌, [], ◌∷◌, refl, arith, rules}
use Rattle.aes_planes.specs.Words.{wide_bits}
use Rattle.aes_planes.proofs.Bits.ByteCases.{by_eight}
use Rattle.aes_planes.proofs.Words.Packing.{packed, by_turns}
use Rattle.aes_planes.proofs.soft.word.word256.U8x32Word.bitslice.Goals as goal

pub returns : goal.returns
returns c =
    let blocks = c.get.result ∷ c.get-3.result ∷ c.get-5.result ∷ c.get-7.result ∷ c.get-9.result
    ∷ c.get-11.result
    ∷ c.get-13.result ∷ c.get-15.result ∷ c.get-2.result ∷ c.get-4.result ∷ c.get-6.result
    ∷ c.get-8.result
    ∷ c.get-10.result ∷ c.get-12.result ∷ c.get-14.result ∷ c.get-16.result ∷ [] in
    let words = c.by_rows.result ∷ c.by_rows-2.result ∷ c.by_rows-3.result ∷ c.by_rows-4.result
    ∷ c.by_rows-5.result
    ∷ c.by_rows-6.result ∷ c.by_rows-7.result ∷ c.by_rows-8.result ∷ [] in
    packed wide_bits 16 (λ j t. 8 * (j % 2) + t) (λ j t. j / 2)
    (λ r q k hr hq hk. (omega arith, omega arith))
    c.transpose.result words blocks c.args.input.now (search rules) refl c.get.ensures.sized
    (search rules) c.transpose.ensures
    (by_eight _
    (by_turns blocks (wide_bits c.by_rows.result) 0 c.by_rows.ensures.low c.by_rows.ensures.high)
    (by_turns blocks (wide_bits c.by_rows-2.result) 1 c.by_rows-2.ensures.low
    c.by_rows-2.ensures.high)
    (by_turns blocks (wide_bits c.by_rows-3.result) 2 c.by_rows-3.ensures.low
    c.by_rows-3.ensures.high)
    (by_turns blocks (wide_bits c.by_rows-4.result) 3 c.by_rows-4.ensures.low
    c.by_rows-4.ensures.high)
    (by_turns blocks (wide_bits c.by_rows-5.result) 4 c.by_rows-5.ensures.low
    c.by_rows-5.ensures.high)
    (by_turns blocks (wide_bits c.by_rows-6.result) 5 c.by_rows-6.ensures.low
    c.by_rows-6.ensures.high)
    (by_turns blocks (wide_bits c.by_rows-7.result) 6 c.by_rows-7.ensures.low
    c.by_rows-7.ensures.high)
    (by_turns blocks (wide_bits c.by_rows-8.result) 7 c.by_rows-8.ensures.low
    c.by_rows-8.ensures.high))
