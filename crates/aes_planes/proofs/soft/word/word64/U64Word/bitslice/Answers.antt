use Rattle.std.proofs.Common.{◌+◌, ◌*◌, ◌/◌, ◌%◌, [], ◌∷◌, get_or, refl, arith, rules}
use Rattle.aes_planes.specs.Words.{word_bits}
use Rattle.aes_planes.proofs.Bits.ByteCases.{by_eight}
use Rattle.aes_planes.proofs.Words.Packing.{packed}
use Rattle.aes_planes.proofs.soft.word.word64.U64Word.bitslice.Goals as goal

pub returns : goal.returns
returns c =
    let blocks = c.get.result ∷ c.get-2.result ∷ c.get-3.result ∷ c.get-4.result ∷ [] in
    let words =
    get_or c.columns_apart.result 0 0 ∷ get_or c.columns_apart-2.result 0 0
    ∷ get_or c.columns_apart-3.result 0 0
    ∷ get_or c.columns_apart-4.result 0 0 ∷ get_or c.columns_apart.result 1 0
    ∷ get_or c.columns_apart-2.result 1 0
    ∷ get_or c.columns_apart-3.result 1 0 ∷ get_or c.columns_apart-4.result 1 0 ∷ [] in
    packed (word_bits 64) 4 (λ j t. t % 4) (λ j t. 2 * j + t / 4)
    (λ r q k hr hq hk. (omega arith, omega arith))
    c.transpose.result words blocks c.args.input.now (search rules) refl c.get.ensures.sized
    (search rules) c.transpose.ensures
    (by_eight _ (c.columns_apart.ensures 0 (omega arith))
    (c.columns_apart-2.ensures 0 (omega arith))
    (c.columns_apart-3.ensures 0 (omega arith)) (c.columns_apart-4.ensures 0 (omega arith))
    (c.columns_apart.ensures 1 (omega arith)) (c.columns_apart-2.ensures 1 (omega arith))
    (c.columns_apart-3.ensures 1 (omega arith)) (c.columns_apart-4.ensures 1 (omega arith)))
