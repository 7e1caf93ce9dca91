use Rattle.std.proofs.Common.{[], ◌∷◌, map, refl, ap, sym, ◌∙◌, arith, rules}
use Rattle.aes_planes.specs.Words.{lane_bits}
use Rattle.aes_planes.specs.Planes.{held}
use Rattle.aes_planes.proofs.Bits.BitCases.{list_of_eight}
use Rattle.aes_planes.proofs.Bits.ByteCases.{by_eight}
use Rattle.aes_planes.proofs.Words.Packing.{packed}
use Rattle.aes_planes.proofs.soft.word.word128.U128Word.bitslice.Goals as goal

pub returns : goal.returns
returns c =
    let blocks = c.get.result ∷ c.get-2.result ∷ c.get-3.result ∷ c.get-4.result ∷ c.get-5.result
    ∷ c.get-6.result
    ∷ c.get-7.result ∷ c.get-8.result ∷ [] in
    let words = c.by_rows.result ∷ c.by_rows-2.result ∷ c.by_rows-3.result ∷ c.by_rows-4.result
    ∷ c.by_rows-5.result
    ∷ c.by_rows-6.result ∷ c.by_rows-7.result ∷ c.by_rows-8.result ∷ [] in
    let planes = c.transpose.result in
    (λ t. held 8 (c.word.ensures t ∷ c.word-2.ensures t ∷ c.word-3.ensures t ∷ c.word-4.ensures t
    ∷ c.word-5.ensures t
    ∷ c.word-6.ensures t ∷ c.word-7.ensures t ∷ c.word-8.ensures t ∷ []))
    ∙ ap (λ ys. held 8 (map lane_bits ys))
    (sym (list_of_eight planes [] [] [] [] [] [] [] [] (search rules)))
    ∙ packed lane_bits 8 (λ j t. t) (λ j t. j)
    (λ r q k hr hq hk. (omega arith, omega arith)) planes words blocks c.args.input.now
    (search rules) refl
    c.get.ensures.sized (search rules) c.transpose.ensures
    (by_eight _ c.by_rows.ensures c.by_rows-2.ensures c.by_rows-3.ensures c.by_rows-4.ensures
    c.by_rows-5.ensures
    c.by_rows-6.ensures c.by_rows-7.ensures c.by_rows-8.ensures)
