use Rattle.std.proofs.Common.{◌≡◌, ℕ, ◌<◌, List, [], ◌∷◌, get_or, ap, sym, ◌∙◌, arith}
use Rattle.std.proofs.lemmas.Simd.{get_or-replicate}
use Rattle.aes_planes.specs.Bits.{bit}
use Rattle.aes_planes.specs.Private.Packing.{row_byte}
use Rattle.aes_planes.proofs.Bits.ByteCases.{by_eight}
use Rattle.aes_planes.proofs.Words.LaneBits.{lane_at}
use Rattle.aes_planes.proofs.Words.Spread.{one_or_none}
use Rattle.aes_planes.proofs.soft.word.vector128.lanes_of_block.Goals as goal

pub returns-clause-lanes : goal.returns-clause-lanes
returns-clause-lanes c p j hp hj =
    let rows = c.by_rows-bytes.result in
    let xs : List (List ℕ) = c.lanes_with-x0.result ∷ c.lanes_with-x1.result
    ∷ c.lanes_with-x2.result
    ∷ c.lanes_with-x3.result ∷ c.lanes_with-x4.result ∷ c.lanes_with-x5.result
    ∷ c.lanes_with-x6.result
    ∷ c.lanes_with-x7.result ∷ [] in
    let has : (p : ℕ) → p < 8 → one_or_none (bit (get_or rows j 0) p)
    ≡ one_or_none (bit (row_byte c.args.block.now j) p) =
    λ p hp. ap one_or_none (sym (c.by_rows-bytes.ensures j p hj hp ∙ lane_at rows j p hj hp)) in
    by_eight (λ p. get_or (get_or xs p []) j 0 ≡ one_or_none (bit (row_byte c.args.block.now j) p))
    (c.lanes_with-x0.ensures j 0 hj (omega arith) (get_or-replicate 16 j 1 0 hj)
    ∙ has 0 (omega arith))
    (c.lanes_with-x1.ensures j 1 hj (omega arith) (get_or-replicate 16 j 2 0 hj)
    ∙ has 1 (omega arith))
    (c.lanes_with-x2.ensures j 2 hj (omega arith) (get_or-replicate 16 j 4 0 hj)
    ∙ has 2 (omega arith))
    (c.lanes_with-x3.ensures j 3 hj (omega arith) (get_or-replicate 16 j 8 0 hj)
    ∙ has 3 (omega arith))
    (c.lanes_with-x4.ensures j 4 hj (omega arith) (get_or-replicate 16 j 16 0 hj)
    ∙ has 4 (omega arith))
    (c.lanes_with-x5.ensures j 5 hj (omega arith) (get_or-replicate 16 j 32 0 hj)
    ∙ has 5 (omega arith))
    (c.lanes_with-x6.ensures j 6 hj (omega arith) (get_or-replicate 16 j 64 0 hj)
    ∙ has 6 (omega arith))
    (c.lanes_with-x7.ensures j 7 hj (omega arith) (get_or-replicate 16 j 128 0 hj)
    ∙ has 7 (omega arith)) p hp
