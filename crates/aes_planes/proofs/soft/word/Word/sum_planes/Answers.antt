use Rattle.std.proofs.Common.{Bool, List, [], ◌∷◌, map, refl, sym, ◌∙◌}
use Rattle.aes_planes.specs.Bits.{at}
use Rattle.aes_planes.specs.Fips197.{field_add}
use Rattle.aes_planes.specs.Planes.{held_byte}
use Rattle.aes_planes.proofs.Bits.BitCases.{list_of_eight}
use Rattle.aes_planes.proofs.Bits.ByteCases.{by_eight}
use Rattle.aes_planes.proofs.Bits.BytesByBits.{mapped_sum}
use Rattle.aes_planes.proofs.soft.word.Word.sum_planes.Goals as goal

pub returns : goal.returns
returns g c = λ i h.
    let bits = g.Self.Word.bits in
    let look = λ (w : List Bool). at w i in
    let x = list_of_eight c.args.x.now _ _ _ _ _ _ _ _ c.told-x in
    let y = list_of_eight c.args.y.now _ _ _ _ _ _ _ _ c.told-y in
    let sums = c.bit_xor-sum0.result ∷ c.bit_xor-sum1.result ∷ c.bit_xor-sum2.result
    ∷ c.bit_xor-sum3.result
    ∷ c.bit_xor-sum4.result ∷ c.bit_xor-sum5.result ∷ c.bit_xor-sum6.result
    ∷ c.bit_xor-sum7.result ∷ [] in
    mapped_sum look look look (map bits sums) (map bits (x 1))
    (map bits (y 1)) [] [] [] refl refl refl
    (by_eight _ (c.bit_xor-sum0.ensures i h) (c.bit_xor-sum1.ensures i h)
    (c.bit_xor-sum2.ensures i h)
    (c.bit_xor-sum3.ensures i h) (c.bit_xor-sum4.ensures i h) (c.bit_xor-sum5.ensures i h)
    (c.bit_xor-sum6.ensures i h) (c.bit_xor-sum7.ensures i h))
    ∙ (λ t. field_add (held_byte (map bits (sym x t)) i) (held_byte (map bits (sym y t)) i))
