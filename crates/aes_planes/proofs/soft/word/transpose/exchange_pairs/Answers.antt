-- Each of the eight words is the low or the high one that an exchange of two leaves, whose contract
-- says which bits it has.
use Rattle.std.proofs.Common.{◌≡◌, ℕ, ◌+◌, ◌-◌, ◌*◌, ◌&&◌, nat_le, [], ◌∷◌, get_or, map, ap, sym}
use Rattle.std.proofs.Common.{◌∙◌, rules}
use Rattle.aes_planes.specs.Bits.{at, bit}
use Rattle.aes_planes.specs.Private.Packing.{source_word, source_bit}
use Rattle.aes_planes.proofs.Bits.ByteCases.{by_eight}
use Rattle.aes_planes.proofs.Bits.BitCases.{list_of_eight}
use Rattle.aes_planes.proofs.Words.Transpose.{choice}
use Rattle.aes_planes.proofs.soft.word.transpose.exchange_pairs.Goals as goal

pub returns : goal.returns
returns g c w j r hw hj hr =
    let bits = g.L.ByteLanes.bits in
    let s = c.args.shift in
    let m = c.args.mask in
    let told =
    list_of_eight c.args.words c.index-words-0.result c.index-words-1.result c.index-words-2.result
    c.index-words-3.result
    c.index-words-4.result c.index-words-5.result c.index-words-6.result c.index-words-7.result
    (search rules) in
    let words = map bits (told 1) in
    let x0 = c.exchange-low0 in
    let x1 = c.exchange-low1 in
    let x2 = c.exchange-low2 in
    let x3 = c.exchange-low3 in
    let made = x0.result.0 ∷ x1.result.0 ∷ x2.result.0 ∷ x3.result.0 ∷ x0.result.1 ∷ x1.result.1
    ∷ x2.result.1
    ∷ x3.result.1 ∷ [] in
    let low = nat_le s r && bit m (r - s) in
    let high = bit m r in
    let from = λ (w : ℕ). at (get_or words (source_word s m w r) []) (8 * j + source_bit s m w r) in
    by_eight (λ w. at (get_or (map bits made) w []) (8 * j + r) ≡ from w)
    (x0.ensures.low j r hj hr ∙ choice words j low 1 0 (r - s) r)
    (x1.ensures.low j r hj hr ∙ choice words j low 3 2 (r - s) r)
    (x2.ensures.low j r hj hr ∙ choice words j low 5 4 (r - s) r)
    (x3.ensures.low j r hj hr ∙ choice words j low 7 6 (r - s) r)
    (x0.ensures.high j r hj hr ∙ choice words j high 0 1 (r + s) r)
    (x1.ensures.high j r hj hr ∙ choice words j high 2 3 (r + s) r)
    (x2.ensures.high j r hj hr ∙ choice words j high 4 5 (r + s) r)
    (x3.ensures.high j r hj hr ∙ choice words j high 6 7 (r + s) r) w hw
    ∙ ap (λ xs. at (get_or (map bits xs) (source_word s m w r) [])
    (8 * j + source_bit s m w r)) (sym told)
