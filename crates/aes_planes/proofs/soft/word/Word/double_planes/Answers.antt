use Rattle.std.proofs.Common.{map, ap, sym, ◌∙◌}
use Rattle.std.proofs.lemmas.List.{length-map}
use Rattle.aes_planes.specs.Bits.{at, number}
use Rattle.aes_planes.proofs.Bits.BitCases.{list_of_eight}
use Rattle.aes_planes.proofs.Bits.BytesByBits.{number-double, double_bits}
use Rattle.aes_planes.proofs.soft.word.Word.double_planes.Goals as goal

pub returns : goal.returns
returns g c = λ i h.
    let xs = c.args.x.now in
    let bits = g.Self.Word.bits in
    rw (c.bit_xor-plane1.ensures i h, c.bit_xor-plane3.ensures i h, c.bit_xor-plane4.ensures i h)
    (ap (λ ys. number (double_bits (map (λ w. at w i) (map bits ys))))
    (sym (list_of_eight xs _ _ _ _ _ _ _ _ c.told-x))
    ∙ number-double (map (λ w. at w i) (map bits xs)) (simp length-map c.told-x))
