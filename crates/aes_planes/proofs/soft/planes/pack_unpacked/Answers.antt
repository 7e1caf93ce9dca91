use Rattle.std.proofs.Common.{map, ◌∙◌, arith}
use Rattle.std.proofs.lemmas.List.{length-map}
use Rattle.aes_planes.proofs.Planes.Packed.{same_planes, lengths_of_words}
use Rattle.aes_planes.proofs.soft.planes.pack_unpacked.Goals as goal

pub returns : goal.returns
returns g c =
    let w = g.W.Word in
    let m = g.met.W.Word.shape in
    let made = c.bitslice.new.output in
    let planes = c.args.planes.now in
    same_planes w.BLOCKS (map w.bits made) (map w.bits planes)
    (length-map made w.bits ∙ c.planes_are_eight.ensures) (length-map planes w.bits ∙ c.told-planes)
    (λ p hp. (
      lengths_of_words w.bits w.BITS m.sized made p
          (omega (arith, hp, c.planes_are_eight.ensures)) ∙ m.sixteen,
      lengths_of_words w.bits w.BITS m.sized planes p
          (omega (arith, hp, c.told-planes)) ∙ m.sixteen,
    ))
    (c.bitslice.ensures ∙ c.inv_bitslice.ensures)
