use Rattle.std.proofs.Common.{ap, subst, sym, bit_xor, map, ◌∙◌}
use lib.Lanes.{zip2}
use Rattle.aes_permute.specs.Lookup.{looked, AreIndices}
use Rattle.aes_permute.proofs.Lookups.{nibbles_are_indices, low_is, high_is, nibbles_looked_up}
use Rattle.aes_permute.proofs.lanes.looked_up_by_nibbles.Goals as goal

pub lookup-by_low-requires : goal.lookup-by_low-requires
lookup-by_low-requires g c = record {
  are_indices = λ i. subst AreIndices (sym (c.low_nibbles.ensures i))
      (nibbles_are_indices _ (low_is _ (c.blocks_have_16_bytes.ensures i)));
}

pub lookup-by_high-requires : goal.lookup-by_high-requires
lookup-by_high-requires g c = record {
  are_indices = λ i. subst AreIndices (sym (c.high_nibbles.ensures i))
      (nibbles_are_indices _ (high_is _ (c.blocks_have_16_bytes.ensures i)));
}

pub returns : goal.returns
returns g c i =
    c.sum.ensures i
    ∙ (λ t. zip2 bit_xor
    ((c.lookup-by_low.ensures i ∙ ap (map (looked c.args.low)) (c.low_nibbles.ensures i)) t)
    ((c.lookup-by_high.ensures i ∙ ap (map (looked c.args.high)) (c.high_nibbles.ensures i)) t))
    ∙ nibbles_looked_up c.args.low c.args.high (g.L.Lanes.block c.args.x i)
