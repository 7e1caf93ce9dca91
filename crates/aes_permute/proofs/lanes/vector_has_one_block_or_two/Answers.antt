use Rattle.std.proofs.Common.{inl, inr, arith}
use Rattle.std.proofs.lemmas.Bool.{cases_lt}
use Rattle.aes_permute.proofs.lanes.vector_has_one_block_or_two.Goals as goal

pub returns : goal.returns
returns g c = elim (cases_lt g.L.Lanes.BLOCKS 2) [
  | inl one ↦ inl (omega (arith, one, g.L.Lanes.at_least_one))
  | inr two ↦ inr (omega (arith, two, g.L.Lanes.at_most_two))
]
