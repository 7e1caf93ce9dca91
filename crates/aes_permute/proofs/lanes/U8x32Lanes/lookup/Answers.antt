use Rattle.std.proofs.Common.{rules, ap, ◌∙◌, w8}
use Rattle.std.proofs.lemmas.Simd.{swz_l}
use Rattle.aes_permute.specs.Vectors.{half}
use Rattle.aes_permute.proofs.ByHalves.{halves_ok, looked_of_half}
use Rattle.aes_permute.proofs.lanes.U8x32Lanes.lookup.Goals as goal

pub swizzle : goal.swizzle
swizzle c = halves_ok c.args.self (search rules) c.requires.are_indices

pub returns : goal.returns
returns c i =
    ap (λ l. half (swz_l w8 16 l 0 c.args.self) i) c.twice.ensures
    ∙ looked_of_half c.args.table c.args.self i (search rules) (search rules) c.requires.are_indices
