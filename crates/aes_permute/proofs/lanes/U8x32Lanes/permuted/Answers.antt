use Rattle.std.proofs.Common.{rules, subst, sym, ap, ◌∙◌, w8}
use Rattle.std.proofs.lemmas.Simd.{swz_l, SwzOk}
use Rattle.aes_permute.specs.Vectors.{half}
use Rattle.aes_permute.proofs.ByHalves.{both_ok, permuted_of_half}
use Rattle.aes_permute.proofs.lanes.U8x32Lanes.permuted.Goals as goal

pub swizzle : goal.swizzle
swizzle c =
    subst (SwzOk w8 16 32 0) (sym c.twice.ensures)
    (both_ok c.args.places (search rules) c.requires.are_indices)

pub returns : goal.returns
returns c i =
    ap (λ l. half (swz_l w8 16 c.args.self 0 l) i) c.twice.ensures
    ∙ permuted_of_half c.args.self c.args.places i (search rules)
    (search rules) c.requires.are_indices
