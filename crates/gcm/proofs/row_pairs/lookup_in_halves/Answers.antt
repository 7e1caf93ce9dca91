-- A look-up in each half's own table.
use Rattle.std.proofs.Common.{ap, subst, ◌∙◌, w8, rules}
use Rattle.std.proofs.lemmas.Simd.{swz_l}
use Rattle.aes_permute.specs.Lookup.{AreIndices}
use Rattle.aes_permute.proofs.ByHalves.{looked_in_halves}
use Rattle.gcm.proofs.Tables.RowPairs.{indices_parts}
use Rattle.gcm.proofs.row_pairs.lookup_in_halves.Goals as goal

pub returns : goal.returns
returns c = λ p q p_long q_long is.
    let parts = indices_parts p q (subst AreIndices is c.requires) in
    ap (λ l. swz_l w8 16 l 0 c.args.places) c.joined.ensures
    ∙ ap (swz_l w8 16 _ 0) is
    ∙ looked_in_halves c.args.first c.args.second p q (search rules) p_long q_long parts.0 parts.1
