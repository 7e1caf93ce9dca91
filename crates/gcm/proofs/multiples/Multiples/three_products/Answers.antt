-- The rows of three products, summed before they are shifted, are those of the sum.
use Rattle.std.proofs.Common.{ℕ, ◌∙◌, bit_xor}
use Rattle.std.specs.Int.{w128, from_be_bytes}
use Rattle.gcm.specs.Multiples.{row_number, rows_after}
use Rattle.gcm.proofs.Tables.Rows.{rows_three}
use Rattle.gcm.proofs.multiples.Multiples.three_products.Goals as goal

pub returns : goal.returns
returns c =
    let x : ℕ = from_be_bytes w128 c.args.x in
    let y : ℕ = from_be_bytes w128 c.args.y in
    let z : ℕ = from_be_bytes w128 c.args.z in
    let of = c.tables-one.ensures in
    c.shifted_sum.ensures
    ∙ (λ t. rows_after (λ r. bit_xor (bit_xor (row_number (of.three t) x r) (row_number (of.two t) y r))
    (row_number (of.one t) z r)) 16)
    ∙ rows_three c.args.self.now x y z of.small
