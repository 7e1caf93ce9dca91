-- The upper half comes from the product of the words with their bits reversed.
use Rattle.std.proofs.Common.{◌≡◌, ℕ, ◌*◌, ◌/◌, ◌%◌, ◌^◌, ◌∙◌, ap, arith, bit_xor}
use Rattle.gcm.specs.Carryless.{carryless}
use Rattle.gcm.proofs.WithoutCarries.Mirrored.{both_halves}
use Rattle.gcm.proofs.holes.product_of_words.Goals as goal

pub returns : goal.returns
returns c =
    let l : ℕ = c.lower_product-lower.result in
    let m : ℕ = c.lower_product-mirrored.result in
    let u : ℕ = c.reverse_bits-upper.result in
    let fits : u / 2 * 2 ^ 32 % 2 ^ 64 ≡ u / 2 * 2 ^ 32 = omega arith in
    (λ t. bit_xor (fits t) l)
    ∙ ap (λ z. bit_xor (z / 2 * 2 ^ 32) l) c.reverse_bits-upper.ensures
    ∙ both_halves c.args.x c.args.y l m (omega arith) (omega arith) c.lower_product-lower.ensures
    (c.lower_product-mirrored.ensures
    ∙ (λ t. carryless 32 (c.reverse_bits.ensures t) (c.reverse_bits-2.ensures t) % 2 ^ 32))
