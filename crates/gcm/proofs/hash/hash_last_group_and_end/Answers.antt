-- The last bytes by how many there are, and the closing block behind them.
use Rattle.std.proofs.Common.{ℕ, ◌∙◌, ap, refl, arith, bit_xor}
use Rattle.std.specs.Int.{w128, from_be_bytes}
use Rattle.gcm.specs.Gcm.{product}
use Rattle.gcm.proofs.Messages.Hashing.{hashed_as_whole, one_left, two_left}
use Rattle.gcm.proofs.hash.hash_last_group_and_end.Goals as goal

pub returns-then-left-eq0 : goal.returns-then-left-eq0
returns-then-left-eq0 g c y is =
    let number = g.O.ByteOrder.number in
    let h : ℕ = c.args.multiples.now in
    let whole = hashed_as_whole number h y
    (from_be_bytes w128 c.args.before) c.args.i c.args.bytes.now is
    (omega (arith, c.if-left-eq0.true)) (omega (arith, c.if-left-eq0.true)) in
    c.block_product.ensures
    ∙ ap (λ v. product v h)
    (c.sum.ensures ∙ ap (λ v. bit_xor v (from_be_bytes w128 c.args.end)) whole)

pub returns-then-left-le16 : goal.returns-then-left-le16
returns-then-left-le16 g c y is =
    let h : ℕ = c.args.multiples.now in
    c.two_products.ensures
    ∙ ap (λ v. product (bit_xor v (from_be_bytes w128 c.args.end)) h)
    (one_left g.O.ByteOrder.number h y _ c.args.i _ _ c.args.bytes.now _ is
    (omega (arith, c.if-left-le16.true)) (omega (arith, c.if-left-eq0.false))
    refl c.last_block.ensures c.sum-last.ensures)

pub returns-then-left-le32 : goal.returns-then-left-le32
returns-then-left-le32 g c y is =
    let h : ℕ = c.args.multiples.now in
    c.three_products.ensures
    ∙ ap (λ v. product (bit_xor v (from_be_bytes w128 c.args.end)) h)
    (two_left g.O.ByteOrder.number h y _ c.args.i _ _ _ c.args.bytes.now _ is
    (omega (arith, c.if-left-le32.true)) (omega (arith, c.if-left-le16.false))
    refl c.last_block-last.ensures c.block_at.ensures c.sum-first.ensures)

pub returns : goal.returns
returns g c y is =
    let number = g.O.ByteOrder.number in
    let h : ℕ = c.args.multiples.now in
    let e : ℕ = from_be_bytes w128 c.args.end in
    c.block_product-2.ensures
    ∙ ap (λ v. product v h) (c.sum-2.ensures
    ∙ ap (λ v. bit_xor v e) (c.hash_last_group-value.ensures y is))
