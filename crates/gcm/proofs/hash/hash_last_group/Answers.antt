-- The last bytes by how many there are: none, or one, two or three blocks with zeros behind them.
use Rattle.std.proofs.Common.{◌≡◌, ℕ, ◌+◌, ◌*◌, ◌∙◌, List, ap, refl, arith, length}
use Rattle.std.specs.Int.{w128, from_be_bytes}
use Rattle.std.specs.List.{slice_range}
use Rattle.gcm.specs.Gcm.{product}
use Rattle.gcm.proofs.Messages.Hashing.{hashed_next, hashed_as_whole, one_left, two_left}
use Rattle.gcm.proofs.hash.hash_last_group.Goals as goal

pub returns-then-left-eq0 : goal.returns-then-left-eq0
returns-then-left-eq0 g c y is =
    let number = g.O.ByteOrder.number in
    hashed_as_whole number c.args.multiples.now y (from_be_bytes w128 c.args.before)
    c.args.i c.args.bytes.now is
    (omega (arith, c.if-left-eq0.true)) (omega (arith, c.if-left-eq0.true))

pub returns-then-left-le16 : goal.returns-then-left-le16
returns-then-left-le16 g c y is =
    c.block_product.ensures
    ∙ one_left g.O.ByteOrder.number c.args.multiples.now y _ c.args.i _ _ c.args.bytes.now _ is
    (omega (arith, c.if-left-le16.true)) (omega (arith, c.if-left-eq0.false))
    refl c.last_block.ensures c.sum.ensures

pub returns-then-left-le32 : goal.returns-then-left-le32
returns-then-left-le32 g c y is =
    c.two_products.ensures
    ∙ two_left g.O.ByteOrder.number c.args.multiples.now y _ c.args.i _ _ _ c.args.bytes.now _ is
    (omega (arith, c.if-left-le32.true)) (omega (arith, c.if-left-le16.false))
    refl c.last_block-last.ensures c.block_at.ensures c.sum-first.ensures

pub returns : goal.returns
returns g c y is =
    let number = g.O.ByteOrder.number in
    let h : ℕ = c.args.multiples.now in
    let x : List ℕ = c.args.bytes.now in
    let i : ℕ = c.args.i in
    let more : 16 * i + 32 ≡ 16 * (i + 1) + 16 = omega arith in
    let first = hashed_next number h y x i _ _ _ (ap (λ v. product v h) c.sum-first.ensures) is
    c.block_at.ensures in
    c.three_products.ensures
    ∙ two_left number h y _ (i + 1) _ _ _ x _ first
    (omega (arith, c.requires.few)) (omega (arith, c.if-left-le32.false))
    (ap (λ a. slice_range x a (length x)) more) c.last_block-last-2.ensures c.block_at-2.ensures refl
