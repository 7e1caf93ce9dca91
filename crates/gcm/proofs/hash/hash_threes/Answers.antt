-- Three blocks more: the sum of their products with H^3, H^2 and H is three steps of GHASH.
use Rattle.std.proofs.Common.{◌≡◌, ℕ, suc, ◌+◌, ◌*◌, ◌/◌, ◌∙◌, ap, arith, length, bit_xor, List}
use Rattle.std.proofs.Common.{refl}
use Rattle.std.specs.Int.{w128, from_be_bytes}
use Rattle.gcm.specs.Gcm.{product}
use Rattle.gcm.specs.Hashed.{hashed_as, number_at}
use Rattle.gcm.proofs.hash.hash_threes.Goals as goal

pub loop-i-init : goal.loop-i-init
unfolding hashed_as
loop-i-init g c = refl

pub loop-i-preserved : goal.loop-i-preserved
unfolding hashed_as
loop-i-preserved g c =
    let number = g.O.ByteOrder.number in
    let h : ℕ = c.args.multiples.now in
    let x : List ℕ = c.args.bytes.now in
    let i : ℕ = 3 * c.loop-i.i in
    let one : i + 1 ≡ suc i = omega arith in
    let two : i + 2 ≡ suc (suc i) = omega arith in
    let more : suc (suc (suc i)) ≡ 3 * (c.loop-i.i + 1) = omega arith in
    let first = c.sum-first.ensures
    ∙ (λ t. bit_xor (c.loop-i.invariant t) (c.block_at.ensures t)) in
    c.three_products-value.ensures
    ∙ (λ t. product (bit_xor (product (bit_xor (product (first t) h)
    ((c.block_at-second.ensures ∙ ap (number_at number x) one) t)) h)
    ((c.block_at-third.ensures ∙ ap (number_at number x) two) t)) h)
    ∙ ap (hashed_as number h (from_be_bytes w128 c.args.value) x) more

pub returns : goal.returns
returns g c =
    let end : 3 * c.loop-i.i ≡ 3 * (length c.args.bytes.now / 48) = omega arith in
    c.loop-i.invariant
    ∙ ap (hashed_as g.O.ByteOrder.number c.args.multiples.now
    (from_be_bytes w128 c.args.value) c.args.bytes.now) end
