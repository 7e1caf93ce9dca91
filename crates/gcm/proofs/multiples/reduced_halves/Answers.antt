-- The upper halves, eight bytes further on, are summed with the lower ones and reduced.
use Rattle.std.proofs.Common.{◌≡◌, ◌∙◌, ◌+◌, ◌*◌, ◌/◌, ◌%◌, ◌^◌, ap, take, drop, bit_xor}
use Rattle.std.specs.Int.{w128, from_be_bytes}
use Rattle.gcm.specs.Multiples.{reduced}
use Rattle.gcm.proofs.multiples.reduced_halves.Goals as goal

pub returns : goal.returns
returns c =
    let first : from_be_bytes w128 c.sum.result
    ≡ bit_xor (from_be_bytes w128 (take 16 c.args.first))
    (from_be_bytes w128 (drop 16 c.args.first) / 2 ^ 64) =
    c.sum.ensures
    ∙ (λ t. bit_xor (from_be_bytes w128 (c.lower.ensures t))
    ((c.after_eight_zeros.ensures ∙ ap (λ l. from_be_bytes w128 l / 2 ^ 64) c.upper.ensures) t)) in
    let second : from_be_bytes w128 c.sum-2.result
    ≡ bit_xor (from_be_bytes w128 (take 16 c.args.second))
    (from_be_bytes w128 (drop 16 c.args.first) % 2 ^ 64 * 2 ^ 64
    + from_be_bytes w128 (drop 16 c.args.second) / 2 ^ 64) =
    c.sum-2.ensures
    ∙ (λ t. bit_xor (from_be_bytes w128 (c.lower-2.ensures t))
    ((c.after_last_eight.ensures ∙ (λ u. from_be_bytes w128 (c.upper-2.ensures u) % 2 ^ 64 * 2 ^ 64
    + from_be_bytes w128 (c.upper-3.ensures u) / 2 ^ 64)) t)) in
    c.reduced.ensures ∙ (λ t. reduced (first t) (second t))
