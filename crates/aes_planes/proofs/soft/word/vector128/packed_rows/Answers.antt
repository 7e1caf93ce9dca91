use Rattle.std.proofs.Common.{◌≡◌, ℕ, ◌+◌, ◌*◌, ◌/◌, ◌%◌, [], ◌∷◌, get_or, ◌∙◌, arith}
use Rattle.aes_planes.specs.Bits.{bit}
use Rattle.aes_planes.proofs.Bits.NumberBits.{at-word_bits}
use Rattle.aes_planes.proofs.soft.word.vector128.packed_rows.Goals as goal

pub returns : goal.returns
returns c i l =
    let nibbles = c.args.r0 ∷ c.args.r1 ∷ c.args.r2 ∷ c.args.r3 ∷ [] in
    let k : ℕ = 4 * (i / 32) + i % 32 / 8 in
    let row : k / 4 ≡ i / 32 = omega arith in
    let column : k % 4 / 1 ≡ i % 32 / 8 = omega arith in
    c.lane_for_each_bit.ensures i l ∙ at-word_bits 16 c.pack_rows.result k (omega arith)
    ∙ c.pack_rows.ensures k (omega arith)
    ∙ (λ t. bit (get_or nibbles (row t) 0) (column t))
