use Rattle.std.proofs.Common.{◌≡◌, ℕ, ◌+◌, ◌*◌, ◌/◌, ◌%◌, ◌<◌, List, [], ◌∷◌, get_or, refl, ap, ◌∙◌}
use Rattle.std.proofs.Common.{arith}
use Rattle.aes_planes.specs.Bits.{at}
use Rattle.aes_planes.specs.Planes.{place}
use Rattle.aes_planes.specs.Words.{lane_bits, wide_bits}
use Rattle.aes_planes.proofs.Bits.ByteCases.{by_eight}
use Rattle.aes_planes.proofs.Words.Spread.{held_in_every_slot}
use Rattle.aes_planes.proofs.soft.word.word256.U8x32Word.in_every_slot.Goals as goal

pub returns : goal.returns
returns c =
    let xs = c.lanes_of_block.result in
    let ws : List (List ℕ) = c.twice.result ∷ c.twice-2.result ∷ c.twice-3.result ∷ c.twice-4.result
    ∷ c.twice-5.result ∷ c.twice-6.result ∷ c.twice-7.result ∷ c.twice-8.result ∷ [] in
    held_in_every_slot wide_bits 16 ws [] c.args.block.now xs refl c.lanes_of_block.ensures.typed
    c.lanes_of_block.ensures.lanes
    (λ p r q k hp hr hq hk.
    by_eight (λ p. (i : ℕ) → i < 256 → at (wide_bits (get_or ws p [])) i
    ≡ at (lane_bits (get_or xs p []))
    (8 * (i / 16) + i % 8))
    c.twice.ensures c.twice-2.ensures c.twice-3.ensures c.twice-4.ensures c.twice-5.ensures
    c.twice-6.ensures
    c.twice-7.ensures c.twice-8.ensures p hp (place 16 r q k) (omega arith)
    ∙ ap (at (lane_bits (get_or xs p []))) (omega arith))
