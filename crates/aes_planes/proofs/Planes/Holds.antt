-- The relation that planes hold blocks, and the blocks that they hold as a function.
use Rattle.std.proofs.Common.{◌≡◌, ℕ, suc, ◌+◌, ◌*◌, ◌<◌, Bool, List, [], length, get_or, map, ap}
use Rattle.std.proofs.Common.{sym, ◌^◌, slice_index, ◌∙◌, arith}
use Rattle.std.proofs.lemmas.List.{map-id}
use Rattle.std.proofs.lemmas.Simd.{map-map}
use Rattle.aes_planes.specs.Bits.{at, bit}
use Rattle.aes_planes.specs.Fips197.{IsBytes, byte_at, state, shift_rows, shift_times}
use Rattle.aes_planes.specs.Planes.{held, held_byte, place, Holds, HoldsShifted}
use Rattle.aes_planes.proofs.Standard.States.{byte_at-state}
use Rattle.aes_planes.proofs.Standard.Steps.{length-state, state_bytes}
use Rattle.aes_planes.proofs.Lists.{get_or-build}
use Rattle.aes_planes.proofs.Planes.Held.{held_of, length-held}
use Rattle.aes_planes.proofs.Bits.BytesByBits.{mapped_lt, mapped_bit, mapped_is}

-- block k of those that planes hold, by its bytes
held_at : (n : ℕ) (planes : List (List Bool)) (k : ℕ) → k < n
    → get_or (held n planes) k [] ≡ state (λ r c. held_byte planes (place n r c k))
unfolding held
held_at n planes k h = get_or-build n k _ [] h

-- each block that planes hold has sixteen bytes
pub length-held_block : (n : ℕ) (planes : List (List Bool)) (k : ℕ) → k < n
    → length (get_or (held n planes) k []) ≡ 16
length-held_block n planes k h = ap length (held_at n planes k h) ∙ length-state _

-- each byte of a block that planes hold is below 2 ^ 8
pub held_bytes : (n : ℕ) (planes : List (List Bool)) (k i : ℕ) → length planes ≡ 8 → k < n
    → slice_index (get_or (held n planes) k []) i < 2 ^ 8
held_bytes n planes k i l h =
    let bytes : IsBytes (get_or (held n planes) k []) = rw (held_at n planes k h)
    (state_bytes _ (λ r c. mapped_lt (λ w. at w (place n r c k)) planes l)) in
    bytes i

-- a plane's bit at a place is the bit of its number in the byte held there
pub held_bits : (n : ℕ) (planes : List (List Bool)) → length planes ≡ 8 → (p r c k : ℕ) → p < 8
    → r < 4 → c < 4 → k < n
    → at (get_or planes p []) (place n r c k) ≡ bit (byte_at (get_or (held n planes) k []) r c) p
held_bits n planes l p r c k hp hr hc hk =
    sym (mapped_bit (λ w. at w (place n r c k)) planes [] p (omega arith))
    ∙ ap (λ x. bit x p) (sym (ap (λ b. byte_at b r c) (held_at n planes k hk)
    ∙ byte_at-state (λ r c. held_byte planes (place n r c k)) r c hr hc))

-- eight planes hold the blocks that are read of them
pub held_holds : (n : ℕ) (planes : List (List Bool)) → length planes ≡ 8
    → Holds n planes (held n planes)
held_holds n planes l = record {
  planes_count = l;
  blocks_count = length-held n planes;
  block_length = length-held_block n planes;
  bytes = λ k h i. held_bytes n planes k i l h;
  bits = held_bits n planes l;
}

-- planes that hold some blocks hold no others
pub holds_held : (n : ℕ) (planes : List (List Bool)) (blocks : List (List ℕ))
    → Holds n planes blocks
    → held n planes ≡ blocks
holds_held n planes blocks h =
    held_of n planes blocks h.blocks_count h.block_length (λ r c k i j l.
    mapped_is (λ w. at w (place n r c k)) planes [] _ h.planes_count (h.bytes k l (r + 4 * c))
    (λ p hp. h.bits p r c k hp i j l))

-- no ShiftRows leaves each block as it is
pub map-zero_shifts : (bs : List (List ℕ)) → map (shift_times 0) bs ≡ bs
unfolding shift_times
map-zero_shifts bs = map-id bs

-- planes whose blocks are read of them have no ShiftRows deferred
pub none_deferred : (n : ℕ) (planes : List (List Bool)) → HoldsShifted n planes 0 (held n planes)
none_deferred n planes = map-zero_shifts (held n planes)

-- a ShiftRows that is left out is one more that is deferred
pub one_more_deferred : (n s : ℕ) (planes : List (List Bool)) (blocks : List (List ℕ))
    → HoldsShifted n planes s blocks
    → HoldsShifted n planes (s + 1) (map shift_rows blocks)
unfolding shift_times
one_more_deferred n s planes blocks is =
    let next : s + 1 ≡ suc s = omega arith in
    ap (λ k. map (shift_times k) (held n planes)) next
    ∙ sym (map-map shift_rows (shift_times s) (held n planes)) ∙ ap (map shift_rows) is

pub ruleset laws_of_deferring = (none_deferred, one_more_deferred)

pub ruleset laws_of_holding =
    (length-held, length-held_block, held_bytes, held_bits, holds_held, map-zero_shifts)
