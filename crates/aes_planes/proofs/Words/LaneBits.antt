-- The bits of sixteen byte lanes in their order, and lanes as a word of 128 bits.
use Rattle.std.proofs.Common.{◌≡◌, ℕ, ◌+◌, ◌-◌, ◌*◌, ◌/◌, ◌%◌, ◌^◌, ◌<◌, ◌≤◌, true, ◌&&◌, nat_le}
use Rattle.std.proofs.Common.{nat_lt, bit_and, bit_or, List, [], ◌∷◌, length, get_or, replicate}
use Rattle.std.proofs.Common.{refl, ap, sym, ◌∙◌, arith, w8, Fits, leb-true, T}
use Rattle.std.proofs.lemmas.Simd.{swz_l, below_from_Fits}
use Rattle.std.proofs.lemmas.Bool.{ltb-true, ltb-false, leb-false}
use Rattle.std.proofs.lemmas.Nat.{or_shifted, shl_whole}
use lib.Lanes.{Each1, number_l, digits_l}
use Rattle.aes_planes.specs.Bits.{at, bit, Places}
use Rattle.aes_planes.specs.Fips197.{build}
use Rattle.aes_planes.specs.Words.{lane_bits}
use Rattle.aes_planes.proofs.Bits.ByteCases.{all_below}
use Rattle.aes_planes.proofs.Bits.Digits.{digit_bit, number_bit}
use Rattle.aes_planes.proofs.Planes.Held.{build-ext}
use Rattle.aes_planes.proofs.Bits.NumberBits.{Places-build, bit_low}
use Rattle.aes_planes.proofs.Words.ByteLanes.{IsLayout, bit_at, byte_in_each, funneled, swizzled}
use Rattle.aes_planes.proofs.Words.ByteLanes.{rotated, shifted_right, shifted_left}
use Rattle.aes_planes.proofs.Words.Swizzles.{lane_numbers, rotate_to, down_to, up_to, place_ok}
use Rattle.aes_planes.proofs.Words.Swizzles.{masked_place}
use Rattle.aes_planes.proofs.Words.Moved.{Turned, Right, Left, rotate_whole, shift_right_whole}
use Rattle.aes_planes.proofs.Words.Moved.{shift_left_whole}

-- ---- lanes as a number

-- lanes that are the bytes of a number, by its halves, have its bits
pub digits_bits : (x : ℕ)
    → lane_bits (digits_l (2 ^ 8) 16 (number_l (2 ^ 64) (x % 2 ^ 64 ∷ x / 2 ^ 64 ∷ [])))
    ≡ build 128 (bit x)
digits_bits x = build-ext 128 _ _ (λ i h.
    let whole : number_l (2 ^ 64) (x % 2 ^ 64 ∷ x / 2 ^ 64 ∷ []) ≡ x = omega arith in
    let spot : 8 * (i / 8) + i % 8 ≡ i = omega arith in
    digit_bit 8 16 (number_l (2 ^ 64) (x % 2 ^ 64 ∷ x / 2 ^ 64 ∷ [])) (i / 8) (i % 8) (omega arith)
    (omega arith)
    ∙ (λ t. bit (whole t) (spot t)))

-- a number below 2 ^ 128 put together from its upper and its lower 64 bits
abbrev pub by_halves : ℕ → ℕ
by_halves n = bit_or (n / 2 ^ 64 % 2 ^ 64 * 2 ^ 64 % 2 ^ 128) (n % 2 ^ 64)

-- the number of lanes, by its halves, has their bits
pub number_bits : (xs : List ℕ) → length xs ≡ 16 → Each1 (Fits w8) xs
    → build 128 (bit (by_halves (number_l (2 ^ 8) xs))) ≡ lane_bits xs
number_bits xs d f = build-ext 128 _ _ (λ i h.
    let n = number_l (2 ^ 8) xs in
    let spot : i ≡ 8 * (i / 8) + i % 8 = omega arith in
    let whole : n / 2 ^ 64 % 2 ^ 64 * 2 ^ 64 + n % 2 ^ 64 ≡ n % 2 ^ 128 = omega arith in
    let halves : by_halves n ≡ n % 2 ^ 128 =
    ap (λ v. bit_or v (n % 2 ^ 64))
    (shl_whole (n / 2 ^ 64 % 2 ^ 64) 64 64 128 (omega arith) (omega arith))
    ∙ or_shifted (n / 2 ^ 64 % 2 ^ 64) 64 (n % 2 ^ 64) (omega arith) ∙ whole in
    ap (λ v. bit v i) halves ∙ bit_low n 128 i h ∙ ap (bit n) spot
    ∙ number_bit 8 xs (i / 8) (i % 8) (below_from_Fits w8 xs f) (omega (arith, d)) (omega arith))

-- ---- lanes in their order

-- sixteen lanes lie one after another
pub narrow : IsLayout 16 128 (λ i. i / 8)
narrow = record {
  sized = refl;
  within = λ i h. omega arith;
  same = λ i k e. e;
}

-- bit 8 * j + r of sixteen lanes is bit r of lane j
pub lane_at : (xs : List ℕ) (j r : ℕ) → j < 16 → r < 8
    → at (lane_bits xs) (8 * j + r) ≡ bit (get_or xs j 0) r
lane_at xs j r h k =
    sym (bit_at narrow xs j r (8 * j + r) (omega arith) (omega arith) (omega arith))

-- sixteen lanes of one byte have in each place that byte's bit, by the place modulo 8
pub repeated_places : (b : ℕ) → Places 128 (lane_bits (replicate 16 b)) (λ i. bit b (i % 8))
repeated_places = byte_in_each narrow

-- ---- lanes that move

-- a number masked with 143 names a lane that a swizzle may read
pub place_within : (x : ℕ) → T (place_ok 16 0 (bit_and (x % 256) 143))
unfolding all_below
place_within = masked_place 16 0 refl

-- a swizzle by the numbers m on, round the end, has in each place the bit m bytes on, round the end
pub rotated_lanes : (x : List ℕ) (m : ℕ) → m < 16
    → Places 128 (lane_bits (swz_l w8 16 x 0 (rotate_to lane_numbers m)))
    (λ i. at (lane_bits x) ((i + 8 * m) % 128))
unfolding all_below
rotated_lanes x m h = Places-build 128 _ _ (λ i l.
    swizzled narrow (rotate_to lane_numbers) (λ m j. (j + m) % 16) refl x m i
    ((i + 8 * m) % 128) true refl (omega arith) l
    (λ t. (omega arith, omega arith, omega arith, omega arith)) (λ t. absurd (grind (arith, t))))

-- a swizzle by the numbers m on has in each place the bit m bytes on, and zeros past the last
pub lanes_right : (x : List ℕ) (m : ℕ) → m ≤ 16
    → Places 128 (lane_bits (swz_l w8 16 x 0 (down_to lane_numbers m)))
    (λ i. nat_lt (i + 8 * m) 128 && at (lane_bits x) (i + 8 * m))
unfolding all_below
lanes_right x m h = Places-build 128 _ _ (λ i l.
    swizzled narrow (down_to lane_numbers) (λ m j. j + m) refl x m i (i + 8 * m)
    (nat_lt (i + 8 * m) 128) refl h l
    (λ t. let lt : i + 8 * m < 128 = ltb-true (i + 8 * m) 128 t in
    (lt, omega arith, omega arith, omega arith))
    (λ t. let le : 128 ≤ i + 8 * m = ltb-false (i + 8 * m) 128 t in omega arith))

-- a swizzle by the numbers m back has in each place the bit m bytes back, and zeros below the first
pub lanes_left : (x : List ℕ) (m : ℕ) → m ≤ 16
    → Places 128 (lane_bits (swz_l w8 16 x 0 (up_to lane_numbers m)))
    (λ i. nat_le (8 * m) i && at (lane_bits x) (i - 8 * m))
unfolding all_below
lanes_left x m h = Places-build 128 _ _ (λ i l.
    swizzled narrow (up_to lane_numbers) (λ m j. (j + (256 - m)) % 256) refl x m i (i - 8 * m)
    (nat_le (8 * m) i) refl h l
    (λ t. let le : 8 * m ≤ i = leb-true (8 * m) i t in
    (omega arith, omega arith, omega arith, omega arith))
    (λ t. let lt : i < 8 * m = leb-false (8 * m) i t in omega arith))

-- ---- rotations and shifts by bits

-- the low bits of one rotation by bytes, joined with the high ones of the next, are a rotation by n
-- bits
pub rotate_part : (x a b : List ℕ) (n : ℕ) → length a ≡ 16 → length b ≡ 16 → Each1 (Fits w8) a
    → Turned 128 (lane_bits x) (lane_bits a) (8 * (n / 8))
    → Turned 128 (lane_bits x) (lane_bits b) (8 * ((n / 8 + 1) % 16))
    → Turned 128 (lane_bits x) (lane_bits (funneled 16 (n % 8) (8 - n % 8) a b)) n
rotate_part x a b n a_long b_long a_fits a_is b_is =
    rotated narrow (lane_bits x) a b n a_long b_long a_fits a_is
    (λ i l. b_is i l ∙ ap (at (lane_bits x)) (omega arith))

pub ruleset rotate_calls = (rotate_whole, rotate_part)

-- two shifts right by neighbouring numbers of bytes, joined within each lane, are a shift by n bits
pub shift_right_part : (x a b : List ℕ) (n : ℕ) → length a ≡ 16 → length b ≡ 16 → Each1 (Fits w8) a
    → Right 128 (lane_bits x) (lane_bits a) (8 * (n / 8))
    → Right 128 (lane_bits x) (lane_bits b) (8 * (n / 8 + 1))
    → Right 128 (lane_bits x) (lane_bits (funneled 16 (n % 8) (8 - n % 8) a b)) n
shift_right_part x = shifted_right narrow (lane_bits x)

pub ruleset shift_right_calls = (shift_right_whole, shift_right_part)

-- two shifts left by neighbouring numbers of bytes, joined within each lane, are a shift by n bits
pub shift_left_part : (x a b : List ℕ) (n : ℕ) → length a ≡ 16 → length b ≡ 16 → Each1 (Fits w8) a
    → Left 128 (lane_bits x) (lane_bits a) (8 * (n / 8 + 1))
    → Left 128 (lane_bits x) (lane_bits b) (8 * (n / 8))
    → Left 128 (lane_bits x) (lane_bits (funneled 16 (8 - n % 8) (n % 8) a b)) n
shift_left_part x = shifted_left narrow (lane_bits x)

pub ruleset shift_left_calls = (shift_left_whole, shift_left_part)
