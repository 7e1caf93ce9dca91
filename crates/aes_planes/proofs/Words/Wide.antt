-- The bits of two times sixteen byte lanes, as a word of 256 bits, through the operations on
-- vectors.
use Rattle.std.proofs.Common.{◌≡◌, ℕ, ◌+◌, ◌-◌, ◌*◌, ◌/◌, ◌%◌, ◌<◌, ◌≤◌, ◌==◌, Bool, true, false}
use Rattle.std.proofs.Common.{◌&&◌, cond, nat_le, nat_lt, bit_and, List, [], ◌∷◌, ◌++◌, length}
use Rattle.std.proofs.Common.{get_or, replicate, refl, ap, sym, ◌∙◌, arith, w8, Fits, leb-true, T}
use Rattle.std.proofs.lemmas.Simd.{swz_l}
use Rattle.std.proofs.lemmas.List.{get_or_append_left, get_or-append_right}
use Rattle.std.proofs.lemmas.Bool.{ltb-true, ltb-false, leb-false}
use lib.Lanes.{Each1, pick_l}
use Rattle.aes_planes.specs.Bits.{at, bit, Places}
use Rattle.aes_planes.specs.Words.{lane_bits, wide_bits}
use Rattle.aes_planes.proofs.Bits.ByteCases.{all_below, all_below_tells}
use Rattle.aes_planes.proofs.Bits.NumberBits.{Places-build, bit_zero}
use Rattle.aes_planes.proofs.Words.ByteLanes.{IsLayout, lane_operators, at-laid, bit_at, byte_in_each}
use Rattle.aes_planes.proofs.Words.ByteLanes.{funneled, swizzled, rotated, shifted_right}
use Rattle.aes_planes.proofs.Words.ByteLanes.{shifted_left}
use Rattle.aes_planes.proofs.Words.Swizzles.{lane_numbers, rotate_to, down_to, up_to, place_ok}
use Rattle.aes_planes.proofs.Words.Swizzles.{masked_place, picked_at}
use Rattle.aes_planes.proofs.Words.LaneBits.{lane_at}
use Rattle.aes_planes.proofs.Words.Moved.{Turned, Right, Left, right_again, left_again}
use Rattle.aes_planes.proofs.Words.Moved.{rotate_whole, shift_right_whole, shift_left_whole}

-- the lane that has bit i of the word
abbrev pub lane_of : ℕ → ℕ
lane_of i = 16 * (i / 8 % 2) + i / 16

-- 32 lanes, by turns one of the lower half and one of the upper
pub wide : IsLayout 32 256 lane_of
wide = record {
  sized = refl;
  within = λ i h. omega arith;
  same = λ i k e. omega arith;
}

-- ---- operators

-- a byte in every lane has in each place that byte's bit, by the place modulo 8
pub wide_repeated : (b : ℕ) → Places 256 (wide_bits (replicate 32 b)) (λ i. bit b (i % 8))
wide_repeated = byte_in_each wide

-- the first lane has the lowest eight bits
pub wide_low_byte : (xs : List ℕ) (i : ℕ) → i < 8 → bit (get_or xs 0 0) i ≡ at (wide_bits xs) i
wide_low_byte xs i h = bit_at wide xs 0 i i (omega arith) (omega arith) (omega arith)

pub ruleset wide_operators = (lane_operators, wide_repeated, wide_low_byte)

-- ---- columns that move

-- the numbers of the lanes, each in its half
abbrev pub lane_numbers_twice : List ℕ
lane_numbers_twice = lane_numbers ++ lane_numbers

-- a number masked with 143 names a lane of the lower half that a swizzle may read
pub place_low : (x : ℕ) → T (place_ok 32 0 (bit_and (x % 256) 143))
unfolding all_below
place_low = masked_place 32 0 refl

-- a number masked with 143 names a lane of the upper half that a swizzle may read
pub place_high : (x : ℕ) → T (place_ok 32 16 (bit_and (x % 256) 143))
unfolding all_below
place_high = masked_place 32 16 refl

-- a swizzle by the numbers m on, round the end, has in each place the bit m columns on, round the
-- end
pub rotated_columns : (x : List ℕ) (m : ℕ) → m < 16
    → Places 256 (wide_bits (swz_l w8 16 x 0 (rotate_to lane_numbers_twice m)))
    (λ i. at (wide_bits x) ((i + 16 * m) % 256))
unfolding all_below
rotated_columns x m h = Places-build 256 _ _ (λ i l.
    swizzled wide (rotate_to lane_numbers_twice) (λ m j. (j + m) % 16) refl x m i
    ((i + 16 * m) % 256) true refl (omega arith) l
    (λ t. (omega arith, omega arith, omega arith, omega arith)) (λ t. absurd (grind (arith, t))))

-- a swizzle by the numbers m on has in each place the bit m columns on, and zeros past the last
pub columns_right : (x : List ℕ) (m : ℕ) → m < 16
    → Places 256 (wide_bits (swz_l w8 16 x 0 (down_to lane_numbers_twice m)))
    (λ i. nat_lt (i + 16 * m) 256 && at (wide_bits x) (i + 16 * m))
unfolding all_below
columns_right x m h = Places-build 256 _ _ (λ i l.
    swizzled wide (down_to lane_numbers_twice) (λ m j. j + m) refl x m i (i + 16 * m)
    (nat_lt (i + 16 * m) 256) refl (omega arith) l
    (λ t. let lt : i + 16 * m < 256 = ltb-true (i + 16 * m) 256 t in
    (lt, omega arith, omega arith, omega arith))
    (λ t. let le : 256 ≤ i + 16 * m = ltb-false (i + 16 * m) 256 t in omega arith))

-- a swizzle by the numbers m back has in each place the bit m columns back, and zeros below the
-- first
pub columns_left : (x : List ℕ) (m : ℕ) → m < 16
    → Places 256 (wide_bits (swz_l w8 16 x 0 (up_to lane_numbers_twice m)))
    (λ i. nat_le (16 * m) i && at (wide_bits x) (i - 16 * m))
unfolding all_below
columns_left x m h = Places-build 256 _ _ (λ i l.
    swizzled wide (up_to lane_numbers_twice) (λ m j. (j + (256 - m)) % 256) refl x m i (i - 16 * m)
    (nat_le (16 * m) i) refl
    (omega arith) l
    (λ t. let le : 16 * m ≤ i = leb-true (16 * m) i t in
    (omega arith, omega arith, omega arith, omega arith))
    (λ t. let lt : i < 16 * m = leb-false (16 * m) i t in omega arith))

-- ---- the word moved by a byte

-- of a vector and another that begins with zero, the lanes that have bits k, or the zero
shuffled : (x ys ks : List ℕ) (i k : ℕ) (some : Bool) → length x ≡ 32 → lane_of i < length ks
    → (get_or ks (lane_of i) 0 == cond some (lane_of k) 32) ≡ true
    → (some ≡ true → (k < 256) × (i % 8 ≡ k % 8)) → (some ≡ false → get_or ys 0 0 ≡ 0)
    → bit (get_or (pick_l 0 (x ++ ys) ks) (lane_of i) 0) (i % 8) ≡ (some && at (wide_bits x) k)
shuffled x ys ks i k true d l h there zero =
    let t = there refl in
    ap (λ v. bit v (i % 8)) (picked_at (x ++ ys) ks (lane_of i) (lane_of k) l h
    ∙ get_or_append_left x ys 0 (lane_of k) (omega (arith, d, t.0)))
    ∙ bit_at wide x (lane_of k) (i % 8) k t.0 refl t.1
shuffled x ys ks i k false d l h there zero =
    ap (λ v. bit v (i % 8)) (picked_at (x ++ ys) ks (lane_of i) 32 l h
    ∙ get_or-append_right x ys 32 32 0 d (omega arith) ∙ zero refl)
    ∙ bit_zero (i % 8)

-- which lanes a rotation by a byte takes, of a vector twice over
abbrev pub byte_on : List ℕ
byte_on = 16 ∷ 17 ∷ 18 ∷ 19 ∷ 20 ∷ 21 ∷ 22 ∷ 23 ∷ 24 ∷ 25 ∷ 26 ∷ 27 ∷ 28 ∷ 29 ∷ 30 ∷ 31 ∷ 1 ∷ 2 ∷ 3
    ∷ 4 ∷ 5 ∷ 6 ∷ 7 ∷ 8
    ∷ 9 ∷ 10 ∷ 11 ∷ 12 ∷ 13 ∷ 14 ∷ 15 ∷ 0 ∷ []

-- a swizzle by these numbers has in each place the bit eight places on, round the end
pub rotated_byte : (x : List ℕ) → length x ≡ 32
    → Places 256 (wide_bits (pick_l 0 (x ++ x) byte_on)) (λ i. at (wide_bits x) ((i + 8) % 256))
unfolding all_below
rotated_byte x d = Places-build 256 _ _ (λ i l.
    shuffled x x byte_on i ((i + 8) % 256) true d (omega arith)
    (all_below_tells 256 (λ i. get_or byte_on (lane_of i) 0 == lane_of ((i + 8) % 256)) refl i l)
    (λ t. (omega arith, omega arith)) (λ t. absurd (grind (arith, t))))

-- 32 lanes of 0
abbrev zeros : List ℕ
zeros = replicate 32 0

-- which lanes a shift by a byte to the right takes, and a zero at the end
abbrev pub byte_after : List ℕ
byte_after = 16 ∷ 17 ∷ 18 ∷ 19 ∷ 20 ∷ 21 ∷ 22 ∷ 23 ∷ 24 ∷ 25 ∷ 26 ∷ 27 ∷ 28 ∷ 29 ∷ 30 ∷ 31 ∷ 1 ∷ 2
    ∷ 3 ∷ 4 ∷ 5 ∷ 6 ∷ 7
    ∷ 8 ∷ 9 ∷ 10 ∷ 11 ∷ 12 ∷ 13 ∷ 14 ∷ 15 ∷ 32 ∷ []

-- a shuffle by these numbers has in each place the bit eight places on, and zeros past the last
pub byte_right : (x : List ℕ) → length x ≡ 32
    → Places 256 (wide_bits (pick_l 0 (x ++ zeros) byte_after))
    (λ i. nat_lt (i + 8) 256 && at (wide_bits x) (i + 8))
unfolding all_below
byte_right x d = Places-build 256 _ _ (λ i l.
    shuffled x zeros byte_after i (i + 8) (nat_lt (i + 8) 256) d (omega arith)
    (all_below_tells 256
    (λ i. get_or byte_after (lane_of i) 0 == cond (nat_lt (i + 8) 256) (lane_of (i + 8)) 32) refl i
    l) (λ t. (ltb-true (i + 8) 256 t, omega arith)) (λ t. refl))

-- which lanes a shift by a byte to the left takes, and a zero in front
abbrev pub byte_before : List ℕ
byte_before = 32 ∷ 16 ∷ 17 ∷ 18 ∷ 19 ∷ 20 ∷ 21 ∷ 22 ∷ 23 ∷ 24 ∷ 25 ∷ 26 ∷ 27 ∷ 28 ∷ 29 ∷ 30 ∷ 0 ∷ 1
    ∷ 2 ∷ 3 ∷ 4 ∷ 5 ∷ 6
    ∷ 7 ∷ 8 ∷ 9 ∷ 10 ∷ 11 ∷ 12 ∷ 13 ∷ 14 ∷ 15 ∷ []

-- a shuffle by these numbers has in each place the bit eight places back, and zeros below the first
pub byte_left : (x : List ℕ) → length x ≡ 32
    → Places 256 (wide_bits (pick_l 0 (x ++ zeros) byte_before))
    (λ i. nat_le 8 i && at (wide_bits x) (i - 8))
unfolding all_below
byte_left x d = Places-build 256 _ _ (λ i l.
    shuffled x zeros byte_before i (i - 8) (nat_le 8 i) d (omega arith)
    (all_below_tells 256
    (λ i. get_or byte_before (lane_of i) 0 == cond (nat_le 8 i) (lane_of (i - 8)) 32) refl i l)
    (λ t. let le : 8 ≤ i = leb-true 8 i t in (omega arith, omega arith)) (λ t. refl))

-- ---- by bytes

-- a rotation by an even number of bytes is one by pairs
pub rotate_even : (x y : List Bool) (b : ℕ) → b % 2 ≡ 0 → Turned 256 x y (16 * (b / 2))
    → Turned 256 x y (8 * b)
rotate_even x y b z t i l = t i l ∙ ap (at x) (omega arith)

-- a rotation by an odd number of bytes is one by pairs and one byte more
pub rotate_odd : (x y z : List Bool) (b : ℕ) → b % 2 ≡ 1 → Turned 256 x y (16 * (b / 2))
    → Turned 256 y z 8 → Turned 256 x z (8 * b)
rotate_odd x y z b odd y_is z_is i l =
    z_is i l ∙ y_is ((i + 8) % 256) (omega arith) ∙ ap (at x) (omega arith)

pub ruleset rotate_bytes_calls = (rotate_even, rotate_odd)

-- a shift to the right by an even number of bytes is one by pairs
pub right_even : (x y : List Bool) (b : ℕ) → b % 2 ≡ 0 → Right 256 x y (16 * (b / 2))
    → Right 256 x y (8 * b)
right_even x y b z t i l = t i l ∙ ap (λ v. nat_lt v 256 && at x v) (omega arith)

-- a shift to the right by an odd number of bytes is one by pairs and one byte more
pub right_odd : (x y z : List Bool) (b : ℕ) → b % 2 ≡ 1 → Right 256 x y (16 * (b / 2))
    → Right 256 y z 8 → Right 256 x z (8 * b)
right_odd x y z b odd y_is z_is =
    right_again 256 x y z (16 * (b / 2)) (8 * b) y_is z_is (omega (arith, odd))

pub ruleset bytes_right_calls = (right_even, right_odd)

-- a shift to the left by an even number of bytes is one by pairs
pub left_even : (x y : List Bool) (b : ℕ) → b % 2 ≡ 0 → Left 256 x y (16 * (b / 2))
    → Left 256 x y (8 * b)
left_even x y b z t i l =
    let e : 16 * (b / 2) ≡ 8 * b = omega arith in
    t i l ∙ ap (λ n. nat_le n i && at x (i - n)) e

-- a shift to the left by an odd number of bytes is one by pairs and one byte more
pub left_odd : (x y z : List Bool) (b : ℕ) → b % 2 ≡ 1 → Left 256 x y (16 * (b / 2))
    → Left 256 y z 8 → Left 256 x z (8 * b)
left_odd x y z b odd y_is z_is =
    left_again 256 x y z (16 * (b / 2)) (8 * b) y_is z_is (omega (arith, odd))

pub ruleset bytes_left_calls = (left_even, left_odd)

-- ---- by bits

-- two rotations by neighbouring numbers of bytes, joined within each lane, are a rotation by n bits
pub rotate_part : (x a b : List ℕ) (n : ℕ) → length a ≡ 32 → length b ≡ 32 → Each1 (Fits w8) a
    → Turned 256 (wide_bits x) (wide_bits a) (8 * (n / 8))
    → Turned 256 (wide_bits a) (wide_bits b) 8
    → Turned 256 (wide_bits x) (wide_bits (funneled 32 (n % 8) (8 - n % 8) a b)) n
rotate_part x a b n a_long b_long a_fits a_is b_is =
    rotated wide (wide_bits x) a b n a_long b_long a_fits a_is (λ i l.
    b_is i l ∙ a_is ((i + 8) % 256) (omega arith) ∙ ap (at (wide_bits x)) (omega arith))

pub ruleset rotate_calls = (rotate_whole, rotate_part)

-- two shifts right by neighbouring numbers of bytes, joined within each lane, are a shift by n bits
pub shift_right_part : (x a b : List ℕ) (n : ℕ) → length a ≡ 32 → length b ≡ 32 → Each1 (Fits w8) a
    → Right 256 (wide_bits x) (wide_bits a) (8 * (n / 8)) → Right 256 (wide_bits a) (wide_bits b) 8
    → Right 256 (wide_bits x) (wide_bits (funneled 32 (n % 8) (8 - n % 8) a b)) n
shift_right_part x a b n a_long b_long a_fits a_is b_is =
    shifted_right wide (wide_bits x) a b n a_long b_long a_fits a_is
    (right_again 256 (wide_bits x) (wide_bits a) (wide_bits b) (8 * (n / 8)) (8 * (n / 8 + 1))
    a_is b_is (omega arith))

pub ruleset shift_right_calls = (shift_right_whole, shift_right_part)

-- two shifts left by neighbouring numbers of bytes, joined within each lane, are a shift by n bits
pub shift_left_part : (x a b : List ℕ) (n : ℕ) → length a ≡ 32 → length b ≡ 32 → Each1 (Fits w8) b
    → Left 256 (wide_bits x) (wide_bits a) (8 * (n / 8)) → Left 256 (wide_bits a) (wide_bits b) 8
    → Left 256 (wide_bits x) (wide_bits (funneled 32 (8 - n % 8) (n % 8) b a)) n
shift_left_part x a b n a_long b_long b_fits a_is b_is =
    shifted_left wide (wide_bits x) b a n b_long a_long b_fits
    (left_again 256 (wide_bits x) (wide_bits a) (wide_bits b) (8 * (n / 8)) (8 * (n / 8 + 1))
    a_is b_is (omega arith)) a_is

pub ruleset shift_left_calls = (shift_left_whole, shift_left_part)

-- ---- rows on 128 and on 256 bits

-- sixteen lanes in both halves have each bit of the word of 128 bits twice
pub twice_places : (x : List ℕ) (i : ℕ) → length x ≡ 16 → i < 256
    → at (wide_bits (pick_l 0 (x ++ x) lane_numbers_twice)) i ≡ at (lane_bits x) (8 * (i / 16) + i % 8)
unfolding all_below
twice_places x i d l =
    sym (at-laid wide (pick_l 0 (x ++ x) lane_numbers_twice) i l)
    ∙ ap (λ v. bit v (i % 8)) (picked_at (x ++ x) lane_numbers_twice (lane_of i) (lane_of i % 16) (omega arith)
    (all_below_tells 32 (λ j. get_or lane_numbers_twice j 0 == j % 16) refl (lane_of i) (omega arith))
    ∙ get_or_append_left x x 0 (lane_of i % 16) (omega (arith, d))
    ∙ ap (λ v. get_or x v 0) (omega arith))
    ∙ sym (lane_at x (i / 16) (i % 8) (omega arith) (omega arith))

-- the constant of four nibbles on 128 bits becomes that on 256
pub twice_rows : (x : List ℕ) (r : ℕ → ℕ) → length x ≡ 16
    → Places 128 (lane_bits x) (λ i. bit (r (i / 32)) (i % 32 / 8))
    → Places 256 (wide_bits (pick_l 0 (x ++ x) lane_numbers_twice)) (λ i. bit (r (i / 64)) (i % 64 / 16))
twice_rows x r d t i l =
    let j = 8 * (i / 16) + i % 8 in
    let row : j / 32 ≡ i / 64 = omega arith in
    let column : j % 32 / 8 ≡ i % 64 / 16 = omega arith in
    twice_places x i d l ∙ t j (omega arith) ∙ (λ v. bit (r (row v)) (column v))

-- ---- halves

-- the lanes of the upper half
abbrev pub upper_16 : List ℕ
upper_16 = 16 ∷ 17 ∷ 18 ∷ 19 ∷ 20 ∷ 21 ∷ 22 ∷ 23 ∷ 24 ∷ 25 ∷ 26 ∷ 27 ∷ 28 ∷ 29 ∷ 30 ∷ 31 ∷ []

-- of two vectors side by side, the first has every other eight bits of the word, from the lowest on
pub joined_low : (x y : List ℕ) (j p : ℕ) → length x ≡ 16 → j < 16 → p < 8
    → at (lane_bits x) (8 * j + p)
    ≡ at (wide_bits (pick_l 0 (x ++ y) (lane_numbers ++ upper_16))) (16 * j + p)
unfolding all_below
joined_low x y j p d h hp = lane_at x j p h hp
    ∙ ap (λ v. bit v p) (sym (picked_at (x ++ y) (lane_numbers ++ upper_16) j j (omega arith)
    (all_below_tells 32 (λ j. get_or (lane_numbers ++ upper_16) j 0 == j) refl j (omega arith))
    ∙ get_or_append_left x y 0 j (omega (arith, d, h))))
    ∙ bit_at wide (pick_l 0 (x ++ y) (lane_numbers ++ upper_16)) j p (16 * j + p) (omega arith)
    (omega arith) (omega arith)

-- of two vectors side by side, the second has the other eight bits of each sixteen
pub joined_high : (x y : List ℕ) (j p : ℕ) → length x ≡ 16 → j < 16 → p < 8
    → at (lane_bits y) (8 * j + p) ≡ at (wide_bits (pick_l 0 (x ++ y) (lane_numbers ++ upper_16)))
    (16 * j + 8 + p)
unfolding all_below
joined_high x y j p d h hp = lane_at y j p h hp
    ∙ ap (λ v. bit v p) (sym (picked_at (x ++ y) (lane_numbers ++ upper_16) (16 + j) (16 + j) (omega arith)
    (all_below_tells 32 (λ j. get_or (lane_numbers ++ upper_16) j 0 == j) refl (16 + j) (omega arith))
    ∙ get_or-append_right x y 16 (16 + j) 0 d (omega arith) ∙ ap (λ v. get_or y v 0) (omega arith)))
    ∙ bit_at wide (pick_l 0 (x ++ y) (lane_numbers ++ upper_16)) (16 + j) p (16 * j + 8 + p)
    (omega arith) (omega arith)
    (omega arith)

-- the lower half of 32 lanes has every other eight bits of the word, from the lowest on
pub lower : (x : List ℕ) (j p : ℕ) → length x ≡ 32 → j < 16 → p < 8
    → at (lane_bits (pick_l 0 (x ++ x) lane_numbers)) (8 * j + p) ≡ at (wide_bits x) (16 * j + p)
unfolding all_below
lower x j p d h hp = lane_at (pick_l 0 (x ++ x) lane_numbers) j p h hp
    ∙ ap (λ v. bit v p) (picked_at (x ++ x) lane_numbers j j (omega arith)
    (all_below_tells 16 (λ j. get_or lane_numbers j 0 == j) refl j h)
    ∙ get_or_append_left x x 0 j (omega (arith, d, h)))
    ∙ bit_at wide x j p (16 * j + p) (omega arith) (omega arith) (omega arith)

-- the upper half of 32 lanes has the other eight bits of each sixteen
pub upper : (x : List ℕ) (j p : ℕ) → length x ≡ 32 → j < 16 → p < 8
    → at (lane_bits (pick_l 0 (x ++ x) upper_16)) (8 * j + p) ≡ at (wide_bits x) (16 * j + 8 + p)
unfolding all_below
upper x j p d h hp = lane_at (pick_l 0 (x ++ x) upper_16) j p h hp
    ∙ ap (λ v. bit v p) (picked_at (x ++ x) upper_16 j (16 + j) (omega arith)
    (all_below_tells 16 (λ j. get_or upper_16 j 0 == 16 + j) refl j h)
    ∙ get_or_append_left x x 0 (16 + j) (omega (arith, d, h)))
    ∙ bit_at wide x (16 + j) p (16 * j + 8 + p) (omega arith) (omega arith) (omega arith)
