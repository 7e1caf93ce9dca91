-- Pairs of rows in one vector of 32 bytes: looked up, shifted and summed by halves.
use Rattle.std.proofs.Common.{◌≡◌, ℕ, ◌+◌, ◌*◌, ◌/◌, ◌%◌, ◌^◌, ◌<◌, ◌≤◌, ◌&&◌, List, [], ◌∷◌, ◌++◌}
use Rattle.std.proofs.Common.{length, map, take, drop, get_or, bit_and, bit_xor, replicate, refl}
use Rattle.std.proofs.Common.{ap, sym, ◌∙◌, arith}
use Rattle.std.specs.List.{list_all, range_with_len}
use Rattle.std.specs.Int.{w128, from_be_bytes}
use Rattle.std.proofs.lemmas.Bool.{and_parts}
use Rattle.std.proofs.lemmas.List.{map-append, length-append, length-map, get_or_append_left}
use Rattle.std.proofs.lemmas.List.{get_or-append_right, get_or-take, get_or-drop, take-take}
use Rattle.std.proofs.lemmas.List.{drop-drop, drop_at}
use Rattle.std.proofs.lemmas.Simd.{pick_l-range_with_len, zip2_splat}
use lib.Lanes.{zip2, pick_l}
use Rattle.aes_planes.specs.Fips197.{IsBlock}
use Rattle.aes_planes.proofs.Lists.{zip2_append}
use Rattle.aes_permute.specs.Lookup.{looked, is_index, low_nibble, high_nibble, by_nibbles}
use Rattle.aes_permute.specs.Lookup.{AreIndices, Nibbles}
use Rattle.aes_permute.proofs.ByHalves.{indices_append}
use Rattle.aes_permute.proofs.Lookups.{low_nibbles_are, high_nibbles_are, nibbles_are_indices}
use Rattle.aes_permute.proofs.Lookups.{nibbles_looked_up}

-- ---- nibbles

-- what vectors make of each byte of a block and the same number, they make of a block in both halves
splat_twice : (f : ℕ → ℕ → ℕ) (v : ℕ) (x y : List ℕ) → length x ≡ 16
    → zip2 f x (replicate 16 v) ≡ y → zip2 f (x ++ x) (replicate 32 v) ≡ y ++ y
splat_twice f v x y long is =
    let once : map (λ b. f b v) x ≡ y = sym (zip2_splat f x 16 v long) ∙ is in
    zip2_splat f (x ++ x) 32 v (length-append x x ∙ omega (arith, long))
    ∙ map-append (λ b. f b v) x x ∙ (λ t. once t ++ once t)

-- a block in both halves of a vector, under the mask, has its low nibbles in both
pub low_twice : (x : List ℕ) → IsBlock x
    → zip2 bit_and (x ++ x) (replicate 32 15) ≡ map low_nibble x ++ map low_nibble x
low_twice x block = splat_twice bit_and 15 x _ block.0 (low_nibbles_are x block)

-- a block in both halves of a vector, shifted, has its high nibbles in both
pub high_twice : (x : List ℕ) → IsBlock x
    → zip2 (λ a b. a / 2 ^ b) (x ++ x) (replicate 32 4) ≡ map high_nibble x ++ map high_nibble x
high_twice x block = splat_twice (λ a b. a / 2 ^ b) 4 x _ block.0 (high_nibbles_are x block)

-- nibbles in both halves are indices of a table of sixteen bytes
pub nibbles_twice : (x places : List ℕ) → Nibbles x → places ≡ x ++ x → AreIndices places
nibbles_twice x places nibbles is =
    let one = nibbles_are_indices x nibbles in
    ap (list_all is_index) is ∙ indices_append x x one one

-- ---- look-ups in the tables of the halves

-- indices that are cut in two are indices in both parts
pub indices_parts : (xs ys : List ℕ) → AreIndices (xs ++ ys) → (AreIndices xs) × (AreIndices ys)
indices_parts [] ys h = (refl, h)
indices_parts (x ∷ xs) ys h =
    let both = and_parts (is_index x) (list_all is_index (xs ++ ys)) h in
    let rest = indices_parts xs ys both.1 in
    ((λ t. both.0 t && rest.0 t), rest.1)

-- the nibbles of a block, looked up in both halves and summed, are the look-ups by nibbles in each
-- half
pub rows_in_halves : (l1 l2 h1 h2 x lows highs low high : List ℕ) → length x ≡ 16
    → lows ≡ map low_nibble x ++ map low_nibble x → highs ≡ map high_nibble x ++ map high_nibble x
    → ((p q : List ℕ) → length p ≡ 16 → length q ≡ 16 → lows ≡ p ++ q
    → low ≡ map (looked l1) p ++ map (looked l2) q)
    → ((p q : List ℕ) → length p ≡ 16 → length q ≡ 16 → highs ≡ p ++ q
    → high ≡ map (looked h1) p ++ map (looked h2) q)
    → zip2 bit_xor low high ≡ map (by_nibbles l1 h1) x ++ map (by_nibbles l2 h2) x
rows_in_halves l1 l2 h1 h2 x lows highs low high long lows_are highs_are low_found high_found =
    let a = map low_nibble x in
    let b = map high_nibble x in
    let a_long : length a ≡ 16 = length-map x low_nibble ∙ long in
    let b_long : length b ≡ 16 = length-map x high_nibble ∙ long in
    let same : length (map (looked l1) a) ≡ length (map (looked h1) b) =
    length-map a (looked l1) ∙ a_long ∙ sym (length-map b (looked h1) ∙ b_long) in
    (λ t. zip2 bit_xor (low_found a a a_long a_long lows_are t)
    (high_found b b b_long b_long highs_are t))
    ∙ zip2_append bit_xor (map (looked l1) a) (map (looked l2) a) (map (looked h1) b)
    (map (looked h2) b) same
    ∙ (λ t. nibbles_looked_up l1 h1 x t ++ nibbles_looked_up l2 h2 x t)

-- ---- shifts by a byte

-- the bytes of the lower half after a byte 0, as the shuffle picks them
pub zeros_lower : (x : List ℕ) → length x ≡ 32
    → 0 ∷ pick_l 0 x (range_with_len 0 15) ≡ 0 ∷ take 15 (take 16 x)
zeros_lower x long =
    ap (λ l. 0 ∷ l) (pick_l-range_with_len 0 x 0 15 (omega (arith, long))
    ∙ sym (take-take 15 16 x (omega arith)))

-- the bytes of the upper half after a byte 0, as the shuffle picks them
pub zeros_upper : (x : List ℕ) → length x ≡ 32
    → 0 ∷ pick_l 0 x (range_with_len 16 15) ≡ 0 ∷ take 15 (drop 16 x)
zeros_upper x long = ap (λ l. 0 ∷ l) (pick_l-range_with_len 0 x 16 15 (omega (arith, long)))

-- the byte that falls out of the lower half of one vector comes before the first fifteen of the
-- other's
pub lasts_lower : (x y : List ℕ) → length x ≡ 32 → length y ≡ 32
    → get_or (x ++ y) 15 0 ∷ pick_l 0 (x ++ y) (range_with_len 32 15)
    ≡ get_or (take 16 x) 15 0 ∷ take 15 (take 16 y)
lasts_lower x y x_long y_long =
    let last = get_or_append_left x y 0 15 (omega (arith, x_long))
    ∙ sym (get_or-take 16 x 15 0 (omega arith)) in
    let rest = pick_l-range_with_len 0 (x ++ y) 32 15
    (omega (arith, length-append x y, x_long, y_long))
    ∙ ap (take 15) (drop_at x y 32 x_long) ∙ sym (take-take 15 16 y (omega arith)) in
    λ t. last t ∷ rest t

-- the byte that falls out of the upper half of one vector comes before the first fifteen of the
-- other's
pub lasts_upper : (x y : List ℕ) → length x ≡ 32 → length y ≡ 32
    → get_or (x ++ y) 31 0 ∷ pick_l 0 (x ++ y) (range_with_len 48 15)
    ≡ get_or (drop 16 x) 15 0 ∷ take 15 (drop 16 y)
lasts_upper x y x_long y_long =
    let last = get_or_append_left x y 0 31 (omega (arith, x_long)) ∙ sym (get_or-drop 16 x 15 0) in
    let rest = pick_l-range_with_len 0 (x ++ y) 48 15
    (omega (arith, length-append x y, x_long, y_long))
    ∙ ap (take 15) (sym (drop-drop 16 32 (x ++ y)) ∙ ap (drop 16) (drop_at x y 32 x_long)) in
    λ t. last t ∷ rest t

-- ---- shifts by eight bytes

-- the shuffle that picks eight zeros and eight bytes shifts the block's number by 64 bits
pub eight_zeros : (x : List ℕ) → IsBlock x
    → from_be_bytes w128
    (pick_l 0 (replicate 16 0 ++ x)
    (0 ∷ 1 ∷ 2 ∷ 3 ∷ 4 ∷ 5 ∷ 6 ∷ 7 ∷ 16 ∷ 17 ∷ 18 ∷ 19 ∷ 20 ∷ 21 ∷ 22 ∷ 23 ∷ []))
    ≡ from_be_bytes w128 x / 2 ^ 64
eight_zeros x (long, small) =
    omega (arith, small 8, small 9, small 10, small 11, small 12, small 13, small 14, small 15)

-- the shuffle that picks eight bytes of each of two blocks: bits of the first fall into the second
pub eight_lasts : (x y : List ℕ) → IsBlock x → IsBlock y
    → from_be_bytes w128
    (pick_l 0 (x ++ y)
    (8 ∷ 9 ∷ 10 ∷ 11 ∷ 12 ∷ 13 ∷ 14 ∷ 15 ∷ 16 ∷ 17 ∷ 18 ∷ 19 ∷ 20 ∷ 21 ∷ 22 ∷ 23 ∷ []))
    ≡ from_be_bytes w128 x % 2 ^ 64 * 2 ^ 64 + from_be_bytes w128 y / 2 ^ 64
eight_lasts x y (x_long, x_small) (y_long, y_small) =
    let a = λ (i : ℕ) (h : i < 16). get_or_append_left x y 0 i (omega (arith, h, x_long)) in
    let b = λ (i : ℕ) (h : 16 ≤ i). get_or-append_right x y 16 i 0 x_long h in
    omega (
      arith,
      a 8 (omega arith),
      a 9 (omega arith),
      a 10 (omega arith),
      a 11 (omega arith),
      a 12 (omega arith),
      a 13 (omega arith),
      a 14 (omega arith),
      a 15 (omega arith),
      b 16 (omega arith),
      b 17 (omega arith),
      b 18 (omega arith),
      b 19 (omega arith),
      b 20 (omega arith),
      b 21 (omega arith),
      b 22 (omega arith),
      b 23 (omega arith),
      x_small 8,
      x_small 9,
      x_small 10,
      x_small 11,
      x_small 12,
      x_small 13,
      x_small 14,
      x_small 15,
      y_small 8,
      y_small 9,
      y_small 10,
      y_small 11,
      y_small 12,
      y_small 13,
      y_small 14,
      y_small 15,
    )
