-- Words in byte lanes, in any order of the lanes: their bits through the operations on vectors.
use Rattle.std.proofs.Common.{◌≡◌, ℕ, ◌+◌, ◌-◌, ◌*◌, ◌/◌, ◌%◌, ◌^◌, ◌<◌, ◌≤◌, Bool, true, false}
use Rattle.std.proofs.Common.{◌&&◌, cond, nat_lt, bit_or, List, length, get_or, replicate, refl, ap}
use Rattle.std.proofs.Common.{sym, ◌∙◌, arith, w8, Fits}
use Rattle.std.proofs.lemmas.Simd.{swz_l, get_or-swz_l, get_or-zip2, get_or-replicate, length-zip2}
use Rattle.std.proofs.lemmas.Simd.{length-replicate, Each1-get_or, below_from_Fits}
use Rattle.std.proofs.lemmas.Bool.{lt-ltb, le-ltb}
use lib.Lanes.{zip2, Each1}
use Rattle.aes_planes.specs.Bits.{at, bit, Places}
use Rattle.aes_planes.specs.Fips197.{build}
use Rattle.aes_planes.proofs.Bits.ByteCases.{all_pairs, all_pairs_tell}
use Rattle.aes_planes.proofs.Bits.NumberBits.{Places-build, bit_of_and, bit_of_or, bit_of_xor}
use Rattle.aes_planes.proofs.Bits.NumberBits.{bit_funnel, bit_zero}
use Rattle.aes_planes.proofs.Lists.{get_or-build}
use Rattle.aes_planes.proofs.Words.Swizzles.{lane_or_zero, lane_from, picked}
use Rattle.aes_planes.proofs.Words.Moved.{Turned, Right, Left, left_by}

-- ---- a lane of what an operator makes of n lanes

module _ (n : ℕ) where
  -- lane j of what f makes of two vectors, lane by lane, is f of their lanes j
  pub lane_of_two : (f : ℕ → ℕ → ℕ) (xs ys : List ℕ) (j : ℕ) → length xs ≡ n → length ys ≡ n → j < n
      → get_or (zip2 f xs ys) j 0 ≡ f (get_or xs j 0) (get_or ys j 0)
  lane_of_two f xs ys j d e h = get_or-zip2 f xs ys j 0 0 0 (omega (arith, d)) (omega (arith, e))

  -- lane j of what f makes of a vector and a vector of s in every lane is f of lane j and s
  pub lane_of_splat : (f : ℕ → ℕ → ℕ) (xs : List ℕ) (s j : ℕ) → length xs ≡ n → j < n
      → get_or (zip2 f xs (replicate n s)) j 0 ≡ f (get_or xs j 0) s
  lane_of_splat f xs s j d h =
      lane_of_two f xs (replicate n s) j d (length-replicate n s) h
      ∙ ap (f (get_or xs j 0)) (get_or-replicate n j s 0 h)

  -- what f makes of a vector and a vector of s in every lane has as many lanes as the first
  pub length-splat : (f : ℕ → ℕ → ℕ) (xs : List ℕ) (s : ℕ) → length xs ≡ n
      → length (zip2 f xs (replicate n s)) ≡ n
  length-splat f xs s d = length-zip2 f xs (replicate n s) (d ∙ sym (length-replicate n s)) ∙ d

  -- two vectors under an operator, each under another with the same number in each lane, are so
  -- lane by lane
  pub lane_of_splats : (f g h : ℕ → ℕ → ℕ) (a b : List ℕ) (s t j : ℕ) → length a ≡ n
      → length b ≡ n → j < n
      → get_or (zip2 f (zip2 g a (replicate n s)) (zip2 h b (replicate n t))) j 0
      ≡ f (g (get_or a j 0) s) (h (get_or b j 0) t)
  lane_of_splats f g h a b s t j d e l =
      lane_of_two f (zip2 g a (replicate n s)) (zip2 h b (replicate n t)) j (length-splat g a s d)
      (length-splat h b t e) l
      ∙ (λ i. f (lane_of_splat g a s j d l i) (lane_of_splat h b t j e l i))

-- lane j of what f makes of two vectors that are long enough is f of their lanes j
pub lane_made : (f : ℕ → ℕ → ℕ) (xs ys : List ℕ) (j : ℕ) → j < length xs → j < length ys
    → get_or (zip2 f xs ys) j 0 ≡ f (get_or xs j 0) (get_or ys j 0)
lane_made f xs ys j = get_or-zip2 f xs ys j 0 0 0

-- what operators on two vectors leave, bit by bit
pub ruleset lane_operators = (get_or-build, lane_made, bit_of_and, bit_of_or, bit_of_xor)

-- a lane of a vector of bytes is below 2 ^ 8
pub lane_small : (x : List ℕ) (j : ℕ) → j < length x → Each1 (Fits w8) x → get_or x j 0 < 2 ^ 8
lane_small x j l h = Each1-get_or (λ (v : ℕ). v < 2 ^ 8) x j 0 l (below_from_Fits w8 x h)

-- a lane of eight bits shifted right
abbrev pub shr8 : ℕ → ℕ → ℕ
shr8 x y = x / 2 ^ y

-- a lane of eight bits shifted left
abbrev pub shl8 : ℕ → ℕ → ℕ
shl8 x y = x * 2 ^ y % 2 ^ 8

-- in each of n lanes the bits of a from p on, and then the low ones of b
abbrev pub funneled : ℕ → ℕ → ℕ → List ℕ → List ℕ → List ℕ
funneled n p q a b = zip2 bit_or (zip2 shr8 a (replicate n p)) (zip2 shl8 b (replicate n q))

-- ---- words of w bits

-- bit i of the word is bit i % 8 of lane `lane i`, which is one of n, and the same for the bits of
-- a byte
pub record IsLayout (n w : ℕ) (lane : ℕ → ℕ) : Type 0 where
  pub sized : w ≡ 8 * n
  pub within : (i : ℕ) → i < w → lane i < n
  pub same : (i k : ℕ) → i / 8 ≡ k / 8 → lane i ≡ lane k

-- the bits of a word with such a layout
abbrev pub laid : ℕ → (ℕ → ℕ) → List ℕ → List Bool
laid w lane xs = build w (λ i. bit (get_or xs (lane i) 0) (i % 8))

module _ {n w : ℕ} {lane : ℕ → ℕ} (laws : IsLayout n w lane) where
  -- bit i of the word is that of the lane there
  pub at-laid : (xs : List ℕ) (i : ℕ) → i < w
      → bit (get_or xs (lane i) 0) (i % 8) ≡ at (laid w lane xs) i
  at-laid xs i h = sym (get_or-build w i (λ i. bit (get_or xs (lane i) 0) (i % 8)) false h)

  -- bit i of the word, where the lane and the place in it are given by other terms
  pub bit_at : (xs : List ℕ) (j r i : ℕ) → i < w → j ≡ lane i → r ≡ i % 8
      → bit (get_or xs j 0) r ≡ at (laid w lane xs) i
  bit_at xs j r i h e f = (λ t. bit (get_or xs (e t) 0) (f t)) ∙ at-laid xs i h

  -- bit r of byte j of the word is bit r of the lane there
  pub at_byte : (xs : List ℕ) (j r : ℕ) → 8 * j + 8 ≤ w → r < 8
      → at (laid w lane xs) (8 * j + r) ≡ bit (get_or xs (lane (8 * j)) 0) r
  at_byte xs j r h k = sym (bit_at xs (lane (8 * j)) r (8 * j + r) (omega arith)
      (laws.same (8 * j) (8 * j + r) (omega arith)) (omega arith))

  -- a word with a byte in every lane has at each place the bit of the byte, by the place modulo 8
  pub byte_in_each : (b : ℕ) → Places w (laid w lane (replicate n b)) (λ i. bit b (i % 8))
  byte_in_each b = Places-build w _ _ (λ i h.
      ap (λ v. bit v (i % 8)) (get_or-replicate n (lane i) b 0 (laws.within i h)))

  -- bit i % 8 of a lane that was picked so is bit k of the word, or none
  bit_picked : (x : List ℕ) (i k o source : ℕ) (some : Bool)
      → (some ≡ true → (k < w) × (source < 16) × (o + source ≡ lane k) × (i % 8 ≡ k % 8))
      → (some ≡ false → 16 ≤ source)
      → bit (lane_from x o source) (i % 8) ≡ (some && at (laid w lane x) k)
  bit_picked x i k o source true there none =
      let t = there refl in
      ap (λ b. bit (cond b (get_or x (o + source) 0) 0) (i % 8)) (lt-ltb source 16 t.1)
      ∙ bit_at x (o + source) (i % 8) k t.0 t.2 t.3
  bit_picked x i k o source false there none =
      ap (λ b. bit (cond b (get_or x (o + source) 0) 0) (i % 8)) (le-ltb source 16 (none refl))
      ∙ bit_zero (i % 8)

  -- a swizzle by numbers that are computed of m has in place i bit k of the word, or none
  pub swizzled : (to : ℕ → List ℕ) (from : ℕ → ℕ → ℕ)
      → all_pairs 17 n (λ m j. lane_or_zero (get_or (to m) j 0) (from m (j % 16))) ≡ true
      → (x : List ℕ) (m i k : ℕ) (some : Bool) → length (to m) ≡ n → m ≤ 16 → i < w
      → (some ≡ true → (k < w) × (from m (lane i % 16) < 16)
      × (16 * (lane i / 16) + from m (lane i % 16) ≡ lane k) × (i % 8 ≡ k % 8))
      → (some ≡ false → 16 ≤ from m (lane i % 16))
      → bit (get_or (swz_l w8 16 x 0 (to m)) (lane i) 0) (i % 8) ≡ (some && at (laid w lane x) k)
  swizzled to from right x m i k some e h l there none =
      let j = lane i in
      let source = from m (j % 16) in
      let start : 16 * ((0 + j) / 16) ≡ 16 * (j / 16) = omega arith in
      ap (λ v. bit v (i % 8)) (get_or-swz_l w8 16 x 0 (to m) j (omega (arith, e, laws.within i l))
      ∙ picked x (get_or (to m) j 0) source (16 * ((0 + j) / 16))
      (all_pairs_tell 17 n (λ m j. lane_or_zero (get_or (to m) j 0) (from m (j % 16))) right m j
      (omega arith)
      (laws.within i l))
      ∙ ap (λ o. lane_from x o source) start)
      ∙ bit_picked x i k (16 * (j / 16)) source some there none

  -- ---- rotations and shifts by bits, made of those by bytes
  -- (in each lane are the high bits of a, and then the low bits of b)

  -- lanes that are joined of two parts are right if each of the two is
  funnel : (p q : ℕ) (a b : List ℕ) (f : ℕ → Bool) → p + q ≡ 8 → length a ≡ n → length b ≡ n
      → Each1 (Fits w8) a
      → ((i : ℕ) → i < w → i % 8 + p < 8 → at (laid w lane a) (i + p) ≡ f i)
      → ((i : ℕ) → i < w → 8 ≤ i % 8 + p → at (laid w lane b) (i - q) ≡ f i)
      → Places w (laid w lane (funneled n p q a b)) f
  funnel p q a b f s d e fits low high = Places-build w _ _ (λ i l.
      let j = lane i in
      let size : w ≡ 8 * n = laws.sized in
      let inside : j < length a = omega (arith, d, laws.within i l) in
      ap (λ v. bit v (i % 8)) (lane_of_splats n bit_or shr8 shl8 a b p q j d e (laws.within i l))
      ∙ bit_funnel 8 p q (get_or a j 0) (get_or b j 0) (i % 8) (f i) s (lane_small a j inside fits)
      (omega arith)
      (λ lt. bit_at a j (i % 8 + p) (i + p) (omega (arith, size, lt, l))
      (laws.same i (i + p) (omega (arith, lt)))
      (omega (arith, lt)) ∙ low i l lt)
      (λ le. bit_at b j (i % 8 - q) (i - q) (omega (arith, l))
      (laws.same i (i - q) (omega (arith, s, le)))
      (omega (arith, s, le)) ∙ high i l le))

  -- two rotations by neighbouring numbers of bytes, joined within each lane, are a rotation by m
  -- bits
  pub rotated : (x : List Bool) (a b : List ℕ) (m : ℕ) → length a ≡ n → length b ≡ n
      → Each1 (Fits w8) a
      → Turned w x (laid w lane a) (8 * (m / 8)) → Turned w x (laid w lane b) (8 * (m / 8 + 1))
      → Turned w x (laid w lane (funneled n (m % 8) (8 - m % 8) a b)) m
  rotated x a b m a_long b_long a_fits a_is b_is =
      let size : w ≡ 8 * n = laws.sized in
      funnel (m % 8) (8 - m % 8) a b _ (omega arith) a_long b_long a_fits
      (λ i l s. a_is (i + m % 8) (omega (arith, size, s, l))
      ∙ ap (λ v. at x (v % w)) (omega arith))
      (λ i l s. b_is (i - (8 - m % 8)) (omega (arith, l))
      ∙ ap (λ v. at x (v % w)) (omega (arith, s)))

  -- two shifts right by neighbouring numbers of bytes, joined within each lane, are a shift by m
  -- bits
  pub shifted_right : (x : List Bool) (a b : List ℕ) (m : ℕ) → length a ≡ n → length b ≡ n
      → Each1 (Fits w8) a
      → Right w x (laid w lane a) (8 * (m / 8)) → Right w x (laid w lane b) (8 * (m / 8 + 1))
      → Right w x (laid w lane (funneled n (m % 8) (8 - m % 8) a b)) m
  shifted_right x a b m a_long b_long a_fits a_is b_is =
      let size : w ≡ 8 * n = laws.sized in
      funnel (m % 8) (8 - m % 8) a b _ (omega arith) a_long b_long a_fits
      (λ i l s. a_is (i + m % 8) (omega (arith, size, s, l))
      ∙ ap (λ v. nat_lt v w && at x v) (omega arith))
      (λ i l s. b_is (i - (8 - m % 8)) (omega (arith, l))
      ∙ ap (λ v. nat_lt v w && at x v) (omega (arith, s)))

  -- two shifts left by neighbouring numbers of bytes, joined within each lane, are a shift by m
  -- bits
  pub shifted_left : (x : List Bool) (a b : List ℕ) (m : ℕ) → length a ≡ n → length b ≡ n
      → Each1 (Fits w8) a
      → Left w x (laid w lane a) (8 * (m / 8 + 1)) → Left w x (laid w lane b) (8 * (m / 8))
      → Left w x (laid w lane (funneled n (8 - m % 8) (m % 8) a b)) m
  shifted_left x a b m a_long b_long a_fits a_is b_is =
      let size : w ≡ 8 * n = laws.sized in
      funnel (8 - m % 8) (m % 8) a b _ (omega arith) a_long b_long a_fits
      (λ i l s. a_is (i + (8 - m % 8)) (omega (arith, size, s, l))
      ∙ left_by x (8 * (m / 8 + 1)) m (i + (8 - m % 8)) i (omega arith))
      (λ i l s. b_is (i - m % 8) (omega (arith, l))
      ∙ left_by x (8 * (m / 8)) m (i - m % 8) i (omega (arith, s)))
