-- The bits of a block's word spread over the slots of a wider one.
use Rattle.std.proofs.Common.{◌≡◌, ℕ, ◌+◌, ◌-◌, ◌*◌, ◌/◌, ◌%◌, ◌^◌, ◌<◌, ◌==◌, Bool, true, false}
use Rattle.std.proofs.Common.{not, ◌&&◌, ◌||◌, cond, nat_le, nat_lt, bit_and, bit_or, List, [], ◌∷◌}
use Rattle.std.proofs.Common.{◌++◌, length, map, get_or, replicate, nat_eq, refl, ap, sym, subst}
use Rattle.std.proofs.Common.{◌∙◌, arith, inl, inr, w8, Fits}
use Rattle.std.proofs.Math.Bool.{and-false, and-true, and_assoc, or-false, or_self}
use Rattle.std.proofs.lemmas.Bool.{eqb-true, and_parts, not-true, cases_lt, lt-ltb, le-ltb}
use Rattle.std.proofs.lemmas.List.{get_or_append_left, get_or-append_right, get_or-map, length-map}
use Rattle.std.proofs.lemmas.List.{length-replicate}
use Rattle.std.proofs.lemmas.Simd.{get_or-zip2, get_or-replicate, get_or-sel_l, length-zip2}
use Rattle.std.proofs.lemmas.Simd.{tops_compared}
use lib.Lanes.{zip2, sel_l, top, Each1}
use Rattle.aes_planes.specs.Bits.{at, bit, Places}
use Rattle.aes_planes.specs.Fips197 as fips
use Rattle.aes_planes.specs.Planes.{held, place}
use Rattle.aes_planes.specs.Words.{lane_bits}
use Rattle.aes_planes.specs.Private.Packing.{row_byte}
use Rattle.aes_planes.proofs.Bits.ByteCases.{all_below, all_below_tells, all_pairs_tell, by_two}
use Rattle.aes_planes.proofs.Bits.NumberBits.{Places-build, bit_low, bit_shl, bit_shr, bit_above}
use Rattle.aes_planes.proofs.Bits.NumberBits.{bit_zero, bit_ones, bit_of_and, bit_of_or}
use Rattle.aes_planes.proofs.Bits.NumberBits.{word_low_byte}
use Rattle.aes_planes.proofs.Words.ByteLanes.{lane_of_two, lane_operators, lane_small}
use Rattle.aes_planes.proofs.Words.LaneBits.{lane_at, repeated_places}
use Rattle.aes_planes.proofs.Words.Packing.{rows_held}

-- ---- bits drawn apart

-- bit i of a word or-ed with its shift by s, under a mask, is bit i or bit i - s where the mask has
-- a one
pub drawn_bit : (s m x i : ℕ) → i < 64 → bit (bit_and (bit_or x (x * 2 ^ s % 2 ^ 64)) m) i
    ≡ ((bit x i || (nat_le s i && bit x (i - s))) && bit m i)
drawn_bit s m x i h = bit_of_and (bit_or x (x * 2 ^ s % 2 ^ 64)) m i
    ∙ ap (λ b. b && bit m i) (bit_of_or x (x * 2 ^ s % 2 ^ 64) i
    ∙ ap (λ b. bit x i || b) (bit_shl 64 x s i h))

-- whether a place has the right bit: under a mask, the first or the second of two bits that can
-- stand there
joined_test : Bool → Bool → Bool → Bool → Bool → Bool → Bool
joined_test p q false o e f = not o
joined_test p q true false e f = not p && not q
joined_test true q true true e f = e && (not q || f)
joined_test false q true true e f = q && f

-- the second of two bits stands alone, or is the same as the first
second_alone : (q : Bool) (x : ℕ → Bool) (v w : ℕ) → (not q || (v == w)) ≡ true
    → (x w || (q && x v)) ≡ x w
second_alone true x v w h = ap (λ k. x w || x k) (eqb-true v w h) ∙ or_self (x w)
second_alone false x v w h = or-false (x w)

-- what the mask lets through of two bits that pass the test is the right bit
right_bit_let_through : (p q b o : Bool) (x : ℕ → Bool) (u v w : ℕ)
    → joined_test p q b o (u == w) (v == w) ≡ true
    → (((p && x u) || (q && x v)) && b) ≡ (o && x w)
unfolding joined_test
right_bit_let_through p q false o x u v w h = and-false _ ∙ ap (λ c. c && x w) (sym (not-true o h))
right_bit_let_through p q true false x u v w h =
    let t = and_parts (not p) (not q) h in
    (λ i. ((not-true p t.0 i && x u) || (not-true q t.1 i && x v)) && true)
right_bit_let_through true q true true x u v w h =
    let t = and_parts (u == w) _ h in
    and-true _ ∙ ap (λ k. x k || (q && x v)) (eqb-true u w t.0) ∙ second_alone q x v w t.1
right_bit_let_through false q true true x u v w h =
    let t = and_parts q (v == w) h in
    and-true _ ∙ (λ i. t.0 i && x (eqb-true v w t.1 i))

-- the test of one step of spreading at place i
step_test : ℕ → ℕ → (ℕ → Bool) → (ℕ → Bool) → (ℕ → ℕ) → (ℕ → ℕ) → ℕ → Bool
step_test s m on on-next from from-next i =
    joined_test (on i) (nat_le s i && on (i - s)) (bit m i) (on-next i) (from i == from-next i)
    (from (i - s) == from-next i)

module _ (s m : ℕ) (on on-next : ℕ → Bool) (from from-next : ℕ
    → ℕ) (right : all_below 64 (step_test s m on on-next from from-next) ≡ true) where
  -- a step that passes the test at every place draws the bits apart as it should
  bits_drawn : (x a b : ℕ) → ((i : ℕ) → i < 64 → bit a i ≡ (on i && bit x (from i)))
      → ((i : ℕ) → i < 64 → bit b i ≡ ((bit a i || (nat_le s i && bit a (i - s))) && bit m i))
      → (i : ℕ) → i < 64 → bit b i ≡ (on-next i && bit x (from-next i))
  unfolding step_test
  bits_drawn x a b f g i h =
      g i h ∙ (λ t. (f i h t || (nat_le s i && f (i - s) (omega arith) t)) && bit m i)
      ∙ ap (λ v. ((on i && bit x (from i)) || v) && bit m i)
      (sym (and_assoc (nat_le s i) (on (i - s)) (bit x (from (i - s)))))
      ∙ right_bit_let_through (on i) (nat_le s i && on (i - s)) (bit m i) (on-next i) (bit x) (from i)
      (from (i - s)) (from-next i)
      (all_below_tells 64 (step_test s m on on-next from from-next) right i h)

-- the first q places of each l, which hold the bits in their order
abbrev first_places : ℕ → ℕ → ℕ → Bool
first_places l q i = nat_lt (i % l) q

-- which bit of the word stands at place i, where the first q places of each l hold the bits in
-- their order
abbrev from_place : ℕ → ℕ → ℕ → ℕ
from_place l q i = q * (i / l) + i % l

-- a number below 2 ^ 16 has no further bits
sixteen_bits : (x i : ℕ) → x < 2 ^ 16 → i < 64
    → bit x i ≡ (first_places 64 16 i && bit x (from_place 64 16 i))
sixteen_bits x i f h =
    let e : 16 * (i / 64) + i % 64 ≡ i = omega arith in
    let spot = from_place 64 16 i in
    ap (bit x) (sym e) ∙ elim (cases_lt (i % 64) 16) [
      | inl lt ↦ ap (λ b. b && bit x spot) (sym (lt-ltb (i % 64) 16 lt))
      | inr le ↦ bit_above x 16 spot f (omega (arith, le))
          ∙ ap (λ b. b && bit x spot) (sym (le-ltb (i % 64) 16 le))
    ]

-- what one step computes
abbrev Drawn : ℕ → ℕ → ℕ → ℕ → Type 0
Drawn s m a b = (i : ℕ) → i < 64 → bit b i ≡ ((bit a i || (nat_le s i && bit a (i - s))) && bit m i)

-- six such steps leave each of the lowest sixteen bits four times
pub each_four_times : (x eights fours twos ones twice last : ℕ) → x < 2 ^ 16
    → Drawn 24 0x000000ff000000ff x eights → Drawn 12 0x000f000f000f000f eights fours
    → Drawn 6 0x0303030303030303 fours twos
    → Drawn 3 0x1111111111111111 twos ones → Drawn 1 0x3333333333333333 ones twice
    → Drawn 2 0xffffffffffffffff twice last
    → (i : ℕ) → i < 64 → bit last i ≡ bit x (i / 4)
unfolding all_below step_test joined_test bit
each_four_times x eights fours twos ones twice last f d24 d12 d6 d3 d1 d2 =
    let at = first_places in
    let to = from_place in
    let by8 = bits_drawn 24 0x000000ff000000ff (at 64 16) (at 32 8) (to 64 16)
    (to 32 8) refl x x eights
    (λ i h. sixteen_bits x i f h) d24 in
    let by4 = bits_drawn 12 0x000f000f000f000f (at 32 8) (at 16 4) (to 32 8)
    (to 16 4) refl x eights fours by8 d12 in
    let by2 = bits_drawn 6 0x0303030303030303 (at 16 4) (at 8 2) (to 16 4)
    (to 8 2) refl x fours twos by4 d6 in
    let by1 = bits_drawn 3 0x1111111111111111 (at 8 2) (at 4 1) (to 8 2)
    (to 4 1) refl x twos ones by2 d3 in
    let both = bits_drawn 1 0x3333333333333333 (at 4 1) (at 4 2) (to 4 1)
    (λ i. i / 4) refl x ones twice by1 d1 in
    bits_drawn 2 0xffffffffffffffff (at 4 2) (λ i. true) (λ i. i / 4)
    (λ i. i / 4) refl x twice last both d2

-- ---- a lane for each bit

-- a lane of ones where a byte has a bit
abbrev lane_if : ℕ → ℕ → ℕ
lane_if b m = cond (nat_eq (bit_and b m) m) 255 0

-- a lane is ones or zeros by the byte's bit, by all bytes and bits
lane_right : (b q : ℕ) → b < 256 → q < 8 → lane_if b (2 ^ q) ≡ cond (bit b q) 255 0
unfolding all_below bit
lane_right b q h k =
    eqb-true _ _ (all_pairs_tell 256 8 (λ b q. lane_if b (2 ^ q) == cond (bit b q) 255 0)
    refl b q h k)

-- a lane that is all ones or all zeros, by a bit
abbrev pub one_or_none : Bool → ℕ
one_or_none b = cond b 255 0

-- a lane of all ones or all zeros for each of sixteen bits
abbrev lanes_by_bits : List Bool → List ℕ
lanes_by_bits ms = sel_l ms (replicate 16 255) (replicate 16 0)

-- lanes of ones where those of x have all bits of those of m
abbrev ones_where : List ℕ → List ℕ → List ℕ
ones_where x m =
    lanes_by_bits (map (top 7) (zip2 (λ a b. cond (nat_eq a b) 255 0) (zip2 bit_and x m) m))

-- where lane j of m has bit p alone, lane j is ones or zeros by bit p of that of x
pub lane_with : (x m : List ℕ) (j p : ℕ) → length x ≡ 16 → length m ≡ 16 → Each1 (Fits w8) x
    → j < 16 → p < 8
    → get_or m j 0 ≡ 2 ^ p → get_or (ones_where x m) j 0 ≡ one_or_none (bit (get_or x j 0) p)
lane_with x m j p d e f hj hp is =
    let kept : List ℕ = zip2 bit_and x m in
    let tests : List Bool = zip2 nat_eq kept m in
    let long : length kept ≡ 16 = length-zip2 bit_and x m (d ∙ sym e) ∙ d in
    let whole : length tests ≡ 16 = length-zip2 nat_eq kept m (long ∙ sym e) ∙ long in
    ap (λ v. get_or (lanes_by_bits v) j 0) (tops_compared w8 nat_eq kept m)
    ∙ get_or-sel_l tests (replicate 16 255) (replicate 16 0) j 0 (omega (arith, whole)) hj hj
    ∙ (λ i. cond (get_or tests j false) (get_or-replicate {A = ℕ} 16 j 255 0 hj i)
    (get_or-replicate {A = ℕ} 16 j 0 0 hj i))
    ∙ ap one_or_none (get_or-zip2 nat_eq kept m j 0 0 false (omega (arith, long))
    (omega (arith, e)))
    ∙ (λ i. one_or_none (nat_eq (lane_of_two 16 bit_and x m j d e hj i) (get_or m j 0)))
    ∙ ap (lane_if (get_or x j 0)) is
    ∙ lane_right (get_or x j 0) p (lane_small x j (omega (arith, d)) f) hp

-- the byte of bit p alone, for each p
abbrev powers : List ℕ
powers = 1 ∷ 2 ∷ 4 ∷ 8 ∷ 16 ∷ 32 ∷ 64 ∷ 128 ∷ []

-- the bits of eight lanes, and of eight more
pub bit_of_lane : (j : ℕ) → j < 16 → get_or (powers ++ powers) j 0 ≡ 2 ^ (j % 8)
unfolding all_below
bit_of_lane j h = eqb-true _ _
    (all_below_tells 16 (λ j. get_or (powers ++ powers) j 0 == 2 ^ (j % 8)) refl j h)

-- of sixteen lanes, the first eight have one byte and the others another
pub byte_of_lane : (low high j : ℕ) → j < 16
    → get_or (replicate 8 low ++ replicate 8 high) j 0 ≡ get_or (low ∷ high ∷ []) (j / 8) 0
byte_of_lane low high j h =
    elim (cases_lt j 8) [
      | inl lt ↦
          let q : j / 8 ≡ 0 = omega arith in
          rw q (get_or_append_left (replicate 8 low) (replicate 8 high) 0 j lt
          ∙ get_or-replicate 8 j low 0 lt)
      | inr le ↦
          let q : j / 8 ≡ 1 = omega arith in
          rw q (get_or-append_right (replicate 8 low) (replicate 8 high) 8 j 0 refl le
          ∙ get_or-replicate 8 (j - 8) high 0 (omega arith))
    ]

-- each bit of a lane that is all ones or all zeros
lane_of_ones : (b : Bool) (p : ℕ) → p < 8 → bit (cond b 255 0) p ≡ b
lane_of_ones true p h = bit_ones 8 p h
lane_of_ones false p h = bit_zero p

-- bit p of byte q of a word of sixteen bits is bit 8 * q + p of the word
byte_of_two : (x q p : ℕ) → q < 2 → p < 8
    → bit (get_or (x % 256 ∷ x / 256 ∷ []) q 0) p ≡ bit x (8 * q + p)
byte_of_two x q p hq hp =
    by_two (λ q. bit (get_or (x % 256 ∷ x / 256 ∷ []) q 0) p ≡ bit x (8 * q + p))
    (bit_low x 8 p hp ∙ ap (bit x) (omega arith)) (bit_shr x 8 p ∙ ap (bit x) (omega arith)) q hq

-- lanes of ones where sixteen bits have a bit: that bit in every slot
pub lanes_spread : (x : ℕ) (xs : List ℕ) → x < 2 ^ 16
    → ((j : ℕ) → j < 16
    → get_or xs j 0 ≡ cond (bit (get_or (x % 256 ∷ x / 256 ∷ []) (j / 8) 0) (j % 8)) 255 0)
    → Places 128 (lane_bits xs) (λ i. bit x (4 * (i / 32) + i % 32 / 8))
lanes_spread x xs f h = Places-build 128 _ _ (λ i l.
    ap (λ v. bit v (i % 8)) (h (i / 8) (omega arith)) ∙ lane_of_ones _ (i % 8) (omega arith)
    ∙ byte_of_two x (i / 8 / 8) (i / 8 % 8) (omega arith) (omega arith) ∙ ap (bit x) (omega arith))

-- words that have the bits of these lanes at the places of each block hold one block in every slot
pub held_in_every_slot : {A : Type 0} (bits : A → List Bool) (n : ℕ) (ws : List A) (d : A)
    (block : List ℕ)
    (xs : List (List ℕ)) → length ws ≡ 8 → fips.IsBlock block
    → ((p j : ℕ) → p < 8 → j < 16 → get_or (get_or xs p []) j 0
    ≡ cond (bit (row_byte block j) p) 255 0)
    → ((p r c k : ℕ) → p < 8 → r < 4 → c < 4 → k < n
    → at (bits (get_or ws p d)) (place n r c k)
    ≡ at (lane_bits (get_or xs p [])) (8 * (4 * r + c) + k % 8))
    → held n (map bits ws) ≡ replicate n block
held_in_every_slot bits n ws d block xs eight typed lanes spread =
    let same : (k : ℕ) → k < n → get_or (replicate n block) k [] ≡ block =
    λ k hk. get_or-replicate n k block [] hk in
    rows_held n (map bits ws) (replicate n block) (length-map ws bits ∙ eight)
    (length-replicate n block)
    (λ k hk. subst fips.IsBlock (sym (same k hk)) typed) (λ p r c k hp hr hc hk.
    let q = 4 * r + c in
    ap (λ w. at w (place n r c k)) (get_or-map bits ws p d [] (omega (arith, eight, hp)))
    ∙ spread p r c k hp hr hc hk ∙ lane_at (get_or xs p []) q (k % 8) (omega arith) (omega arith)
    ∙ ap (λ v. bit v (k % 8)) (lanes p q hp (omega arith)) ∙ lane_of_ones _ (k % 8) (omega arith)
    ∙ ap (λ b. bit (row_byte b q) p) (sym (same k hk)))

-- what the calls of a word leave, where it is lanes
pub ruleset lane_calls = (lane_operators, repeated_places, word_low_byte)
