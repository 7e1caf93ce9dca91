-- Eight words as squares of bits, one for each lane: their transpose by three exchanges, at every
-- width.
use Rattle.std.proofs.Common.{◌≡◌, ℕ, ◌+◌, ◌-◌, ◌*◌, ◌/◌, ◌%◌, ◌^◌, ◌<◌, ◌≤◌, ◌==◌, Bool, true}
use Rattle.std.proofs.Common.{false, ◌&&◌, cond, nat_le, nat_lt, bit_and, bit_xor, List, [], ◌∷◌}
use Rattle.std.proofs.Common.{get_or, refl, ap, sym, ◌∙◌, arith, ◌⊎◌, inl, inr, length, replicate}
use Rattle.std.proofs.lemmas.Bool.{cases_lt, eqb-true, and_parts, ltb-true, leb-true, le-leb}
use Rattle.std.proofs.lemmas.Bool.{lt-leb}
use lib.Lanes.{zip2}
use Rattle.std.proofs.lemmas.Simd.{length-zip2}
use Rattle.aes_planes.specs.Bits.{at, bit, xor}
use Rattle.aes_planes.specs.Private.Packing.{source_word, source_bit}
use Rattle.aes_planes.specs.Words.{word_bits}
use Rattle.aes_planes.proofs.Bits.BitCases.{all_bools, all_bools_tells, same, same_tells, xor_false}
use Rattle.aes_planes.proofs.Bits.ByteCases.{all_below, all_pairs_tell}
use Rattle.aes_planes.proofs.Bits.NumberBits.{bit_shl, bit_shl_high, bit_shr, bit_above, bit_of_and}
use Rattle.aes_planes.proofs.Bits.NumberBits.{bit_of_xor, at-word_bits}
use Rattle.aes_planes.proofs.Words.Constants.{bytes_of_32, bytes_of_64}
use Rattle.aes_planes.proofs.Words.ByteLanes.{IsLayout, laid, at_byte, lane_of_two, lane_of_splat}
use Rattle.aes_planes.proofs.Words.ByteLanes.{length-splat, shr8, shl8}

-- ---- one exchange between two numbers

-- the test of all cases
flip_test : List Bool → Bool
flip_test b =
    same (xor (at b 0) (xor (at b 0) (at b 1) && at b 2)) (cond (at b 2) (at b 1) (at b 0))
    && same (xor (at b 0) (xor (at b 1) (at b 0) && at b 2)) (cond (at b 2) (at b 1) (at b 0))

-- a bit that differs is flipped exactly where the mask says so
flipped_by_mask : (a b k : Bool)
    → (xor a (xor a b && k) ≡ cond k b a) × (xor a (xor b a && k) ≡ cond k b a)
unfolding all_bools flip_test same
flipped_by_mask a b k =
    let t = and_parts _ _ (all_bools_tells 3 flip_test refl (a ∷ b ∷ k ∷ []) refl) in
    (same_tells _ _ t.0, same_tells _ _ t.1)

-- a bit that differs from one that may come from below the lowest place is flipped where the mask
-- says so
flipped_by_mask_if : (a b c l k : Bool) → (l ≡ true → c ≡ a)
    → xor a (l && (xor b c && k)) ≡ cond (l && k) b a
flipped_by_mask_if a b c true k e = ap (λ c. xor a (xor b c && k)) (e refl)
    ∙ (flipped_by_mask a b k).1
flipped_by_mask_if a b c false k e = xor_false a

-- the bits of high under the mask m that differ from those of low s places up
abbrev pub differing : ℕ → ℕ → ℕ → ℕ → ℕ
differing s m low high = bit_and (bit_xor high (low / 2 ^ s)) m

-- bit j of `differing` says whether two bits differ under the mask
differing_bit : (s m low high j : ℕ) → bit (differing s m low high) j
    ≡ (xor (bit high j) (bit low (j + s)) && bit m j)
differing_bit s m low high j = bit_of_and (bit_xor high (low / 2 ^ s)) m j
    ∙ ap (λ v. v && bit m j) (bit_of_xor high (low / 2 ^ s) j
    ∙ ap (xor (bit high j)) (bit_shr low s j))

-- the upper number takes its bits under the mask from the lower one
exchanged_high : (s m low high i : ℕ) → bit (bit_xor high (differing s m low high)) i
    ≡ cond (bit m i) (bit low (i + s)) (bit high i)
exchanged_high s m low high i = bit_of_xor high (differing s m low high) i
    ∙ ap (xor (bit high i)) (differing_bit s m low high i)
    ∙ (flipped_by_mask (bit high i) (bit low (i + s)) (bit m i)).0

-- the lower number takes its bits under the mask from the upper one
exchanged_low : (w s m low high i : ℕ) → i < w
    → bit (bit_xor low (differing s m low high * 2 ^ s % 2 ^ w)) i
    ≡ cond (nat_le s i && bit m (i - s)) (bit high (i - s)) (bit low i)
exchanged_low w s m low high i h = bit_of_xor low (differing s m low high * 2 ^ s % 2 ^ w) i
    ∙ ap (xor (bit low i)) (bit_shl w (differing s m low high) s i h
    ∙ ap (λ b. nat_le s i && b) (differing_bit s m low high (i - s)))
    ∙ flipped_by_mask_if (bit low i) (bit high (i - s)) (bit low (i - s + s)) (nat_le s i)
    (bit m (i - s))
    (λ e. let le : s ≤ i = leb-true s i e in ap (bit low) (omega (arith, le)))

-- ---- the same in each lane, under a byte that shifts none of its bits out of a lane

-- a byte that shifts none of its bits out of a lane has no bit among the s highest
no_mask_past_lane : (s m r : ℕ) → m * 2 ^ s < 2 ^ 8 → 8 ≤ r + s → bit m r ≡ false
no_mask_past_lane s m r f h =
    let e : r ≡ r + s - s = omega arith in
    ap (bit m) e ∙ sym (bit_shl_high m s (r + s) (omega arith))
    ∙ bit_above (m * 2 ^ s) 8 (r + s) f h

-- a bit under the mask stays in its lane
pub mask_within_lane : (s m r : ℕ) → m * 2 ^ s < 2 ^ 8 → bit m r ≡ true → r + s < 8
mask_within_lane s m r f h =
    elim (cases_lt (r + s) 8) as (λ _. r + s < 8) [
      | inl lt ↦ lt
      | inr le ↦ absurd
          (grind (arith, h, no_mask_past_lane s m r f le))
    ]

-- choices between bits that are the same where they are taken
chosen_same : (a b : Bool) (x y u v : Bool) → a ≡ b → (b ≡ true → x ≡ u) → y ≡ v
    → cond a x y ≡ cond b u v
chosen_same a true x y u v e f g = ap (λ c. cond c x y) e ∙ f refl
chosen_same a false x y u v e f g = ap (λ c. cond c x y) e ∙ g

module _ (w s m M low high : ℕ) (stays : m * 2 ^ s < 2 ^ 8) (few : s < 8)
    (repeated : (i : ℕ) → i < w → bit M i ≡ bit m (i % 8)) where
  -- s places below bit r of a lane, a mask that repeats a byte has bit r - s of the byte, or none
  masked_below : (j r : ℕ) → 8 * j + 8 ≤ w → r < 8 → (r < s) ⊎ (s ≤ r)
      → (8 * j + r < s) ⊎ (s ≤ 8 * j + r)
      → (nat_le s (8 * j + r) && bit M (8 * j + r - s)) ≡ (nat_le s r && bit m (r - s))
  masked_below j r hj hr (inr le) (inr u) =
      let e : (8 * j + r - s) % 8 ≡ r - s = omega (arith, le, u) in
      (λ i. le-leb s (8 * j + r) u i && (repeated (8 * j + r - s) (omega arith) ∙ ap (bit m) e) i)
      ∙ ap (λ b. b && bit m (r - s)) (sym (le-leb s r le))
  masked_below j r hj hr (inr le) (inl u) = absurd (omega (arith, le, u))
  masked_below j r hj hr (inl lt) (inr u) =
      let e : (8 * j + r - s) % 8 ≡ 8 + r - s = omega (arith, lt, u) in
      let none = repeated (8 * j + r - s) (omega arith) ∙ ap (bit m) e
      ∙ no_mask_past_lane s m (8 + r - s) stays (omega (arith, lt)) in
      (λ i. le-leb s (8 * j + r) u i && none i) ∙ ap (λ b. b && bit m (r - s)) (sym (lt-leb s r lt))
  masked_below j r hj hr (inl lt) (inl u) =
      ap (λ b. b && bit M (8 * j + r - s)) (lt-leb s (8 * j + r) u)
      ∙ ap (λ b. b && bit m (r - s)) (sym (lt-leb s r lt))

  -- after an exchange the high word has, under the mask, the low word's bit s places up, and else
  -- its own
  pub word_high : (j r : ℕ) → 8 * j + 8 ≤ w → r < 8
      → at (word_bits w (bit_xor high (differing s M low high))) (8 * j + r)
      ≡ cond (bit m r) (at (word_bits w low) (8 * j + (r + s))) (at (word_bits w high) (8 * j + r))
  word_high j r hj hr =
      let byte : (8 * j + r) % 8 ≡ r = omega arith in
      let spot : 8 * j + r + s ≡ 8 * j + (r + s) = omega arith in
      sym (at-word_bits w (bit_xor high (differing s M low high)) (8 * j + r) (omega arith))
      ∙ exchanged_high s M low high (8 * j + r)
      ∙ chosen_same _ _ _ _ _ _ (repeated (8 * j + r) (omega arith) ∙ ap (bit m) byte)
      (λ e. ap (bit low) spot ∙ at-word_bits w low (8 * j + (r + s)) (omega (arith, hj, mask_within_lane s m r stays e)))
      (at-word_bits w high (8 * j + r) (omega arith))

  -- after an exchange the low word has, s places above the mask, the high word's bit s places down,
  -- and else its own
  pub word_low : (j r : ℕ) → 8 * j + 8 ≤ w → r < 8
      → at (word_bits w (bit_xor low (differing s M low high * 2 ^ s % 2 ^ w))) (8 * j + r)
      ≡ cond (nat_le s r && bit m (r - s)) (at (word_bits w high) (8 * j + (r - s)))
      (at (word_bits w low) (8 * j + r))
  word_low j r hj hr =
      let i = 8 * j + r in
      sym (at-word_bits w (bit_xor low (differing s M low high * 2 ^ s % 2 ^ w)) i (omega arith))
      ∙ exchanged_low w s M low high i (omega arith)
      ∙ chosen_same _ _ _ _ _ _ (masked_below j r hj hr (cases_lt r s) (cases_lt i s)) (λ e.
      let le : s ≤ r = leb-true s r (and_parts _ _ e).0 in
      let spot : 8 * j + r - s ≡ 8 * j + (r - s) = omega (arith, le) in
      ap (bit high) spot ∙ at-word_bits w high (8 * j + (r - s)) (omega arith))
      (at-word_bits w low i (omega arith))

pub ruleset exchange_calls = (word_high, word_low, bytes_of_32, bytes_of_64)

-- ---- the same on vectors, lane by lane

module _ {n w : ℕ} {lane : ℕ → ℕ} (laws : IsLayout n w lane) (s m : ℕ) (low high : List ℕ)
    (dl : length low ≡ n)
    (dh : length high ≡ n) (f : m * 2 ^ s < 2 ^ 8) where
  -- the bits in which the high vector differs from the low one shifted right by s
  abbrev unequal : List ℕ
  unequal = zip2 bit_xor high (zip2 shr8 low (replicate n s))

  -- the bits of `unequal` under the mask
  abbrev pub moved : List ℕ
  moved = zip2 bit_and unequal (replicate n m)

  -- `unequal` has n lanes
  length-unequal : length unequal ≡ n
  length-unequal = length-zip2 bit_xor high (zip2 shr8 low (replicate n s))
      (dh ∙ sym (length-splat n shr8 low s dl))
      ∙ dh

  -- `moved` has n lanes
  length-moved : length moved ≡ n
  length-moved = length-splat n bit_and unequal m length-unequal

  -- lane j of `moved` has the bits of lane j that differ
  lane_of_moved : (j : ℕ) → j < n → get_or moved j 0
      ≡ differing s m (get_or low j 0) (get_or high j 0)
  lane_of_moved j h = lane_of_splat n bit_and unequal m j length-unequal h
      ∙ ap (λ v. bit_and v m) (lane_of_two n bit_xor high (zip2 shr8 low (replicate n s)) j dh
      (length-splat n shr8 low s dl) h
      ∙ ap (bit_xor (get_or high j 0)) (lane_of_splat n shr8 low s j dl h))

  -- after an exchange the high vector has, under the mask, the low one's bit s places up, and else
  -- its own
  pub lanes_high : (j r : ℕ) → 8 * j + 8 ≤ w → r < 8
      → at (laid w lane (zip2 bit_xor high moved)) (8 * j + r)
      ≡ cond (bit m r) (at (laid w lane low) (8 * j + (r + s))) (at (laid w lane high) (8 * j + r))
  lanes_high j r hj hr =
      let l = lane (8 * j) in
      let h : l < n = laws.within (8 * j) (omega arith) in
      at_byte laws (zip2 bit_xor high moved) j r hj hr
      ∙ ap (λ v. bit v r) (lane_of_two n bit_xor high moved l dh length-moved h
      ∙ ap (bit_xor (get_or high l 0)) (lane_of_moved l h))
      ∙ exchanged_high s m (get_or low l 0) (get_or high l 0) r
      ∙ chosen_same _ _ _ _ _ _ refl (λ is. sym (at_byte laws low j (r + s) hj (mask_within_lane s m r f is)))
      (sym (at_byte laws high j r hj hr))

  -- after an exchange the low vector has, s places above the mask, the high one's bit s places
  -- down, and else its own
  pub lanes_low : (j r : ℕ) → 8 * j + 8 ≤ w → r < 8
      → at (laid w lane (zip2 bit_xor low (zip2 shl8 moved (replicate n s)))) (8 * j + r)
      ≡ cond (nat_le s r && bit m (r - s)) (at (laid w lane high) (8 * j + (r - s)))
      (at (laid w lane low) (8 * j + r))
  lanes_low j r hj hr =
      let l = lane (8 * j) in
      let h : l < n = laws.within (8 * j) (omega arith) in
      let shifted = zip2 shl8 moved (replicate n s) in
      at_byte laws (zip2 bit_xor low shifted) j r hj hr
      ∙ ap (λ v. bit v r)
      (lane_of_two n bit_xor low shifted l dl (length-splat n shl8 moved s length-moved) h
      ∙ ap (bit_xor (get_or low l 0)) (lane_of_splat n shl8 moved s l length-moved h
      ∙ ap (λ v. v * 2 ^ s % 2 ^ 8) (lane_of_moved l h)))
      ∙ exchanged_low 8 s m (get_or low l 0) (get_or high l 0) r hr
      ∙ chosen_same _ _ _ _ _ _ refl
      (λ is. sym (at_byte laws high j (r - s) hj (omega (arith, hr))))
      (sym (at_byte laws low j r hj hr))

-- ---- three exchanges

-- a choice between bits of words is a bit of the chosen word
pub choice : (words : List (List Bool)) (j : ℕ) (b : Bool) (p q u v : ℕ)
    → cond b (at (get_or words p []) (8 * j + u)) (at (get_or words q []) (8 * j + v))
    ≡ at (get_or words (cond b p q) []) (8 * j + cond b u v)
choice words j true p q u v = refl
choice words j false p q u v = refl

-- the test of three exchanges, followed back: bit r of word w has to come from bit w of word r
exchanges_test : ℕ → ℕ → Bool
exchanges_test w r =
    let w3 = source_word 4 0x0f w r in
    let r3 = source_bit 4 0x0f w r in
    let w2 = source_word 2 0x33 w3 r3 in
    let r2 = source_bit 2 0x33 w3 r3 in
    (nat_lt w3 8 && nat_lt r3 8) && ((nat_lt w2 8 && nat_lt r2 8)
    && ((source_word 1 0x55 w2 r2 == r) && (source_bit 1 0x55 w2 r2 == w)))

-- words after an exchange, each bit by the place it came from
abbrev Exchanged : ℕ → ℕ → ℕ → List (List Bool) → List (List Bool) → Type 0
Exchanged n s m before after = (w j r : ℕ) → w < 8 → 8 * j + 8 ≤ n → r < 8
    → at (get_or after w []) (8 * j + r) ≡ at (get_or before (source_word s m w r) [])
    (8 * j + source_bit s m w r)

-- three exchanges turn eight words over the diagonal of each byte
pub transposed : (n : ℕ) (words ones twos last : List (List Bool)) → Exchanged n 1 0x55 words ones
    → Exchanged n 2 0x33 ones twos
    → Exchanged n 4 0x0f twos last → (w j r : ℕ) → w < 8 → 8 * j + 8 ≤ n → r < 8
    → at (get_or last w []) (8 * j + r) ≡ at (get_or words r []) (8 * j + w)
unfolding all_below exchanges_test bit
transposed n words ones twos last f g h w j r hw hj hr =
    let w3 = source_word 4 0x0f w r in
    let r3 = source_bit 4 0x0f w r in
    let w2 = source_word 2 0x33 w3 r3 in
    let r2 = source_bit 2 0x33 w3 r3 in
    let t = and_parts _ _ (all_pairs_tell 8 8 exchanges_test refl w r hw hr) in
    let a = and_parts _ _ t.0 in
    let u = and_parts _ _ t.1 in
    let b = and_parts _ _ u.0 in
    let w1 = source_word 1 0x55 w2 r2 in
    let r1 = source_bit 1 0x55 w2 r2 in
    let e = and_parts (w1 == r) (r1 == w) u.1 in
    h w j r hw hj hr ∙ g w3 j r3 (ltb-true _ _ a.0) hj (ltb-true _ _ a.1)
    ∙ f w2 j r2 (ltb-true _ _ b.0) hj (ltb-true _ _ b.1)
    ∙ (λ v. at (get_or words (eqb-true w1 r e.0 v) []) (8 * j + eqb-true r1 w e.1 v))
