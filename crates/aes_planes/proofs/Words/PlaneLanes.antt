-- Eight words of sixteen bits as lanes of a vector, and their bits through the operations on
-- vectors.
use Rattle.std.proofs.Common.{◌≡◌, ℕ, ◌+◌, ◌-◌, ◌*◌, ◌/◌, ◌%◌, ◌^◌, ◌<◌, Bool, true, List, [], ◌∷◌}
use Rattle.std.proofs.Common.{◌++◌, length, map, get_or, replicate, refl, ap, sym, ◌∙◌, arith, w8}
use Rattle.std.proofs.Common.{w16, Fits, false, cond, nat_le, ◌==◌}
use lib.Lanes.{zip2, pick_l, Each1, number_l, digits_l, mask_l, top}
use Rattle.aes_planes.specs.Bits.{bit}
use Rattle.aes_planes.proofs.Bits.BitCases.{same, same_tells}
use Rattle.aes_planes.proofs.Bits.ByteCases.{all_below, all_pairs_tell}
use Rattle.aes_planes.proofs.Bits.Digits.{digits_small, regrouped}
use Rattle.aes_planes.proofs.Words.ByteLanes.{lane_of_splat, length-splat, lane_small, shl8}
use Rattle.std.proofs.lemmas.Simd.{below_from_Fits, get_or-zip2, get_or-replicate, length-zip2}
use Rattle.std.proofs.lemmas.Simd.{mask_l-mod, bit_mask_l, tops_compared}
use Rattle.aes_planes.proofs.Words.Packing.{swizzled, together_places}

-- ---- lanes of another width

-- lane p of sixteen bits is a quarter of one of two lanes of sixty-four
pub narrow_lane : (low high p i : ℕ) → low < 2 ^ 64 → high < 2 ^ 64 → p < 8 → i < 16
    → bit (get_or (digits_l (2 ^ 16) 8
    (number_l (2 ^ 8) (digits_l (2 ^ 8) 16 (number_l (2 ^ 64) (low ∷ high ∷ []))))) p
    0) i
    ≡ bit (get_or (low ∷ high ∷ []) (p / 4) 0) (16 * (p % 4) + i)
narrow_lane low high p i h k hp hi =
    let wide = number_l (2 ^ 64) (low ∷ high ∷ []) in
    let m : ℕ = 16 * p + i in
    regrouped 16 8 8 (digits_l (2 ^ 8) 16 wide) p i (m / 8) (m % 8) (digits_small 8 16 wide) hp hi
    (omega arith)
    (omega arith) (omega arith)
    ∙ regrouped 8 64 16 (low ∷ high ∷ []) (m / 8) (m % 8) (p / 4) (16 * (p % 4) + i) (h, (k, tt))
    (omega arith) (omega arith) (omega arith) (omega arith) (omega arith)

-- the bytes of the lanes
abbrev pub lane_bytes : List ℕ → List ℕ
lane_bytes x = digits_l (2 ^ 8) 16 (number_l (2 ^ 16) x)

-- ---- the lower bytes, and the upper ones

-- byte 8 * j + r, of all lower bytes and then all upper ones, has bits 8 * j to 8 * j + 7 of lane r
pub half_bit : (x : List ℕ) (j r i : ℕ) → length x ≡ 8 → Each1 (Fits w16) x → j < 2 → r < 8 → i < 8
    → bit (get_or (pick_l 0 (lane_bytes x ++ lane_bytes x) together_places) (8 * j + r) 0) i
    ≡ bit (get_or x r 0) (8 * j + i)
unfolding all_below
half_bit x j r i d f hj hr hi =
    ap (λ v. bit v i) (swizzled (lane_bytes x) together_places refl tt (8 * j + r) (2 * r + j)
    (omega arith)
    (all_pairs_tell 2 8 (λ j r. get_or together_places (8 * j + r) 0 == 2 * r + j) refl j r hj hr))
    ∙ regrouped 8 16 16 x (2 * r + j) i r (8 * j + i) (below_from_Fits w16 x f) (omega arith) hi
    (omega (arith, d))
    (omega arith) (omega arith)

-- ---- planes by the top bits of lanes

-- bit i of a mask of sixteen lanes
mask_bit : (ms : List Bool) (i : ℕ) → length ms ≡ 16
    → bit (mask_l ms % 2 ^ 64 % 2 ^ 16) i ≡ get_or ms i false
unfolding bit
mask_bit ms i d =
    ap (λ v. v % 2 ^ 16 / 2 ^ i % 2 == 1) (mask_l-mod ms 64 (omega (arith, d)))
    ∙ ap (λ v. v / 2 ^ i % 2 == 1) (mask_l-mod ms 16 (omega (arith, d)))
    ∙ ap (λ v. v == 1) (bit_mask_l ms i)
    ∙ elim (get_or ms i false) as (λ b. (cond b 1 0 == 1) ≡ b) [ true ↦ refl | false ↦ refl ]

-- the mask of the top bits of sixteen lanes whose bit p is shifted to the top has in place i bit p
-- of lane i
pub plane_bit : (x : List ℕ) (p i : ℕ) → length x ≡ 16 → Each1 (Fits w8) x → p < 8 → i < 16
    → bit (mask_l (map (top 7) (zip2 (λ a b. cond (nat_le a b) 255 0) (replicate 16 128)
    (zip2 shl8 x (replicate 16 (7 - p))))) % 2 ^ 64 % 2 ^ 16) i
    ≡ bit (get_or x i 0) p
unfolding all_below same bit
plane_bit x p i d f hp hi =
    let up = zip2 shl8 x (replicate 16 (7 - p)) in
    let tops = zip2 nat_le (replicate 16 128) up in
    let long : length up ≡ 16 = length-splat 16 shl8 x (7 - p) d in
    let whole : length tops ≡ 16 = length-zip2 nat_le (replicate 16 128) up (sym long) in
    ap (λ ms. bit (mask_l ms % 2 ^ 64 % 2 ^ 16) i) (tops_compared w8 nat_le (replicate 16 128) up)
    ∙ mask_bit tops i whole
    ∙ get_or-zip2 nat_le (replicate 16 128) up i 0 0 false hi (omega (arith, long))
    ∙ ap (λ v. nat_le v (get_or up i 0)) (get_or-replicate 16 i 128 0 hi)
    ∙ ap (nat_le 128) (lane_of_splat 16 shl8 x (7 - p) i d hi)
    ∙ same_tells _ _ (all_pairs_tell 8 256
    (λ p x. same (nat_le 128 (x * 2 ^ (7 - p) % 2 ^ 8)) (bit x p)) refl p
    (get_or x i 0) hp (lane_small x i (omega (arith, d)) f))
