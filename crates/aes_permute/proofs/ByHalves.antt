-- What a vector of 32 bytes does to the two blocks that are its halves.
use Rattle.std.proofs.Common.{◌≡◌, ℕ, zero, suc, ◌+◌, ◌-◌, ◌*◌, ◌/◌, ◌^◌, ◌<◌, Bool, true, false}
use Rattle.std.proofs.Common.{◌&&◌, ◌==◌, cond, List, [], ◌∷◌, ◌++◌, length, map, take, drop}
use Rattle.std.proofs.Common.{get_or, set, bit_and, replicate, refl, ap, sym, subst, ◌∙◌, arith, w8}
use Rattle.std.specs.List.{list_all}
use Rattle.std.proofs.lemmas.Bool.{and_parts}
use Rattle.std.proofs.lemmas.List.{length-append, get_or_append_left, get_or-append_right}
use Rattle.std.proofs.lemmas.List.{length-map, length-take, length-drop, take_all, take_at}
use Rattle.std.proofs.lemmas.List.{take-append-le, drop_at, take-map, drop-map, take-append-drop}
use Rattle.std.proofs.lemmas.Simd.{swz_l, SwzOk, SwzOk-from_Each1, pick_l_left}
use Rattle.std.proofs.lemmas.Simd.{pick_l-range_with_len, pick_l_whole}
use lib.Lanes.{zip2, pick_l}
use mir.Val.{zeroes}
use Rattle.aes_planes.specs.Fips197.{IsBytes, IsBlock}
use Rattle.aes_planes.proofs.Lists.{zip2_take, zip2_drop}
use Rattle.aes_planes.proofs.Standard.States.{take_bytes, drop_bytes}
use Rattle.aes_planes.proofs.Words.Swizzles.{lane_numbers}
use Rattle.aes_planes.proofs.Words.Wide.{upper_16}
use Rattle.aes_permute.specs.Lookup.{looked, is_index, low_nibble, high_nibble, AreIndices}
use Rattle.aes_permute.specs.Vectors.{half, written}
use Rattle.aes_permute.proofs.Lookups.{looked_from, each_index, low_nibbles_of, high_nibbles_of}

-- ---- blocks in halves

-- the lanes 0 to 15 of two blocks are the first of them
first_picked : (x y : List ℕ) → length x ≡ 16 → pick_l 0 (x ++ y) lane_numbers ≡ x
first_picked x y long =
    pick_l-range_with_len 0 (x ++ y) 0 16 (omega (arith, long, length-append x y))
    ∙ take_at x y 16 long

-- a block picked twice is in both halves
pub block_in_both_halves : (x : List ℕ) → IsBlock x
    → pick_l 0 (x ++ x) (lane_numbers ++ lane_numbers) ≡ x ++ x
block_in_both_halves x (long, small) = let e = first_picked x x long in λ t. e t ++ e t

-- all lanes of two blocks are one after the other
pub both_in_order : (x y : List ℕ) → IsBlock x → IsBlock y
    → pick_l 0 (x ++ y) (lane_numbers ++ upper_16) ≡ x ++ y
both_in_order x y (x_long, x_small) (y_long, y_small) =
    pick_l_whole 0 (x ++ y) 32 (length-append x y ∙ omega (arith, x_long, y_long))

-- the first sixteen lanes of a vector are its lower half
pub lower_half : (x : List ℕ) → length x ≡ 32 → pick_l 0 (x ++ x) lane_numbers ≡ take 16 x
lower_half x long =
    pick_l-range_with_len 0 (x ++ x) 0 16 (omega (arith, long, length-append x x))
    ∙ take-append-le 16 x x (omega (arith, long))

-- the last sixteen lanes of a vector are its upper half
pub upper_half : (x : List ℕ) → length x ≡ 32 → pick_l 0 (x ++ x) upper_16 ≡ drop 16 x
upper_half x long =
    pick_l_left 0 x x 32 upper_16 long tt
    ∙ pick_l-range_with_len 0 x 16 16 (omega (arith, long))
    ∙ take_all 16 (drop 16 x) (omega (arith, long, length-drop 16 x))

-- the rules that pick a half of a vector
pub ruleset picked_halves = (lower_half, upper_half)

-- what holds of the lower half and of the upper one holds of half i
pub by_half : (P : (List ℕ → List ℕ) → Type 0) (i : ℕ) → P (take 16) → P (drop 16)
    → P (λ x. half x i)
unfolding half
by_half P i lower upper = go (i == 0)
  where
    go : (b : Bool) → P (λ x. cond b (take 16 x) (drop 16 x))
    go true = lower
    go false = upper

-- a block in both halves is each of the two
pub half_of_both : (x : List ℕ) (i : ℕ) → length x ≡ 16 → half (x ++ x) i ≡ x
half_of_both x i long =
    by_half (λ h. h (x ++ x) ≡ x) i (take_at x x 16 long) (drop_at x x 16 long)

-- each half is a block
pub half_is_block : (x : List ℕ) (i : ℕ) → length x ≡ 32 → IsBytes x → IsBlock (half x i)
half_is_block x i long small =
    by_half (λ h. IsBlock (h x)) i
    (omega (arith, length-take 16 x, long), take_bytes 16 x small)
    (omega (arith, length-drop 16 x, long), drop_bytes 16 x small)

-- ---- lane by lane

-- a map of all lanes is one of each half
half_of_map : (f : ℕ → ℕ) (x : List ℕ) (i : ℕ) → half (map f x) i ≡ map f (half x i)
half_of_map f x i =
    by_half (λ h. h (map f x) ≡ map f (h x)) i (take-map f 16 x) (drop-map f 16 x)

-- each half of what two vectors make lane by lane is made of that half of both
pub half_of_zip : (f : ℕ → ℕ → ℕ) (x y : List ℕ) (i : ℕ)
    → half (zip2 f x y) i ≡ zip2 f (half x i) (half y i)
half_of_zip f x y i =
    by_half (λ h. h (zip2 f x y) ≡ zip2 f (h x) (h y)) i (zip2_take f 16 x y) (zip2_drop f 16 x y)

-- the low nibbles of a vector are those of each half
pub low_of_half : (x : List ℕ) (i : ℕ) → length x ≡ 32 → IsBytes x
    → half (zip2 bit_and x (replicate 32 15)) i ≡ map low_nibble (half x i)
low_of_half x i long small =
    ap (λ l. half l i) (low_nibbles_of 32 x long small) ∙ half_of_map low_nibble x i

-- the high nibbles of a vector are those of each half
pub high_of_half : (x : List ℕ) (i : ℕ) → length x ≡ 32 → IsBytes x
    → half (zip2 (λ a b. a / 2 ^ b) x (replicate 32 4)) i ≡ map high_nibble (half x i)
high_of_half x i long small =
    ap (λ l. half l i) (high_nibbles_of 32 x long small) ∙ half_of_map high_nibble x i

-- ---- look-ups in the tables of the halves

-- indices after indices are indices
pub indices_append : (xs ys : List ℕ) → AreIndices xs → AreIndices ys → AreIndices (xs ++ ys)
indices_append [] ys h k = k
indices_append (x ∷ xs) ys h k =
    let both = and_parts (is_index x) (list_all is_index xs) h in
    λ t. both.0 t && indices_append xs ys both.1 k t

-- places are indices where those of each half are
indices_of_halves : (x : List ℕ) → ((i : ℕ) → AreIndices (half x i)) → AreIndices x
unfolding half
indices_of_halves x h =
    subst AreIndices (take-append-drop 16 x) (indices_append (take 16 x) (drop 16 x) (h 0) (h 1))

-- a shuffle by two lists of places, one after the other, as their lanes go on
swz_append : (xs ps qs : List ℕ) (i : ℕ)
    → swz_l w8 16 xs i (ps ++ qs) ≡ swz_l w8 16 xs i ps ++ swz_l w8 16 xs (i + length ps) qs
swz_append xs [] qs i = let e : i ≡ i + 0 = omega arith in ap (λ n. swz_l w8 16 xs n qs) e
swz_append xs (p ∷ ps) qs i =
    let e : suc i + length ps ≡ i + suc (length ps) = omega arith in
    let rest = swz_append xs ps qs (suc i)
    ∙ ap (λ n. swz_l w8 16 xs (suc i) ps ++ swz_l w8 16 xs n qs) e in
    λ k. cond (zeroes 16 w8 p) 0 (get_or xs (16 * (i / 16) + p) 0) ∷ rest k

-- each half of the places reads the table in the same half
pub looked_in_halves : (t u p q : List ℕ) → length t ≡ 16 → length p ≡ 16 → length q ≡ 16
    → AreIndices p → AreIndices q → swz_l w8 16 (t ++ u) 0 (p ++ q)
    ≡ map (looked t) p ++ map (looked u) q
looked_in_halves t u p q t_long p_long q_long p_are q_are =
    let start : 0 + length p ≡ 16 = omega (arith, p_long) in
    swz_append (t ++ u) p q 0
    ∙ ap (λ n. swz_l w8 16 (t ++ u) 0 p ++ swz_l w8 16 (t ++ u) n q) start
    ∙ (λ k. looked_from (t ++ u) t 0 (λ j h. let e : 16 * 0 + j ≡ j = omega arith in
    ap (λ n. get_or (t ++ u) n 0) e ∙ get_or_append_left t u 0 j (omega (arith, h, t_long))) p 0
    (omega arith)
    (omega (arith, p_long)) p_are k
    ++ looked_from (t ++ u) u 1 (λ j h. let e : 16 * 1 + j - 16 ≡ j = omega arith in
    get_or-append_right t u 16 (16 * 1 + j) 0 t_long (omega arith) ∙ ap (λ n. get_or u n 0) e) q 16
    (omega arith)
    (omega (arith, q_long)) q_are k)

-- each half of a shuffle is a look-up in that half, at the places of that half
looked_by_halves : (x places : List ℕ) (i : ℕ) → length x ≡ 32 → length places ≡ 32
    → ((i : ℕ) → AreIndices (half places i))
    → half (swz_l w8 16 x 0 places) i ≡ map (looked (half x i)) (half places i)
unfolding half
looked_by_halves x places i long placed are =
    let low : List ℕ = map (looked (take 16 x)) (take 16 places) in
    let high : List ℕ = map (looked (drop 16 x)) (drop 16 places) in
    let sized : length (take 16 places) ≡ 16 = omega (arith, length-take 16 places, placed) in
    let first : length low ≡ 16 = length-map (take 16 places) (looked (take 16 x)) ∙ sized in
    let both : swz_l w8 16 x 0 places ≡ low ++ high =
    (λ t. swz_l w8 16 (sym (take-append-drop 16 x) t) 0 (sym (take-append-drop 16 places) t))
    ∙ looked_in_halves (take 16 x) (drop 16 x) (take 16 places) (drop 16 places)
    (omega (arith, length-take 16 x, long)) sized (omega (arith, length-drop 16 places, placed))
    (are 0) (are 1) in
    by_half (λ h. h (swz_l w8 16 x 0 places) ≡ map (looked (h x)) (h places)) i
    (ap (take 16) both ∙ take_at low high 16 first)
    (ap (drop 16) both ∙ drop_at low high 16 first)

-- a table in both halves, read at the places of each half
pub looked_of_half : (t x : List ℕ) (i : ℕ) → length t ≡ 16 → length x ≡ 32
    → ((i : ℕ) → AreIndices (half x i))
    → half (swz_l w8 16 (t ++ t) 0 x) i ≡ map (looked t) (half x i)
looked_of_half t x i t_long long are =
    looked_by_halves (t ++ t) x i (omega (arith, length-append t t, t_long)) long are
    ∙ ap (λ l. map (looked l) (half x i)) (half_of_both t i t_long)

-- a vector shuffled by the same places in both halves: each half, read at them
pub permuted_of_half : (x places : List ℕ) (i : ℕ) → length x ≡ 32 → length places ≡ 16
    → AreIndices places
    → half (swz_l w8 16 x 0 (places ++ places)) i ≡ map (looked (half x i)) places
permuted_of_half x places i long placed are =
    looked_by_halves x (places ++ places) i long
    (omega (arith, length-append places places, placed))
    (λ i. subst AreIndices (sym (half_of_both places i placed)) are)
    ∙ ap (map (looked (half x i))) (half_of_both places i placed)

-- 32 indices are places that a byte shuffle by halves can read
pub indices_in_halves : (js : List ℕ) → length js ≡ 32 → AreIndices js → SwzOk w8 16 32 0 js
indices_in_halves js long are =
    SwzOk-from_Each1 w8 16 2 32 0 js refl (omega (arith, long)) (each_index js are)

-- places whose halves are indices are places that a byte shuffle by halves can read
pub halves_ok : (js : List ℕ) → length js ≡ 32 → ((i : ℕ) → AreIndices (half js i))
    → SwzOk w8 16 32 0 js
halves_ok js long are = indices_in_halves js long (indices_of_halves js are)

-- sixteen indices in both halves are places that a byte shuffle by halves can read
pub both_ok : (places : List ℕ) → length places ≡ 16 → AreIndices places
    → SwzOk w8 16 32 0 (places ++ places)
both_ok places long are =
    indices_in_halves (places ++ places) (omega (arith, length-append places places, long))
    (indices_append places places are are)

-- ---- blocks of a slice

-- two blocks side by side are those of a vector
pub half_of_joined : (p q : List ℕ) (d : List (List ℕ)) (from i : ℕ) → length p ≡ 16
    → p ≡ get_or d from [] → q
    ≡ get_or d (from + 1) [] → i < 2 → half (p ++ q) i ≡ get_or d (from + i) []
unfolding half
half_of_joined p q d from i long is_p is_q small = go i small
  where
    start : from ≡ from + 0
    start = omega arith

    go : (i : ℕ) → i < 2 → cond (i == 0) (take 16 (p ++ q)) (drop 16 (p ++ q))
        ≡ get_or d (from + i) []
    go zero s = take_at p q 16 long ∙ is_p ∙ ap (λ n. get_or d n []) start
    go (suc zero) s = drop_at p q 16 long ∙ is_q
    go (suc (suc n)) s = absurd (omega (arith, s))

-- the halves of a vector that are set one by one are its two blocks, written
pub both_written : (x p q : List ℕ) (d : List (List ℕ)) (from : ℕ) → p ≡ take 16 x → q ≡ drop 16 x
    → set (set d from p) (from + 1) q ≡ written (half x) 2 from d
unfolding half written
both_written x p q d from is_p is_q =
    let start : from ≡ from + 0 = omega arith in
    λ t. set (set d (start t) (is_p t)) (from + 1) (is_q t)
