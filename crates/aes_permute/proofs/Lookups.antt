-- Look-ups lane by lane.
use Rattle.std.proofs.Common.{◌≡◌, ℕ, suc, ◌+◌, ◌*◌, ◌/◌, ◌^◌, ◌<◌, ◌≤◌, Bool, true, false, ◌&&◌}
use Rattle.std.proofs.Common.{◌||◌, ◌==◌, nat_le, nat_lt, cond, bit_and, bit_xor, List, [], ◌∷◌}
use Rattle.std.proofs.Common.{length, map, get_or, replicate, refl, ap, ◌∙◌, arith, w8, T}
use Rattle.std.specs.List.{list_all}
use Rattle.std.proofs.lemmas.Bool.{and_parts, eqb-true, ltb-true}
use Rattle.std.proofs.lemmas.Float.{T_from_true}
use Rattle.std.proofs.lemmas.Simd.{swz_l, SwzOk, SwzOk-from_Each1, map-map, zip2_of_maps}
use Rattle.std.proofs.lemmas.Simd.{zip2_splat}
use lib.Lanes.{zip2, Each1}
use lib.Dec.{ltb}
use mir.Val.{zeroes}
use Rattle.aes_planes.specs.Fips197.{IsBytes, IsBlock}
use Rattle.aes_planes.proofs.Bits.ByteCases.{all_below, all_below_tells}
use Rattle.aes_permute.specs.Lookup.{looked, is_index, low_nibble, high_nibble, by_nibbles}
use Rattle.aes_permute.specs.Lookup.{AreIndices, Nibbles}

-- ---- one table, at all lanes

-- a lane that is zeroed or has an entry, in two tables that have the same there
zeroed_or_same : (b c : Bool) (x y : ℕ) → (b || c) ≡ true → (c ≡ true → x ≡ y)
    → cond b 0 x ≡ cond b 0 y
zeroed_or_same true c x y h same = refl
zeroed_or_same false c x y h same = same h

-- lanes that are read at indices within sixteen, from lane 16 * o on, are looked up in a table that
-- has those lanes
pub looked_from : (xs t : List ℕ) (o : ℕ)
    → ((j : ℕ) → j < 16 → get_or xs (16 * o + j) 0 ≡ get_or t j 0) → (js : List ℕ) (i : ℕ)
    → 16 * o ≤ i → i + length js ≤ 16 * o + 16 → AreIndices js
    → swz_l w8 16 xs i js ≡ map (looked t) js
unfolding is_index
looked_from xs t o same [] i from to are = refl
looked_from xs t o same (j ∷ js) i from to are =
    let both = and_parts (is_index j) (list_all is_index js) are in
    let place : 16 * (i / 16) + j ≡ 16 * o + j = omega (arith, from, to) in
    let rest = looked_from xs t o same js (suc i) (omega (arith, from))
    (omega (arith, to)) both.1 in
    let here = zeroed_or_same (nat_le 128 j) (nat_lt j 16) (get_or xs (16 * (i / 16) + j) 0)
    (get_or t j 0) both.0
    (λ e. ap (λ n. get_or xs n 0) place ∙ same j (ltb-true j 16 e)) in
    λ k. here k ∷ rest k

-- a byte shuffle reads a table of sixteen bytes at each lane's byte
pub looked_lanes : (xs js : List ℕ) → length js ≡ 16 → AreIndices js
    → swz_l w8 16 xs 0 js ≡ map (looked xs) js
looked_lanes xs js l are = looked_from xs xs 0 (λ j h. let e : 16 * 0 + j ≡ j = omega arith in
    ap (λ n. get_or xs n 0) e) js 0 (omega arith) (omega (arith, l)) are

-- indices are places that a byte shuffle can read
pub each_index : (js : List ℕ) → AreIndices js → Each1 (λ j. T (zeroes 16 w8 j || ltb j 16)) js
unfolding is_index
each_index [] h = tt
each_index (j ∷ js) h =
    let both = and_parts (is_index j) (list_all is_index js) h in
    (T_from_true _ both.0, each_index js both.1)

-- sixteen indices are places that a byte shuffle of one vector can read
pub indices_ok : (js : List ℕ) → length js ≡ 16 → AreIndices js → SwzOk w8 16 16 0 js
indices_ok js l are = SwzOk-from_Each1 w8 16 1 16 0 js refl (omega (arith, l)) (each_index js are)

-- ---- tests on all bytes and on all nibbles

-- a test that each byte passes, of each element
pub each_passes : (p : ℕ → Bool) (f : ℕ → ℕ) → all_below 256 (λ b. p (f b)) ≡ true
    → (xs : List ℕ) → IsBytes xs
    → list_all p (map f xs) ≡ true
each_passes p f t [] h = refl
each_passes p f t (x ∷ xs) h =
    let e : p (f x) ≡ true = all_below_tells 256 (λ b. p (f b)) t x (h 0) in
    (λ k. e k && list_all p (map f xs)) ∙ each_passes p f t xs (λ i. h (suc i))

-- two functions that agree on bytes
pub map-ext_bytes : (f g : ℕ → ℕ) → ((b : ℕ) → b < 256 → f b ≡ g b) → (xs : List ℕ) → IsBytes xs
    → map f xs ≡ map g xs
map-ext_bytes f g e [] h = refl
map-ext_bytes f g e (x ∷ xs) h = λ i. e x (h 0) i ∷ map-ext_bytes f g e xs (λ j. h (suc j)) i

-- two functions that agree in a test of all 256 bytes make the same of each byte of a list
pub map-ext_by_test : (f g : ℕ → ℕ) → all_below 256 (λ b. f b == g b) ≡ true → (xs : List ℕ)
    → IsBytes xs → map f xs
    ≡ map g xs
map-ext_by_test f g t xs h =
    map-ext_bytes f g (λ b l. eqb-true _ _ (all_below_tells 256 (λ b. f b == g b) t b l)) xs h

-- a nibble is a place of a table, by all nibbles
nibble_indices : all_below 16 is_index ≡ true
unfolding all_below is_index
nibble_indices = refl

-- each nibble is a place of a table
pub nibbles_are_indices : (ks : List ℕ) → Nibbles ks → AreIndices ks
nibbles_are_indices [] h = refl
nibbles_are_indices (k ∷ ks) h =
    let t = and_parts (nat_lt k 16) (list_all (λ k. nat_lt k 16) ks) h in
    let e : is_index k ≡ true = all_below_tells 16 is_index nibble_indices k (ltb-true k 16 t.0) in
    (λ i. e i && list_all is_index ks) ∙ nibbles_are_indices ks t.1

-- ---- the two nibbles

-- the low nibble of a byte is the byte and-ed with 15, by all bytes
low_masked : all_below 256 (λ b. bit_and b 15 == low_nibble b) ≡ true
unfolding all_below
low_masked = refl

-- bytes and-ed with 15 are their low nibbles
pub low_nibbles_of : (n : ℕ) (x : List ℕ) → length x ≡ n → IsBytes x
    → zip2 bit_and x (replicate n 15) ≡ map low_nibble x
low_nibbles_of n x l h = zip2_splat bit_and x n 15 l
    ∙ map-ext_by_test (λ b. bit_and b 15) low_nibble low_masked x h

-- the bytes of a block and-ed with 15 are their low nibbles
pub low_nibbles_are : (x : List ℕ) → IsBlock x → zip2 bit_and x (replicate 16 15) ≡ map low_nibble x
low_nibbles_are x h = low_nibbles_of 16 x h.0 h.1

-- a shift by four leaves the high nibble, by all bytes
high_shifted : all_below 256 (λ b. b / 16 == high_nibble b) ≡ true
unfolding all_below
high_shifted = refl

-- bytes shifted right by 4 bits are their high nibbles
pub high_nibbles_of : (n : ℕ) (x : List ℕ) → length x ≡ n → IsBytes x
    → zip2 (λ a b. a / 2 ^ b) x (replicate n 4) ≡ map high_nibble x
high_nibbles_of n x l h = zip2_splat (λ a b. a / 2 ^ b) x n 4 l
    ∙ map-ext_by_test (λ b. b / 16) high_nibble high_shifted x h

-- the bytes of a block shifted right by 4 bits are their high nibbles
pub high_nibbles_are : (x : List ℕ) → IsBlock x
    → zip2 (λ a b. a / 2 ^ b) x (replicate 16 4) ≡ map high_nibble x
high_nibbles_are x h = high_nibbles_of 16 x h.0 h.1

-- the low nibble is below 16, by all bytes
low_is_nibble : all_below 256 (λ b. nat_lt (low_nibble b) 16) ≡ true
unfolding all_below
low_is_nibble = refl

-- the high nibble is below 16, by all bytes
high_is_nibble : all_below 256 (λ b. nat_lt (high_nibble b) 16) ≡ true
unfolding all_below
high_is_nibble = refl

-- the low nibbles of a block are below 16
pub low_is : (x : List ℕ) → IsBlock x → Nibbles (map low_nibble x)
low_is x h = each_passes (λ k. nat_lt k 16) low_nibble low_is_nibble x h.1

-- the high nibbles of a block are below 16
pub high_is : (x : List ℕ) → IsBlock x → Nibbles (map high_nibble x)
high_is x h = each_passes (λ k. nat_lt k 16) high_nibble high_is_nibble x h.1

-- two tables, each read at one of the nibbles
pub nibbles_looked_up : (t u x : List ℕ)
    → zip2 bit_xor (map (looked t) (map low_nibble x)) (map (looked u) (map high_nibble x))
    ≡ map (by_nibbles t u) x
nibbles_looked_up t u x =
    zip2_of_maps bit_xor (λ b. looked t (low_nibble b)) (λ b. looked u (high_nibble b)) x
    (map-map (looked t) low_nibble x) (map-map (looked u) high_nibble x)

-- a sum, by what its summands are
pub summed : {a b x y z : List ℕ} → z ≡ zip2 bit_xor x y → x ≡ a → y ≡ b → z ≡ zip2 bit_xor a b
summed e p q = e ∙ (λ t. zip2 bit_xor (p t) (q t))
