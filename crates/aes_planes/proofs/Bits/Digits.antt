-- Numbers as digits in a base that is a power of two: the bits of each.
use Rattle.std.proofs.Common.{◌≡◌, ℕ, zero, suc, ◌+◌, ◌-◌, ◌*◌, ◌/◌, ◌%◌, ◌^◌, ◌<◌, ◌≤◌, ◌==◌}
use Rattle.std.proofs.Common.{bit_or, List, [], ◌∷◌, length, get_or, replicate, ap, sym, ◌∙◌, arith}
use Rattle.std.specs.Int.{bit_at}
use Rattle.std.proofs.Math.Arith.{digits_lt}
use Rattle.std.proofs.Math.Nat.{mod-lt}
use Rattle.std.proofs.lemmas.Nat.{pow_pos, pow-add, or_comm, or_shifted, shl_whole}
use Rattle.std.proofs.lemmas.Nat.Bits.{bit_at_cat_low, bit_at_cat_high}
use Rattle.std.proofs.lemmas.Simd.{Each1-replicate, length-replicate, get_or-replicate}
use lib.Lanes.{Each1, number_l, digits_l}
use Rattle.aes_planes.specs.Bits.{bit}
use Rattle.aes_planes.proofs.Bits.NumberBits.{bit_low, bit_shr}

-- bit p of the w bits of a number from place s on is bit s + p of the number
pub field_bit : (x s w p : ℕ) → p < w → bit (x / 2 ^ s % 2 ^ w) p ≡ bit x (s + p)
field_bit x s w p h = bit_low (x / 2 ^ s) w p h ∙ bit_shr x s p ∙ ap (bit x) (omega arith)

-- bit r of digit j of a number, in base 2 ^ b, is bit b * j + r of the number
pub digit_bit : (b n x j r : ℕ) → j < n → r < b
    → bit (get_or (digits_l (2 ^ b) n x) j 0) r ≡ bit x (b * j + r)
digit_bit b zero x j r h k = absurd (omega arith)
digit_bit b (suc n) x zero r h k = bit_low x b r k ∙ ap (bit x) (grind arith)
digit_bit b (suc n) x (suc j) r h k =
    digit_bit b n (x / 2 ^ b) j r (omega arith) k ∙ bit_shr x b (b * j + r)
    ∙ ap (bit x) (grind arith)

-- each digit in base 2 ^ b is below 2 ^ b
pub digits_small : (b n x : ℕ) → Each1 (λ (v : ℕ). v < 2 ^ b) (digits_l (2 ^ b) n x)
digits_small b zero x = tt
digits_small b (suc n) x = (mod-lt x (pow_pos b), digits_small b n (x / 2 ^ b))

-- lanes are small, also past the last
pub each_small : (b : ℕ) (xs : List ℕ) → Each1 (λ (v : ℕ). v < 2 ^ b) xs → (i : ℕ)
    → get_or xs i 0 < 2 ^ b
each_small b [] h i = pow_pos b
each_small b (x ∷ xs) h zero = h.0
each_small b (x ∷ xs) h (suc i) = each_small b xs h.1 i

-- bit b * j + r of the number with digits xs in base 2 ^ b is bit r of digit j
pub number_bit : (b : ℕ) (xs : List ℕ) (j r : ℕ) → Each1 (λ (v : ℕ). v < 2 ^ b) xs
    → j < length xs → r < b
    → bit (number_l (2 ^ b) xs) (b * j + r) ≡ bit (get_or xs j 0) r
unfolding bit
number_bit b [] j r f h k = absurd (omega arith)
number_bit b (x ∷ xs) zero r f h k =
    let y = number_l (2 ^ b) xs in
    let e : x + 2 ^ b * y ≡ y * 2 ^ b + x = grind arith in
    let s : b * 0 + r ≡ r = grind arith in
    ap (λ v. v == 1) ((λ t. bit_at (e t) (s t)) ∙ bit_at_cat_low y b x r k)
number_bit b (x ∷ xs) (suc j) r f h k =
    let y = number_l (2 ^ b) xs in
    let e : x + 2 ^ b * y ≡ y * 2 ^ b + x = grind arith in
    let s : b * suc j + r ≡ b * j + r + b = grind arith in
    let d : b * j + r + b - b ≡ b * j + r = omega arith in
    ap (λ v. v == 1) ((λ t. bit_at (e t) (s t))
    ∙ bit_at_cat_high y b x (b * j + r + b) f.0 (omega arith)
    ∙ ap (bit_at y) d)
    ∙ number_bit b xs j r f.1 (omega arith) k

-- bit r of digit j, in base 2 ^ a, of the number with digits xs in base 2 ^ b is the bit of xs at
-- the same place
pub regrouped : (a b n : ℕ) (xs : List ℕ) (j r u v : ℕ) → Each1 (λ (v : ℕ). v < 2 ^ b) xs
    → j < n → r < a
    → u < length xs → v < b
    → a * j + r ≡ b * u + v → bit (get_or (digits_l (2 ^ a) n (number_l (2 ^ b) xs)) j 0) r
    ≡ bit (get_or xs u 0) v
regrouped a b n xs j r u v small hj hr hu hv e =
    digit_bit a n (number_l (2 ^ b) xs) j r hj hr ∙ ap (bit (number_l (2 ^ b) xs)) e
    ∙ number_bit b xs u v small hu hv

-- ---- digits joined by shifts

-- two digits joined by a shift and an or are the lower one and 2 ^ s times the upper
joined_above : (w s m a b : ℕ) → b < 2 ^ s → a < 2 ^ m → s + m ≤ w
    → bit_or b (a * 2 ^ s % 2 ^ w) ≡ b + 2 ^ s * a
joined_above w s m a b f g h =
    let turn : a * 2 ^ s + b ≡ b + 2 ^ s * a = grind arith in
    ap (bit_or b) (shl_whole a m s w g (omega arith)) ∙ or_comm b (a * 2 ^ s)
    ∙ or_shifted a s b f ∙ turn

-- two joined digits are below the product of both bases
joined_lt : (s m a b : ℕ) → b < 2 ^ s → a < 2 ^ m → b + 2 ^ s * a < 2 ^ (s + m)
joined_lt s m a b f g =
    let h : a * 2 ^ s + b < 2 ^ m * 2 ^ s = digits_lt g f in
    rw (pow-add 2 s m) (grind (arith, h))

-- of four digits joined, row j has the bits of digit j
pub rows_joined : (w R x0 x1 x2 x3 j q i : ℕ) → w ≡ 4 * R → x0 < 2 ^ R → x1 < 2 ^ R
    → x2 < 2 ^ R → x3 < 2 ^ R
    → j < 4 → q < R → i ≡ j * R + q
    → bit (bit_or (bit_or (bit_or x0 (x1 * 2 ^ R % 2 ^ w)) (x2 * 2 ^ (2 * R) % 2 ^ w))
    (x3 * 2 ^ (3 * R) % 2 ^ w)) i
    ≡ bit (get_or (x0 ∷ x1 ∷ x2 ∷ x3 ∷ []) j 0) q
rows_joined w R x0 x1 x2 x3 j q i e f0 f1 f2 f3 hj hq place =
    let two : R + R ≡ 2 * R = omega arith in
    let three : 2 * R + R ≡ 3 * R = omega arith in
    let squared : 2 ^ (2 * R) ≡ 2 ^ R * 2 ^ R = ap (λ v. 2 ^ v) (sym two) ∙ pow-add 2 R R in
    let cubed : 2 ^ (3 * R) ≡ 2 ^ (2 * R) * 2 ^ R = ap (λ v. 2 ^ v) (sym three)
    ∙ pow-add 2 (2 * R) R in
    let low = x0 + 2 ^ R * x1 in
    let most = low + 2 ^ (2 * R) * x2 in
    let f01 : low < 2 ^ (2 * R) = rw (← two) (joined_lt R R x1 x0 f0 f1) in
    let f012 : most < 2 ^ (3 * R) = rw (← three) (joined_lt (2 * R) R x2 low f01 f2) in
    let digits : most + 2 ^ (3 * R) * x3 ≡ number_l (2 ^ R) (x0 ∷ x1 ∷ x2 ∷ x3 ∷ []) =
    rw (cubed, squared) (grind arith) in
    let top = x3 * 2 ^ (3 * R) % 2 ^ w in
    let spot : i ≡ R * j + q = grind (arith, place) in
    (λ t. bit ((ap (λ v. bit_or (bit_or v (x2 * 2 ^ (2 * R) % 2 ^ w)) top)
    (joined_above w R R x1 x0 f0 f1 (omega arith))
    ∙ ap (λ v. bit_or v top) (joined_above w (2 * R) R x2 low f01 f2 (omega arith))
    ∙ joined_above w (3 * R) R x3 most f012 f3 (omega arith) ∙ digits) t) (spot t))
    ∙ number_bit R (x0 ∷ x1 ∷ x2 ∷ x3 ∷ []) j q (f0, (f1, (f2, (f3, tt)))) hj hq

-- ---- a byte over and over

-- a number of m equal bytes has in each place the byte's bit, by the place modulo 8
pub byte_repeated : (w m b x : ℕ) → w ≡ 8 * m → b < 256 → x ≡ number_l (2 ^ 8) (replicate m b)
    → (i : ℕ) → i < w → bit x i ≡ bit b (i % 8)
byte_repeated w m b x e f r i h =
    let spot : i ≡ 8 * (i / 8) + i % 8 = omega arith in
    (λ t. bit (r t) (spot t))
    ∙ number_bit 8 (replicate m b) (i / 8) (i % 8) (Each1-replicate (λ (v : ℕ). v < 2 ^ 8) m b f)
    (omega (arith, length-replicate m b)) (omega arith)
    ∙ ap (λ v. bit v (i % 8)) (get_or-replicate m (i / 8) b 0 (omega arith))
