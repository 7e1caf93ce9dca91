-- Products of numbers without carries: they keep sums, split into products of parts, and are
-- products of blocks before the reduction.
use Rattle.std.proofs.Common.{◌≡◌, ℕ, zero, suc, ◌+◌, ◌-◌, ◌*◌, ◌/◌, ◌%◌, ◌^◌, ◌<◌, ◌==◌}
use Rattle.std.proofs.Common.{if◌then◌else◌, true, bit_xor, refl, ap, sym, ◌∙◌, arith, subst}
use Rattle.std.proofs.lemmas.Nat.{xor_comm, xor_shr, xor_mod, xor_block, xor_lt, shr_below, shr-shr}
use Rattle.std.proofs.lemmas.Nat.{pow_pos}
use Rattle.std.proofs.lemmas.Bool.{eqb-true}
use Rattle.std.proofs.Math.Nat.{pow-suc}
use Rattle.std.specs.Int.Bits.{xor_assoc, xor_zero_l, xor_zero_r}
use Rattle.aes_permute.proofs.Linear.{aside}
use Rattle.aes_planes.proofs.Bits.ByteCases.{all_below, all_below_tells, by_two}
use Rattle.aes_planes.proofs.Standard.FieldLaws.{add_swap, add_twice}
use Rattle.gcm.specs.Gcm.{bit_of, next_v, v_at, product}
use Rattle.gcm.specs.Carryless.{carryless}
use Rattle.gcm.specs.Multiples.{sum_of, folded}
use Rattle.gcm.proofs.Products.Linear.{shift_keeps, sum_without_carry, sum-ext, term, term_adds}
use Rattle.gcm.proofs.Products.Linear.{term_keeps, term_mapped, term_through, term_zero}
use Rattle.gcm.proofs.Products.Linear.{product_terms, v_add, v_below, v_keeps, v_shifted, v_zero}
use Rattle.gcm.proofs.Products.Powers.{product_below}
use Rattle.gcm.proofs.Products.Reduction.{folded_keeps}

-- ---- products of sums

-- a product without carries keeps sums in the first factor
pub carryless_left_keeps : (n a b y : ℕ) → carryless n (bit_xor a b) y
    ≡ bit_xor (carryless n a y) (carryless n b y)
unfolding carryless term
carryless_left_keeps zero a b y = refl
carryless_left_keeps (suc n) a b y =
    (λ t. bit_xor ((ap (λ z. carryless n z y * 2) (xor_shr a b 1)
    ∙ ap (λ c. c * 2) (carryless_left_keeps n (a / 2) (b / 2) y)
    ∙ sym (shift_keeps 1 (carryless n (a / 2) y) (carryless n (b / 2) y))) t)
    ((ap (λ c. term c y) (xor_mod a b 1)
    ∙ term_adds (a % 2) (b % 2) y (omega arith) (omega arith)) t))
    ∙ add_swap (carryless n (a / 2) y * 2) (carryless n (b / 2) y * 2) (term (a % 2) y)
    (term (b % 2) y)

-- a product without carries keeps sums in the second factor
pub carryless_right_keeps : (n x a b : ℕ) → carryless n x (bit_xor a b)
    ≡ bit_xor (carryless n x a) (carryless n x b)
unfolding carryless term
carryless_right_keeps zero x a b = refl
carryless_right_keeps (suc n) x a b =
    (λ t. bit_xor ((ap (λ c. c * 2) (carryless_right_keeps n (x / 2) a b)
    ∙ sym (shift_keeps 1 (carryless n (x / 2) a) (carryless n (x / 2) b))) t)
    (term_keeps (x % 2) a b t))
    ∙ add_swap (carryless n (x / 2) a * 2) (carryless n (x / 2) b * 2) (term (x % 2) a)
    (term (x % 2) b)

-- the product without carries of 0 and a number is 0
pub carryless_left_zero : (n y : ℕ) → carryless n 0 y ≡ 0
unfolding carryless
carryless_left_zero zero y = refl
carryless_left_zero (suc n) y = ap (λ c. bit_xor (c * 2) 0) (carryless_left_zero n y)

-- the product without carries of a number and 0 is 0
pub carryless_right_zero : (n x : ℕ) → carryless n x 0 ≡ 0
unfolding carryless term
carryless_right_zero zero x = refl
carryless_right_zero (suc n) x =
    (λ t. bit_xor (carryless_right_zero n (x / 2) t * 2) (term_zero (x % 2) t))

-- ---- products of shifted numbers

-- the product without carries with a shifted number is shifted
pub carryless_right_shifted : (n x y k : ℕ) → carryless n x (y * 2 ^ k) ≡ carryless n x y * 2 ^ k
unfolding carryless term
carryless_right_shifted zero x y k = omega arith
carryless_right_shifted (suc n) x y k =
    let turned : carryless n (x / 2) y * 2 ^ k * 2 ≡ carryless n (x / 2) y * 2 * 2 ^ k =
    omega arith in
    (λ t. bit_xor ((ap (λ c. c * 2) (carryless_right_shifted n (x / 2) y k) ∙ turned) t)
    (sym (term_mapped (λ z. z * 2 ^ k) (omega arith) (x % 2) y) t))
    ∙ shift_keeps k (carryless n (x / 2) y * 2) (if x % 2 == 0 then 0 else y)

-- a product without carries is the sum of those of its first factor's upper and lower bits
pub carryless_split : (m n x y : ℕ) → carryless (m + n) x y
    ≡ bit_xor (carryless m (x / 2 ^ n) y * 2 ^ n) (carryless n x y)
unfolding carryless
carryless_split m zero x y =
    let none : m + 0 ≡ m = omega arith in
    let same : x ≡ x / 2 ^ 0 = omega arith in
    let once : carryless m x y ≡ carryless m x y * 2 ^ 0 = omega arith in
    ap (λ k. carryless k x y) none ∙ once ∙ ap (λ z. carryless m z y * 2 ^ 0) same
    ∙ sym (xor_zero_r (carryless m (x / 2 ^ 0) y * 2 ^ 0))
carryless_split m (suc n) x y =
    let more : m + suc n ≡ suc (m + n) = omega arith in
    let one : 1 + n ≡ suc n = omega arith in
    let last : ℕ = if x % 2 == 0 then 0 else y in
    let upper : carryless m (x / 2 / 2 ^ n) y * 2 ^ n * 2
    ≡ carryless m (x / 2 ^ suc n) y * 2 ^ suc n =
    grouped (carryless m (x / 2 / 2 ^ n) y) (2 ^ n)
    ∙ ap (λ p. carryless m (x / 2 / 2 ^ n) y * p) (sym (pow-suc 2 n))
    ∙ (λ t. carryless m ((shr-shr x 1 n ∙ ap (λ k. x / 2 ^ k) one) t) y * 2 ^ suc n) in
    ap (λ k. carryless k x y) more
    ∙ ap (λ c. bit_xor (c * 2) last) (carryless_split m n (x / 2) y)
    ∙ ap (λ c. bit_xor c last) (sym (shift_keeps 1 (carryless m (x / 2 / 2 ^ n) y * 2 ^ n)
    (carryless n (x / 2) y)))
    ∙ xor_assoc (carryless m (x / 2 / 2 ^ n) y * 2 ^ n * 2) (carryless n (x / 2) y * 2) last
    ∙ ap (λ c. bit_xor c (bit_xor (carryless n (x / 2) y * 2) last)) upper
  where
    grouped : (c p : ℕ) → c * p * 2 ≡ c * (p * 2)
    grouped c p = grind arith

-- the product without carries of n bits is 0 if the last n bits of its first factor are zeros
pub carryless_no_bits : (n a y : ℕ) → carryless n (a * 2 ^ n) y ≡ 0
unfolding carryless
carryless_no_bits zero a y = refl
carryless_no_bits (suc n) a y =
    let twice : a * 2 ^ suc n ≡ a * 2 ^ n * 2 =
    ap (λ p. a * p) (pow-suc 2 n) ∙ grind arith in
    let half : a * 2 ^ suc n / 2 ≡ a * 2 ^ n = omega (arith, twice) in
    let even : a * 2 ^ suc n % 2 ≡ 0 = omega (arith, twice) in
    (λ t. bit_xor (carryless n (half t) y * 2) (if even t == 0 then 0 else y))
    ∙ ap (λ c. bit_xor (c * 2) 0) (carryless_no_bits n a y)

-- ---- parts

-- the product without carries of n bits is that of the last n bits of its first factor
pub carryless_cut : (n x y : ℕ) → carryless n x y ≡ carryless n (x % 2 ^ n) y
carryless_cut n x y =
    let parts : x ≡ bit_xor (x / 2 ^ n * 2 ^ n) (x % 2 ^ n) =
    sym (sum_without_carry n (x / 2 ^ n) (x % 2 ^ n) (omega (arith, pow_pos n))
    ∙ omega (arith, pow_pos n)) in
    ap (λ z. carryless n z y) parts
    ∙ carryless_left_keeps n (x / 2 ^ n * 2 ^ n) (x % 2 ^ n) y
    ∙ ap (λ c. bit_xor c (carryless n (x % 2 ^ n) y)) (carryless_no_bits n (x / 2 ^ n) y)
    ∙ xor_zero_l (carryless n (x % 2 ^ n) y)

-- of four products of halves, the two in the middle are the product of the sums without the others
middle : (a b c d : ℕ) → bit_xor (bit_xor (bit_xor (bit_xor a b) (bit_xor c d)) a) d ≡ bit_xor b c
middle a b c d =
    ap (λ s. bit_xor s d) (aside (bit_xor a b) (bit_xor c d) a
    ∙ ap (λ s. bit_xor s (bit_xor c d)) (ap (λ s. bit_xor s a) (xor_comm a b) ∙ add_twice b a))
    ∙ xor_assoc b (bit_xor c d) d ∙ ap (bit_xor b) (add_twice c d)

-- three products of n bits make a product without carries of 2 n bits (Karatsuba)
pub karatsuba : (n x y x0 x1 y0 y1 : ℕ) → x1 ≡ x / 2 ^ n → x0 ≡ x % 2 ^ n → y1 ≡ y / 2 ^ n
    → y0 ≡ y % 2 ^ n → (l h m : ℕ) → l ≡ carryless n x0 y0 → h ≡ carryless n x1 y1
    → m ≡ bit_xor (bit_xor (carryless n (bit_xor x0 x1) (bit_xor y0 y1)) l) h
    → bit_xor (bit_xor (h * 2 ^ n * 2 ^ n) (m * 2 ^ n)) l ≡ carryless (n + n) x y
karatsuba n x y x0 x1 y0 y1 x1_is x0_is y1_is y0_is l h m l_is h_is m_is =
    let a : ℕ = carryless n x0 y0 in
    let b : ℕ = carryless n x0 y1 in
    let c : ℕ = carryless n x1 y0 in
    let d : ℕ = carryless n x1 y1 in
    let parts : y ≡ bit_xor (y1 * 2 ^ n) y0 =
    sym ((λ t. bit_xor (y1_is t * 2 ^ n) (y0_is t))
    ∙ sum_without_carry n (y / 2 ^ n) (y % 2 ^ n) (omega (arith, pow_pos n))
    ∙ omega (arith, pow_pos n)) in
    let by = λ (z : ℕ). ap (carryless n z) parts ∙ carryless_right_keeps n z (y1 * 2 ^ n) y0
    ∙ ap (λ p. bit_xor p (carryless n z y0)) (carryless_right_shifted n z y1 n) in
    let m_by : m ≡ bit_xor b c =
    m_is ∙ (λ t. bit_xor (bit_xor ((carryless_left_keeps n x0 x1 (bit_xor y0 y1)
    ∙ (λ u. bit_xor (carryless_right_keeps n x0 y0 y1 u) (carryless_right_keeps n x1 y0 y1 u))) t)
    (l_is t)) (h_is t))
    ∙ middle a b c d in
    sym (carryless_split n n x y
    ∙ (λ t. bit_xor (carryless n (sym x1_is t) y * 2 ^ n)
    ((carryless_cut n x y ∙ ap (λ z. carryless n z y) (sym x0_is)) t))
    ∙ (λ t. bit_xor (by x1 t * 2 ^ n) (by x0 t))
    ∙ ap (λ p. bit_xor p (bit_xor (b * 2 ^ n) a)) (sym (shift_keeps n (d * 2 ^ n) c))
    ∙ sym (xor_assoc (bit_xor (d * 2 ^ n * 2 ^ n) (c * 2 ^ n)) (b * 2 ^ n) a)
    ∙ ap (λ s. bit_xor s a) (xor_assoc (d * 2 ^ n * 2 ^ n) (c * 2 ^ n) (b * 2 ^ n)
    ∙ ap (bit_xor (d * 2 ^ n * 2 ^ n)) (shift_keeps n c b
    ∙ ap (λ s. s * 2 ^ n) (xor_comm c b ∙ sym m_by)))
    ∙ (λ t. bit_xor (bit_xor (sym h_is t * 2 ^ n * 2 ^ n) (m * 2 ^ n)) (sym l_is t)))

-- ---- products of blocks

-- the product without carries of n + 1 bits is a sum of multiples once it is shifted back
shifted_back : (n x h : ℕ) → v_at (carryless (suc n) x h) n
    ≡ sum_of (suc n) (λ i. term (x / 2 ^ (n - i) % 2) (v_at h i))
unfolding carryless sum_of term v_at
shifted_back zero x h =
    let bit : x % 2 ≡ x / 2 ^ (0 - 0) % 2 = omega arith in
    ap (λ b. bit_xor 0 (term b h)) bit
shifted_back (suc n) x h =
    let product : ℕ = carryless (suc n) (x / 2) h in
    let one : suc n ≡ 1 + n = omega arith in
    let none : 0 ≡ suc n - suc n = omega arith in
    let bit : x % 2 ≡ x / 2 ^ 0 % 2 = omega arith in
    v_keeps (suc n) (product * 2) (term (x % 2) h)
    ∙ (λ t. bit_xor ((ap (v_at (product * 2)) one ∙ sym (v_add (product * 2) 1 n)
    ∙ ap (λ y. v_at y n) (v_shifted 1 product) ∙ shifted_back n (x / 2) h
    ∙ sum-ext (suc n) (λ i. term (x / 2 / 2 ^ (n - i) % 2) (v_at h i))
    (λ i. term (x / 2 ^ (suc n - i) % 2) (v_at h i))
    (λ i l.
    let place : 1 + (n - i) ≡ suc n - i = omega arith in
    ap (λ y. term (y % 2) (v_at h i)) (shr-shr x 1 (n - i) ∙ ap (λ k. x / 2 ^ k) place))) t)
    ((term_through (x % 2) h (suc n)
    ∙ ap (λ b. term b (v_at h (suc n))) (bit ∙ ap (λ k. x / 2 ^ k % 2) none)) t))

-- a product of blocks is the product without carries, shifted back by 127 bits
product_shifted : (x h : ℕ) → product x h ≡ v_at (carryless 128 x h) 127
unfolding product bit_of
product_shifted x h = product_terms x h 128 ∙ sym (shifted_back 127 x h)

-- ---- the reduction

-- what falls out of a product's 128 bits, and what falls out of that when it is folded in
unfoldable pub spread : ℕ → ℕ
spread f = bit_xor (bit_xor (bit_xor f (f * 2 ^ 127 % 2 ^ 128)) (f * 2 ^ 126 % 2 ^ 128))
    (f * 2 ^ 121 % 2 ^ 128)

-- a shift that loses bits keeps sums
lost_keeps : (k a b : ℕ) → bit_xor a b * 2 ^ k % 2 ^ 128
    ≡ bit_xor (a * 2 ^ k % 2 ^ 128) (b * 2 ^ k % 2 ^ 128)
lost_keeps k a b =
    ap (λ z. z % 2 ^ 128) (sym (shift_keeps k a b)) ∙ xor_mod (a * 2 ^ k) (b * 2 ^ k) 128

-- the sum of shifts that lose bits keeps sums
spread_keeps : (a b : ℕ) → spread (bit_xor a b) ≡ bit_xor (spread a) (spread b)
unfolding spread
spread_keeps a b =
    let p = λ (k z : ℕ). z * 2 ^ k % 2 ^ 128 in
    (λ t. bit_xor (bit_xor (bit_xor (bit_xor a b) (lost_keeps 127 a b t)) (lost_keeps 126 a b t))
    (lost_keeps 121 a b t))
    ∙ ap (λ s. bit_xor (bit_xor s (bit_xor (p 126 a) (p 126 b))) (bit_xor (p 121 a) (p 121 b)))
    (add_swap a b (p 127 a) (p 127 b))
    ∙ ap (λ s. bit_xor s (bit_xor (p 121 a) (p 121 b)))
    (add_swap (bit_xor a (p 127 a)) (bit_xor b (p 127 b)) (p 126 a) (p 126 b))
    ∙ add_swap (bit_xor (bit_xor a (p 127 a)) (p 126 a)) (bit_xor (bit_xor b (p 127 b)) (p 126 b))
    (p 121 a) (p 121 b)

-- two functions that keep sums, and agree on each number that has one bit of n, agree on each of n
-- bits
pub same_linear : (f g : ℕ → ℕ) → f 0 ≡ g 0
    → ((a b : ℕ) → f (bit_xor a b) ≡ bit_xor (f a) (f b))
    → ((a b : ℕ) → g (bit_xor a b) ≡ bit_xor (g a) (g b))
    → (n : ℕ) → ((i : ℕ) → i < n → f (2 ^ i) ≡ g (2 ^ i)) → (x : ℕ) → x < 2 ^ n → f x ≡ g x
same_linear f g none f_keeps g_keeps zero agree x small =
    let is : x ≡ 0 = omega (arith, small) in
    ap f is ∙ none ∙ ap g (sym is)
same_linear f g none f_keeps g_keeps (suc n) agree x small =
    let b : ℕ = x / 2 ^ n in
    let r : ℕ = x % 2 ^ n in
    let r_small : r < 2 ^ n = omega (arith, pow_pos n) in
    let one_more : suc n ≡ 1 + n = omega arith in
    let b_small : b < 2 = shr_below x 1 n (subst (λ k. x < 2 ^ k) one_more small) in
    let parts : x ≡ bit_xor (b * 2 ^ n) r =
    sym (sum_without_carry n b r r_small ∙ omega (arith, pow_pos n)) in
    let no_bit : 0 * 2 ^ n ≡ 0 = omega arith in
    let one_bit : 1 * 2 ^ n ≡ 2 ^ n = omega arith in
    let upper : f (b * 2 ^ n) ≡ g (b * 2 ^ n) =
    by_two (λ b. f (b * 2 ^ n) ≡ g (b * 2 ^ n)) (ap f no_bit ∙ none ∙ ap g (sym no_bit))
    (ap f one_bit ∙ agree n (omega arith) ∙ ap g (sym one_bit)) b b_small in
    let lower : f r ≡ g r =
    same_linear f g none f_keeps g_keeps n (λ i l. agree i (omega (arith, l))) r r_small in
    ap f parts ∙ f_keeps (b * 2 ^ n) r ∙ (λ t. bit_xor (upper t) (lower t))
    ∙ sym (ap g parts ∙ g_keeps (b * 2 ^ n) r)

-- each bit of a block, times x^128, is folded in, by all cases
bit_test : all_below 128 (λ i. v_at (2 ^ i) 128 == folded (spread (2 ^ i))) ≡ true
unfolding all_below v_at next_v folded spread
bit_test = refl

-- a block, times x^128, is folded in
folded_in : (f : ℕ) → f < 2 ^ 128 → v_at f 128 ≡ folded (spread f)
unfolding folded spread
folded_in =
    same_linear (λ f. v_at f 128) (λ f. folded (spread f)) (v_zero 128) (v_keeps 128)
    (λ a b. ap folded (spread_keeps a b) ∙ folded_keeps (spread a) (spread b)) 128
    (λ i l. eqb-true _ _ (all_below_tells 128
    (λ i. v_at (2 ^ i) 128 == folded (spread (2 ^ i))) bit_test i l))

-- the halves of the product without carries, reduced, are the product of two blocks
pub reduced_product : (x h high low : ℕ) → high * 2 ^ 128 + low ≡ carryless 128 x h → h < 2 ^ 128
    → low < 2 ^ 128
    → bit_xor (bit_xor (high * 2 % 2 ^ 128) (low / 2 ^ 127)) (folded (spread (low * 2 % 2 ^ 128)))
    ≡ product x h
reduced_product x h high low is small fits =
    let k : ℕ = high * 2 + low / 2 ^ 127 in
    let f : ℕ = low * 2 % 2 ^ 128 in
    let w : ℕ = folded (spread f) in
    let fallen : f < 2 ^ 128 = omega arith in
    let twice : bit_xor (k * 2 ^ 128) f ≡ (high * 2 ^ 128 + low) * 2 ^ 1 =
    sum_without_carry 128 k f fallen ∙ omega (arith, fits) in
    let whole : bit_xor k w ≡ product x h =
    sym (product_shifted x h ∙ ap (λ c. v_at c 127) (sym is)
    ∙ ap (λ c. v_at c 127) (sym (v_shifted 1 (high * 2 ^ 128 + low)))
    ∙ v_add ((high * 2 ^ 128 + low) * 2 ^ 1) 1 127
    ∙ ap (λ c. v_at c 128) (sym twice)
    ∙ v_keeps 128 (k * 2 ^ 128) f
    ∙ (λ t. bit_xor (v_shifted 128 k t) (folded_in f fallen t))) in
    let w_small : w < 2 ^ 128 = rw (← folded_in f fallen) (v_below 128 f fallen) in
    let k_is : k ≡ bit_xor (product x h) w = sym (ap (λ z. bit_xor z w) (sym whole)
    ∙ add_twice k w) in
    let k_small : k < 2 ^ 128 =
    rw k_is (xor_lt 128 (product x h) w (product_below x h small) w_small) in
    let kept : high * 2 % 2 ^ 128 ≡ high * 2 ^ 1 = omega (arith, k_small) in
    let joint : bit_xor (high * 2 ^ 1) (low / 2 ^ 127) ≡ k =
    sum_without_carry 1 high (low / 2 ^ 127) (omega (arith, fits)) in
    ap (λ z. bit_xor (bit_xor z (low / 2 ^ 127)) w) kept ∙ ap (λ z. bit_xor z w) joint ∙ whole

-- the products of the parts make the upper and the lower half of a product of 256 bits
pub columns : (h m l : ℕ) → l < 2 ^ 128 → bit_xor h (m / 2 ^ 64) * 2 ^ 128
    + bit_xor l (m * 2 ^ 64 % 2 ^ 128)
    ≡ bit_xor (bit_xor (h * 2 ^ 64 * 2 ^ 64) (m * 2 ^ 64)) l
columns h m l small =
    let low : ℕ = m * 2 ^ 64 % 2 ^ 128 in
    let a : h * 2 ^ 64 * 2 ^ 64 ≡ h * 2 ^ 128 + 0 = omega arith in
    let b : m * 2 ^ 64 ≡ m / 2 ^ 64 * 2 ^ 128 + low = omega arith in
    let c : l ≡ 0 * 2 ^ 128 + l = omega arith in
    sym ((λ t. bit_xor (bit_xor (a t) (b t)) l)
    ∙ ap (λ z. bit_xor z l) (xor_block 128 h (m / 2 ^ 64) 0 low (omega arith) (omega arith)
    ∙ ap (λ z. bit_xor h (m / 2 ^ 64) * 2 ^ 128 + z) (xor_zero_l low))
    ∙ ap (bit_xor (bit_xor h (m / 2 ^ 64) * 2 ^ 128 + low)) c
    ∙ xor_block 128 (bit_xor h (m / 2 ^ 64)) 0 low l (omega arith) small
    ∙ (λ t. xor_zero_r (bit_xor h (m / 2 ^ 64)) t * 2 ^ 128 + xor_comm low l t))
