-- Products by powers of a block: the order of factors is free, and what is hashed block by block is
-- a sum of products.
use Rattle.std.proofs.Common.{◌≡◌, ℕ, ◌-◌, ◌*◌, ◌/◌, ◌%◌, ◌^◌, ◌<◌, ◌==◌, true}
use Rattle.std.proofs.Common.{bit_xor, refl, ap, sym, ◌∙◌, arith}
use Rattle.std.proofs.lemmas.Nat.{xor_shr, xor_mod}
use Rattle.std.proofs.lemmas.Bool.{eqb-true}
use Rattle.aes_planes.proofs.Bits.ByteCases.{all_below, all_below_tells}
use Rattle.gcm.specs.Gcm.{bit_of, v_at, next_v, product}
use Rattle.gcm.specs.Multiples.{sum_of, byte_of, nibble_multiple, byte_multiple}
use Rattle.gcm.proofs.Products.Linear.{term, term_adds, term_keeps, term_zero, term_below}
use Rattle.gcm.proofs.Products.Linear.{term_mapped, term_through, product_terms, product_bytes}
use Rattle.gcm.proofs.Products.Linear.{byte_small, sum-ext, sum-add, sum-zero, sum-through, v-sum}
use Rattle.gcm.proofs.Products.Linear.{v_keeps, v_zero, v_swap, v_below, sum-below}
use Rattle.gcm.proofs.Products.Reduction.{number_sum, placed}

-- ---- products keep sums

-- a bit of a sum is the sum of the bits
bit_keeps : (a b i : ℕ) → bit_of (bit_xor a b) i ≡ bit_xor (bit_of a i) (bit_of b i)
unfolding bit_of
bit_keeps a b i = ap (λ y. y % 2) (xor_shr a b (127 - i))
    ∙ xor_mod (a / 2 ^ (127 - i)) (b / 2 ^ (127 - i)) 1

-- a bit is 0 or 1, as `term_adds` asks
bit_small : (x i : ℕ) → bit_of x i < 2
unfolding bit_of
bit_small x i = omega arith

-- a product keeps sums of its first factor
product_left_keeps : (a b h : ℕ) → product (bit_xor a b) h ≡ bit_xor (product a h) (product b h)
unfolding product
product_left_keeps a b h =
    product_terms (bit_xor a b) h 128
    ∙ sum-ext 128 (λ i. term (bit_of (bit_xor a b) i) (v_at h i))
    (λ i. bit_xor (term (bit_of a i) (v_at h i)) (term (bit_of b i) (v_at h i)))
    (λ i l. ap (λ t. term t (v_at h i)) (bit_keeps a b i)
    ∙ term_adds (bit_of a i) (bit_of b i) (v_at h i) (bit_small a i) (bit_small b i))
    ∙ sum-add 128 (λ i. term (bit_of a i) (v_at h i)) (λ i. term (bit_of b i) (v_at h i))
    ∙ (λ t. bit_xor (sym (product_terms a h 128) t) (sym (product_terms b h 128) t))

-- a product keeps sums of its second factor
product_right_keeps : (x a b : ℕ) → product x (bit_xor a b) ≡ bit_xor (product x a) (product x b)
unfolding product
product_right_keeps x a b =
    product_terms x (bit_xor a b) 128
    ∙ sum-ext 128 (λ i. term (bit_of x i) (v_at (bit_xor a b) i))
    (λ i. bit_xor (term (bit_of x i) (v_at a i)) (term (bit_of x i) (v_at b i)))
    (λ i l. ap (term (bit_of x i)) (v_keeps i a b) ∙ term_keeps (bit_of x i) (v_at a i) (v_at b i))
    ∙ sum-add 128 (λ i. term (bit_of x i) (v_at a i)) (λ i. term (bit_of x i) (v_at b i))
    ∙ (λ t. bit_xor (sym (product_terms x a 128) t) (sym (product_terms x b 128) t))

-- a product with 0 is 0, which a lemma on sums needs where it begins
product_right_zero : (x : ℕ) → product x 0 ≡ 0
unfolding product
product_right_zero x =
    product_terms x 0 128
    ∙ sum-ext 128 (λ i. term (bit_of x i) (v_at 0 i)) (λ i. 0)
    (λ i l. ap (term (bit_of x i)) (v_zero i) ∙ term_zero (bit_of x i))
    ∙ sum-zero 128

-- a product with a term is the term of the product
product_right_term : (x b y : ℕ) → product x (term b y) ≡ term b (product x y)
product_right_term x b y = term_mapped (product x) (product_right_zero x) b y

-- multiples of the second factor by powers of x are multiples of the product
pub product_right_v : (x a m : ℕ) → product x (v_at a m) ≡ v_at (product x a) m
unfolding product
product_right_v x a m =
    product_terms x (v_at a m) 128
    ∙ sum-ext 128 (λ i. term (bit_of x i) (v_at (v_at a m) i))
    (λ i. v_at (term (bit_of x i) (v_at a i)) m)
    (λ i l. ap (term (bit_of x i)) (v_swap a m i) ∙ sym (term_through (bit_of x i) (v_at a i) m))
    ∙ sym (v-sum 128 m (λ i. term (bit_of x i) (v_at a i)))
    ∙ ap (λ y. v_at y m) (sym (product_terms x a 128))

-- ---- the order of factors

-- two factors of a third can change places: both sides are the same sum of terms
product_left_swap : (x y h : ℕ) → product x (product y h) ≡ product y (product x h)
unfolding product
product_left_swap x y h =
    ap (product x) (product_terms y h 128)
    ∙ sum-through (product x) (product_right_zero x) (product_right_keeps x) 128
    (λ i. term (bit_of y i) (v_at h i))
    ∙ sum-ext 128 (λ i. product x (term (bit_of y i) (v_at h i)))
    (λ i. term (bit_of y i) (v_at (product x h) i))
    (λ i l. product_right_term x (bit_of y i) (v_at h i)
    ∙ ap (term (bit_of y i)) (product_right_v x h i))
    ∙ sym (product_terms y (product x h) 128)

-- the multiple by a byte of the block that is one is the byte, at the first place
one_test : all_below 256 (λ b. byte_multiple (2 ^ 127) b == b * 2 ^ 120) ≡ true
unfolding all_below byte_multiple nibble_multiple sum_of v_at next_v
one_test = refl

-- a product with the block that is one is the other factor, so the law above turns into one on two
-- factors
pub product_by_one : (a : ℕ) → a < 2 ^ 128 → product a (2 ^ 127) ≡ a
product_by_one a small =
    product_bytes a (2 ^ 127)
    ∙ sum-ext 16 (λ j. v_at (byte_multiple (2 ^ 127) (byte_of a j)) (8 * j))
    (λ j. byte_of a j * 2 ^ (8 * (15 - j)))
    (λ j l. ap (λ m. v_at m (8 * j))
    (eqb-true _ _ (all_below_tells 256 (λ b. byte_multiple (2 ^ 127) b == b * 2 ^ 120)
    one_test (byte_of a j) (byte_small a j))) ∙ sym (placed (byte_of a j) j l))
    ∙ number_sum a small

-- the two factors of a product can change places
product_comm : (a b : ℕ) → a < 2 ^ 128 → b < 2 ^ 128 → product a b ≡ product b a
product_comm a b ha hb = ap (product a) (sym (product_by_one b hb))
    ∙ product_left_swap a b (2 ^ 127)
    ∙ ap (product b) (product_by_one a ha)

-- a number that equals a block is a block
small_as : (a b : ℕ) → a ≡ b → b < 2 ^ 128 → a < 2 ^ 128
small_as a b e small = rw e small

-- a product with a block is a block
pub product_below : (x h : ℕ) → h < 2 ^ 128 → product x h < 2 ^ 128
unfolding product
product_below x h small =
    small_as (product x h) _ (product_terms x h 128)
    (sum-below 128 128 (λ i. term (bit_of x i) (v_at h i))
    (λ i l. term_below (bit_of x i) (v_at h i) (v_below i h small)))

-- products of three blocks can be grouped in either way
product_assoc : (x q h : ℕ) → q < 2 ^ 128 → h < 2 ^ 128
    → product (product x q) h ≡ product x (product q h)
product_assoc x q h hq hh = product_comm (product x q) h (product_below x q hq) hh
    ∙ product_left_swap h x q
    ∙ ap (product x) (product_comm h q hh hq)

-- ---- two and three blocks, hashed

-- two blocks, hashed: the first is multiplied twice, so by the square of H
pub two_hashed : (h b c : ℕ) → h < 2 ^ 128
    → product (bit_xor (product b h) c) h ≡ bit_xor (product b (product h h)) (product c h)
two_hashed h b c small =
    product_left_keeps (product b h) c h
    ∙ ap (λ y. bit_xor y (product c h)) (product_assoc b h h small small)

-- three blocks, hashed, by the powers of H that the tables have
pub three_hashed : (h p b c h2 h3 : ℕ) → h < 2 ^ 128 → h2 ≡ product h h → h3 ≡ product h2 h
    → product (bit_xor (product (bit_xor (product p h) b) h) c) h
    ≡ bit_xor (bit_xor (product p h3) (product b h2)) (product c h)
three_hashed h p b c h2 h3 small two three =
    let small_2 : h2 < 2 ^ 128 = small_as h2 (product h h) two (product_below h h small) in
    let here = λ (x : ℕ). product_assoc x h h small small ∙ ap (product x) (sym two) in
    let on = λ (x : ℕ). product_assoc x h2 h small_2 small ∙ ap (product x) (sym three) in
    ap (λ y. product (bit_xor y c) h) (product_left_keeps (product p h) b h
    ∙ ap (λ y. bit_xor y (product b h)) (here p))
    ∙ product_left_keeps (bit_xor (product p h2) (product b h)) c h
    ∙ ap (λ y. bit_xor y (product c h)) (product_left_keeps (product p h2) (product b h) h
    ∙ (λ t. bit_xor (on p t) (here b t)))
