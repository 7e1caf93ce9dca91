-- Sums and products in the field.
use Rattle.std.proofs.Common.{◌≡◌, ℕ, zero, suc, ◌/◌, ◌%◌, ◌+◌, ◌*◌, ◌-◌, ◌≤◌, ◌⊎◌, inl, inr, ◌^◌}
use Rattle.std.proofs.Common.{◌<◌, ◌==◌, true, if◌then◌else◌, nat_lt, bit_xor, refl, ap, sym, ◌∙◌}
use Rattle.std.proofs.Common.{arith}
use Rattle.std.specs.Int.Bits.{xor_assoc, xor_zero_l, xor_zero_r, xor_self}
use Rattle.std.proofs.lemmas.Nat.{xor_comm, xor_shr, xor_mod, xor_lt, xor_block, pow_pos}
use Rattle.std.proofs.lemmas.Bool.{eqb-true, cases_lt, cond_both, ltb-true}
use Rattle.std.proofs.Math.Nat.{mod-lt, pow-suc}
use Rattle.aes_planes.proofs.Bits.ByteCases.{all_below, all_below_tells, by_pairs}
use Rattle.aes_planes.specs.Fips197.{field_add, field_mul, low_product, xtime}

-- ---- sums of bytes

-- the sum of a byte and 0 is the byte
pub add_zero : (a : ℕ) → field_add a 0 ≡ a
add_zero a = xor_zero_r a

-- the exchange of the two inner ones of four
pub add_swap : (a b c d : ℕ) → field_add (field_add a b) (field_add c d)
    ≡ field_add (field_add a c) (field_add b d)
add_swap a b c d =
    xor_assoc a b (field_add c d)
    ∙ ap (field_add a) (sym (xor_assoc b c d) ∙ ap (λ v. field_add v d) (xor_comm b c)
    ∙ xor_assoc c b d)
    ∙ sym (xor_assoc a c (field_add b d))

-- adding the same byte twice leaves a byte as it was
pub add_twice : (a b : ℕ) → field_add (field_add a b) b ≡ a
add_twice a b = xor_assoc a b b ∙ ap (field_add a) (xor_self b) ∙ xor_zero_r a

-- ---- products of bytes

-- the term of a bit: that of a sum of two bits is the sum of theirs
bit_term_add : (a p q : ℕ) → p < 2 → q < 2 → (if bit_xor p q == 1 then a else 0)
    ≡ field_add (if p == 1 then a else 0) (if q == 1 then a else 0)
bit_term_add a = by_pairs _ (sym (xor_zero_r 0)) (sym (xor_zero_l a)) (sym (xor_zero_r a))
    (sym (xor_self a))

-- a product is linear in its second factor
low_product_add : (n a b c : ℕ) → low_product n a (field_add b c)
    ≡ field_add (low_product n a b) (low_product n a c)
unfolding low_product
low_product_add zero a b c = refl
low_product_add (suc n) a b c =
    let p : bit_xor b c % 2 ≡ bit_xor (b % 2) (c % 2) = xor_mod b c 1 in
    let q : bit_xor b c / 2 ≡ bit_xor (b / 2) (c / 2) = xor_shr b c 1 in
    (λ i. field_add (if p i == 1 then a else 0) (low_product n (xtime a) (q i)))
    ∙ (λ i. field_add (bit_term_add a (b % 2) (c % 2) (mod-lt b (omega arith))
    (mod-lt c (omega arith)) i)
    (low_product_add n (xtime a) (b / 2) (c / 2) i))
    ∙ add_swap (if b % 2 == 1 then a else 0) (if c % 2 == 1 then a else 0)
    (low_product n (xtime a) (b / 2))
    (low_product n (xtime a) (c / 2))

-- a product with a sum is the sum of the products
pub field_mul_add : (a b c : ℕ) → field_mul a (field_add b c)
    ≡ field_add (field_mul a b) (field_mul a c)
unfolding field_mul
field_mul_add a b c = low_product_add 8 a b c

-- the product of a byte and x is a byte
pub xtime_byte : (a : ℕ) → a < 256 → xtime a < 256
unfolding all_below xtime
xtime_byte a h = ltb-true _ _ (all_below_tells 256 (λ a. nat_lt (xtime a) 256) refl a h)

-- the product of a byte and any number is a byte, since each doubling is reduced
low_product_byte : (n a b : ℕ) → a < 256 → low_product n a b < 256
unfolding low_product
low_product_byte zero a b h = omega arith
low_product_byte (suc n) a b h =
    xor_lt 8 _ _ (cond_both (b % 2 == 1) a 0 (λ v. v < 256) (λ t. h) (λ t. omega arith))
    (low_product_byte n (xtime a) (b / 2) (xtime_byte a h))

-- the product of a byte and any number is a byte
pub field_mul_byte : (a b : ℕ) → a < 256 → field_mul a b < 256
unfolding field_mul
field_mul_byte a b h = low_product_byte 8 a b h

-- the sum of two bytes is a byte
pub field_add_byte : (a b : ℕ) → a < 256 → b < 256 → field_add a b < 256
field_add_byte a b h k = xor_lt 8 a b h k

-- the product with 1 from the right is the number itself
pub field_mul_one : (a : ℕ) → field_mul a 1 ≡ a
unfolding field_mul
field_mul_one a = xor_zero_r a

-- ---- functions that are linear over sums agree where they agree on the powers of x

-- f of a sum is the sum of the values of f
abbrev pub Linear : (ℕ → ℕ) → Type 0
Linear f = (x y : ℕ) → f (field_add x y) ≡ field_add (f x) (f y)

-- a linear function takes 0 to 0
linear_zero : (f : ℕ → ℕ) → Linear f → f 0 ≡ 0
linear_zero f p = p 0 0 ∙ xor_self (f 0)

-- a number is its highest power of 2 and the rest
top_bit : (k x : ℕ) → 2 ^ k ≤ x → x < 2 ^ k + 2 ^ k → field_add (2 ^ k) (x - 2 ^ k) ≡ x
top_bit k x h l =
    let e : 1 * 2 ^ k + 0 ≡ 2 ^ k = omega arith in
    let f : 0 * 2 ^ k + (x - 2 ^ k) ≡ x - 2 ^ k = omega arith in
    let g : 1 * 2 ^ k + (x - 2 ^ k) ≡ x = omega arith in
    (λ i. field_add (sym e i) (sym f i))
    ∙ xor_block k 1 0 0 (x - 2 ^ k) (pow_pos k) (omega arith) ∙ g

module _ (f g : ℕ → ℕ) (p : Linear f) (q : Linear g) where
  -- linear functions that agree on all numbers below a power of 2 agree on those below the next
  agree_step : (k : ℕ) → ((i : ℕ) → i < suc k → f (2 ^ i) ≡ g (2 ^ i))
      → ((x : ℕ) → x < 2 ^ k → f x ≡ g x)
      → (x : ℕ) → x < 2 ^ k + 2 ^ k → (x < 2 ^ k) ⊎ (2 ^ k ≤ x) → f x ≡ g x
  agree_step k same low x lt (inl l) = low x l
  agree_step k same low x lt (inr h) =
      ap f (sym (top_bit k x h lt)) ∙ p (2 ^ k) (x - 2 ^ k)
      ∙ (λ i. field_add (same k (omega arith) i) (low (x - 2 ^ k) (omega arith) i))
      ∙ sym (q (2 ^ k) (x - 2 ^ k)) ∙ ap g (top_bit k x h lt)

  -- linear functions that agree on the powers of 2 agree below each of them
  agree_below : (k : ℕ) → ((i : ℕ) → i < k → f (2 ^ i) ≡ g (2 ^ i)) → (x : ℕ)
      → x < 2 ^ k → f x ≡ g x
  agree_below zero same x lt =
      let z : x ≡ 0 = omega arith in ap f z ∙ linear_zero f p ∙ sym (linear_zero g q) ∙ ap g (sym z)
  agree_below (suc k) same x lt =
      let e : 2 ^ suc k ≡ 2 ^ k + 2 ^ k = omega (arith, pow-suc 2 k) in
      agree_step k same (agree_below k (λ i l. same i (omega arith))) x (omega (arith, lt, e))
      (cases_lt x (2 ^ k))

  -- whether they agree on the powers of x below 2 ^ 8
  pub agree_by_powers : all_below 8 (λ i. f (2 ^ i) == g (2 ^ i)) ≡ true → (x : ℕ)
      → x < 256 → f x ≡ g x
  agree_by_powers test x lt =
      agree_below 8 (λ i l. eqb-true (f (2 ^ i)) (g (2 ^ i)) (all_below_tells 8 _ test i l)) x lt
