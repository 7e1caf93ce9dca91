-- The bits of a number through the operations on numbers.
use Rattle.std.proofs.Common.{◌≡◌, ℕ, zero, suc, ◌+◌, ◌-◌, ◌*◌, ◌/◌, ◌%◌, ◌^◌, ◌<◌, ◌≤◌, ◌==◌, min}
use Rattle.std.proofs.Common.{max, Bool, true, false, ◌&&◌, ◌||◌, nat_le, nat_lt, bit_and, bit_or}
use Rattle.std.proofs.Common.{bit_xor, List, [], ◌∷◌, length, refl, ap, sym, ◌∙◌, arith, add-zero}
use Rattle.std.proofs.Common.{add_comm, pow_pos, inl, inr, cond}
use Rattle.std.proofs.Math.Bool.{or-false, or_self}
use Rattle.std.specs.Int.{bit_at}
use lib.Lanes.{mask_l}
use Rattle.std.proofs.lemmas.Simd.{bit_mask_l, mask_l-lt}
use Rattle.std.proofs.lemmas.Nat.Bits.{bit_at-lt, bit_at_and, bit_at_or, bit_at_xor, bit_at_cat_low}
use Rattle.std.proofs.lemmas.Nat.Bits.{bit_at_cat_high, bit_at-zero, bit_at_above, bit_at_ones}
use Rattle.std.proofs.lemmas.Nat.{shr-shr, shr_split}
use Rattle.std.proofs.Math.Nat.{mod-eq_of_lt, mod_self, mod-eq-sub-mod, zero-mod, mod-lt}
use Rattle.std.proofs.lemmas.Bool.{cases_lt, eqb-true, lt-ltb, le-ltb, le-leb, lt-leb}
use Rattle.aes_planes.specs.Bits.{at, bit, number, xor, Places}
use Rattle.aes_planes.specs.Fips197.{build}
use Rattle.aes_planes.proofs.Bits.ByteCases.{all_below, all_below_tells, by_pairs}
use Rattle.aes_planes.proofs.Lists.{get_or-build}

-- the bits of a number, place by place
pub Places-build : (n : ℕ) (g f : ℕ → Bool) → ((i : ℕ) → i < n → g i ≡ f i) → Places n (build n g) f
Places-build n g f h i lt = get_or-build n i g false lt ∙ h i lt

-- the and of two bits that are numbers is the lesser of them, by all cases
and_test : (p q : ℕ) → p < 2 → q < 2 → (min p q == 1) ≡ ((p == 1) && (q == 1))
and_test = by_pairs _ refl refl refl refl

-- the or of two bits that are numbers is the greater of them
or_test : (p q : ℕ) → p < 2 → q < 2 → (max p q == 1) ≡ ((p == 1) || (q == 1))
or_test = by_pairs _ refl refl refl refl

-- the exclusive or of two bits that are numbers is their sum's lowest bit
xor_test : (p q : ℕ) → p < 2 → q < 2 → ((p + q) % 2 == 1) ≡ xor (p == 1) (q == 1)
xor_test = by_pairs _ refl refl refl refl

-- bit i of a bitwise and is the and of the two bits i
pub bit_of_and : (a b i : ℕ) → bit (bit_and a b) i ≡ (bit a i && bit b i)
unfolding bit
bit_of_and a b i = ap (λ x. x == 1) (bit_at_and a b i)
    ∙ and_test _ _ (bit_at-lt a i) (bit_at-lt b i)

-- bit i of a bitwise or is the or of the two bits i
pub bit_of_or : (a b i : ℕ) → bit (bit_or a b) i ≡ (bit a i || bit b i)
unfolding bit
bit_of_or a b i = ap (λ x. x == 1) (bit_at_or a b i) ∙ or_test _ _ (bit_at-lt a i) (bit_at-lt b i)

-- bit i of a bitwise xor is the sum of the two bits i
pub bit_of_xor : (a b i : ℕ) → bit (bit_xor a b) i ≡ xor (bit a i) (bit b i)
unfolding bit
bit_of_xor a b i = ap (λ x. x == 1) (bit_at_xor a b i)
    ∙ xor_test _ _ (bit_at-lt a i) (bit_at-lt b i)

-- no bit of 0 is set
pub bit_zero : (i : ℕ) → bit 0 i ≡ false
unfolding bit
bit_zero i = ap (λ v. v == 1) (bit_at-zero i)

-- the lowest k bits of 2 ^ k - 1 are all set
pub bit_ones : (k i : ℕ) → i < k → bit (2 ^ k - 1) i ≡ true
unfolding bit
bit_ones k i h = ap (λ v. v == 1) (bit_at_ones k i h)

-- ---- a word of n bits

-- below n, bit i of a number is element i of the list of its lowest n bits
pub at-word_bits : (n a i : ℕ) → i < n → bit a i ≡ at (build n (bit a)) i
at-word_bits n a i h = sym (get_or-build n i (bit a) false h)

-- ---- shifts of numbers

-- the remainder modulo 2 ^ w has the number's own bits below w
pub bit_low : (x w i : ℕ) → i < w → bit (x % 2 ^ w) i ≡ bit x i
unfolding bit
bit_low x w i h =
    ap (λ v. v == 1) (sym (bit_at_cat_low (x / 2 ^ w) w (x % 2 ^ w) i h)
    ∙ ap (λ v. bit_at v i) (shr_split x w))

-- a number below 2 ^ w has no bit set from w on
pub bit_above : (x w i : ℕ) → x < 2 ^ w → w ≤ i → bit x i ≡ false
unfolding bit
bit_above x w i h k = ap (λ v. v == 1) (bit_at_above x w i h k)

-- bit i of a number shifted right by n is its bit i + n
pub bit_shr : (x n i : ℕ) → bit (x / 2 ^ n) i ≡ bit x (i + n)
unfolding bit
bit_shr x n i = ap (λ v. v % 2 == 1) (shr-shr x n i ∙ ap (λ k. x / 2 ^ k) (add_comm n i))

-- a shift to the left leaves zeros below
bit_shl_low : (x n i : ℕ) → i < n → bit (x * 2 ^ n) i ≡ false
unfolding bit
bit_shl_low x n i h =
    ap (λ v. v == 1) (ap (λ v. bit_at v i) (sym (add-zero (x * 2 ^ n))) ∙ bit_at_cat_low x n 0 i h
    ∙ bit_at-zero i)

-- bit i of a number shifted left by n is its bit i - n, from bit n on
pub bit_shl_high : (x n i : ℕ) → n ≤ i → bit (x * 2 ^ n) i ≡ bit x (i - n)
unfolding bit
bit_shl_high x n i h =
    ap (λ v. v == 1) (ap (λ v. bit_at v i) (sym (add-zero (x * 2 ^ n)))
    ∙ bit_at_cat_high x n 0 i (pow_pos n) h)

-- a shift up by n within w bits moves each bit n places up, and zeros into the first
pub bit_shl : (w x n i : ℕ) → i < w → bit (x * 2 ^ n % 2 ^ w) i ≡ (nat_le n i && bit x (i - n))
bit_shl w x n i h = bit_low (x * 2 ^ n) w i h ∙ elim (cases_lt i n) [
  | inl lt ↦ bit_shl_low x n i lt ∙ ap (λ b. b && bit x (i - n)) (sym (lt-leb n i lt))
  | inr le ↦ bit_shl_high x n i le ∙ ap (λ b. b && bit x (i - n)) (sym (le-leb n i le))
]

-- a number of w bits has no bit above them
bit_within : (w x i : ℕ) → x < 2 ^ w → bit x i ≡ (nat_lt i w && at (build w (bit x)) i)
bit_within w x i f = elim (cases_lt i w) [
  | inl lt ↦ at-word_bits w x i lt ∙ ap (λ b. b && at (build w (bit x)) i) (sym (lt-ltb i w lt))
  | inr le ↦ bit_above x w i f le ∙ ap (λ b. b && at (build w (bit x)) i) (sym (le-ltb i w le))
]

-- a word shifted left by n has in each place the bit n places below, and zeros in the lowest n
pub word_shl : (w x n : ℕ) → Places w (build w (bit (x * 2 ^ n % 2 ^ w)))
    (λ i. nat_le n i && at (build w (bit x)) (i - n))
word_shl w x n = Places-build w _ _ (λ i h. bit_shl w x n i h
    ∙ ap (λ b. nat_le n i && b) (at-word_bits w x (i - n) (omega arith)))

-- a word shifted right by n has in each place the bit n places above, and zeros in the highest n
pub word_shr : (w x n : ℕ) → x < 2 ^ w
    → Places w (build w (bit (x / 2 ^ n))) (λ i. nat_lt (i + n) w && at (build w (bit x)) (i + n))
word_shr w x n f = Places-build w _ _ (λ i h. bit_shr x n i ∙ bit_within w x (i + n) f)

-- the remainder modulo 256 has the bits of the word's lowest byte
pub word_low_byte : (n x : ℕ) → 8 ≤ n → (i : ℕ) → i < 8 → bit (x % 256) i ≡ at (build n (bit x)) i
word_low_byte n x h i k = bit_low x 8 i k ∙ at-word_bits n x i (omega arith)

-- ---- rotations

-- w bits of which the low ones are a's from p on, and the others b's
pub bit_funnel : (w p q a b i : ℕ) (v : Bool) → p + q ≡ w → a < 2 ^ w → i < w
    → (i + p < w → bit a (i + p) ≡ v)
    → (w ≤ i + p → bit b (i - q) ≡ v) → bit (bit_or (a / 2 ^ p) (b * 2 ^ q % 2 ^ w)) i ≡ v
bit_funnel w p q a b i v e f k low high = bit_of_or (a / 2 ^ p) (b * 2 ^ q % 2 ^ w) i
    ∙ elim (cases_lt (i + p) w) [
      | inl lt ↦
          let none = bit_low (b * 2 ^ q) w i k ∙ bit_shl_low b q i (omega arith) in
          ap (λ x. bit (a / 2 ^ p) i || x) none ∙ or-false _ ∙ bit_shr a p i ∙ low lt
      | inr le ↦
          let none = bit_shr a p i ∙ bit_above a w (i + p) f le in
          ap (λ x. x || bit (b * 2 ^ q % 2 ^ w) i) none ∙ bit_low (b * 2 ^ q) w i k
          ∙ bit_shl_high b q i (omega arith)
          ∙ high le
    ]

-- a rotation by n, which is not 0
bit_rotated : (w x n i : ℕ) → x < 2 ^ w → 0 < n → n < w → i < w
    → bit (bit_or (x / 2 ^ n) (x * 2 ^ (w - n) % 2 ^ w)) i ≡ bit x ((i + n) % w)
bit_rotated w x n i f p h k = bit_funnel w n (w - n) x x i _ (omega arith) f k
    (λ lt. ap (bit x) (sym (mod-eq_of_lt lt)))
    (λ le. let e : i - (w - n) ≡ i + n - w = omega arith in
    ap (bit x) (e ∙ sym (mod-eq-sub-mod le ∙ mod-eq_of_lt (omega arith))))

-- a rotation as words compute it; at distance 0 both shifts are by 0
ror_bit : (w x n i : ℕ) → x < 2 ^ w → n < w → i < w
    → bit (bit_or (x / 2 ^ (n % w)) (x * 2 ^ ((w - n % w) % w) % 2 ^ w)) i ≡ bit x ((i + n) % w)
ror_bit w x zero i f h k =
    let m : 0 % w ≡ 0 = zero-mod w in
    let s : (w - 0) % w ≡ 0 = ap (λ v. v % w) (omega arith) ∙ mod_self w in
    let j : (i + 0) % w ≡ i + 0 = mod-eq_of_lt (omega arith) in
    let e : i - 0 ≡ i + 0 = omega arith in
    let up = bit_low (x * 2 ^ 0) w i k ∙ bit_shl_high x 0 i (omega arith) ∙ ap (bit x) e in
    rw (m, s, j) (bit_of_or (x / 2 ^ 0) (x * 2 ^ 0 % 2 ^ w) i ∙ (λ t. bit_shr x 0 i t || up t)
    ∙ or_self (bit x (i + 0)))
ror_bit w x (suc n) i f h k =
    let m : suc n % w ≡ suc n = mod-eq_of_lt h in
    let s : (w - suc n) % w ≡ w - suc n = mod-eq_of_lt (omega arith) in
    rw (m, s) (bit_rotated w x (suc n) i f (omega arith) h k)

-- a word rotated right by n has in each place the bit n places above, round the end
pub word_ror : (w x n y : ℕ) → x < 2 ^ w → n < w
    → y ≡ bit_or (x / 2 ^ (n % w)) (x * 2 ^ ((w - n % w) % w) % 2 ^ w)
    → Places w (build w (bit y)) (λ i. at (build w (bit x)) ((i + n) % w))
word_ror w x n y f h e = Places-build w _ _ (λ i k.
    ap (λ v. bit v i) e ∙ ror_bit w x n i f h k
    ∙ at-word_bits w x ((i + n) % w) (mod-lt (i + n) (omega arith)))

-- what calls of a word leave, where it is a number: of operators bit by bit
pub ruleset number_calls =
    (get_or-build, bit_of_and, bit_of_or, bit_of_xor, word_shl, word_shr, word_ror, word_low_byte)

-- ---- a byte by its bits

-- the number of a byte's eight bits is the byte
pub number_of_bits : (x : ℕ) → x < 256
    → number (bit x 0 ∷ bit x 1 ∷ bit x 2 ∷ bit x 3 ∷ bit x 4 ∷ bit x 5 ∷ bit x 6
    ∷ bit x 7 ∷ []) ≡ x
unfolding all_below bit
number_of_bits x h = eqb-true _ _ (all_below_tells 256
    (λ x. number (bit x 0 ∷ bit x 1 ∷ bit x 2 ∷ bit x 3 ∷ bit x 4 ∷ bit x 5 ∷ bit x 6 ∷ bit x 7
    ∷ []) == x) refl x h)

-- the number of a list of bits is the mask that std makes of it
number_is : (bs : List Bool) → number bs ≡ mask_l bs
number_is [] = refl
number_is (b ∷ bs) = ap (λ v. cond b 1 0 + 2 * v) (number_is bs)

-- the number of n bits is below 2 ^ n
pub number_below : (bs : List Bool) → number bs < 2 ^ length bs
number_below bs = rw (number_is bs) (mask_l-lt bs)

-- the number of some bits has those bits
pub bit_of_number : (bs : List Bool) (i : ℕ) → bit (number bs) i ≡ at bs i
unfolding bit
bit_of_number bs i = rw (number_is bs) (ap (λ v. v == 1) (bit_mask_l bs i)
    ∙ elim (at bs i) as (λ b. (cond b 1 0 == 1) ≡ b) [ true ↦ refl | false ↦ refl ])
