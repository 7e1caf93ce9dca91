-- Each byte but 0 has exactly one inverse, which the table of the S-box gives.
use Rattle.std.proofs.Common.{◌≡◌, ◌≢◌, inl, inr, ℕ, zero, suc, ◌+◌, ◌^◌, ◌<◌, ◌≤◌, ◌==◌, Bool}
use Rattle.std.proofs.Common.{true, false, ◌&&◌, ◌*◌, ◌/◌, ◌%◌, ◌-◌, nat_lt, get_or, bit_xor, refl}
use Rattle.std.proofs.Common.{sym, ap, ◌∙◌, arith}
use Rattle.std.proofs.lemmas.Bool.{cases_lt, eqb-true, eq-eqb, and_parts, ltb-true}
use Rattle.aes_planes.specs.Fips197.{field_mul, field_inverse, first_from, least_byte}
use Rattle.aes_planes.specs.SBoxTables.{sbox_table}
use Rattle.aes_planes.proofs.Bits.ByteCases.{all_below, all_below_tells}
use Rattle.aes_planes.proofs.Standard.FieldLaws.{field_mul_add, field_mul_one, agree_by_powers}

-- ---- a search finds what it looks for

-- what passes a test and is below a bound
abbrev pub Passes : (ℕ → Bool) → ℕ → ℕ → Type 0
Passes p x bound = (p x ≡ true) × (x < bound)

-- one turn of the search: it ends here, or passes later
first_case : (p : ℕ → Bool) (n c b : ℕ) (here : Bool) → p c ≡ here → c ≤ b → p b ≡ true
    → (c + 1 ≤ b → Passes p (first_from p (c + 1) n) (c + suc n))
    → Passes p (elim here as (λ _. ℕ) [ true ↦ c | false ↦ first_from p (c + 1) n ]) (c + suc n)
first_case p n c b true own le e later = (own, omega arith)
first_case p n c b false own le e later = later (elim (cases_lt c b) [
  | inl lt ↦ omega arith
  | inr ge ↦ let same : b ≡ c = omega arith in absurd (grind (arith, sym own ∙ ap p (sym same) ∙ e))
])

-- the first of n numbers from c on that passes a test does pass it, if one of them does
first_passes : (p : ℕ → Bool) (n c b : ℕ) → c ≤ b → b < c + n → p b ≡ true
    → Passes p (first_from p c n) (c + n)
unfolding first_from
first_passes p zero c b le lt e = absurd (omega arith)
first_passes p (suc n) c b le lt e = first_case p n c b (p c) refl le e (λ more.
    let f = first_passes p n (c + 1) b more (omega arith) e in (f.0, omega (arith, f.1)))

-- if a byte passes a test, then the least that passes is a byte and passes
pub byte_passes : (p : ℕ → Bool) (b : ℕ) → b < 256 → p b ≡ true → Passes p (least_byte p) 256
unfolding least_byte
byte_passes p b h e = first_passes p 256 0 b (omega arith) h e

-- one turn of a search below a bound stays below it
either_below : (c rest m : ℕ) (here : Bool) → c < m → rest < m
    → elim here as (λ _. ℕ) [ true ↦ c | false ↦ rest ] < m
either_below c rest m true h k = h
either_below c rest m false h k = k

-- a search stays below a bound, even if no number passes
first_below : (p : ℕ → Bool) (n c m : ℕ) → 0 < m → c + n ≤ m → first_from p c n < m
unfolding first_from
first_below p zero c m some h = some
first_below p (suc n) c m some h =
    either_below c (first_from p (c + 1) n) m (p c) (omega arith)
    (first_below p n (c + 1) m some (omega arith))

-- the least byte is a byte for every test
pub least_byte_lt : (p : ℕ → Bool) → least_byte p < 256
unfolding least_byte
least_byte_lt p = first_below p 256 0 256 (omega arith) (omega arith)

-- ---- inverses

-- a byte turned left by n bits
turned_left : ℕ → ℕ → ℕ
turned_left n c = c * 2 ^ n % 256 + c / 2 ^ (8 - n)

-- the inverse of b, since the S-box is the affine transformation of it: its table with that undone
unfoldable pub untransformed : ℕ → ℕ
unfolding turned_left
untransformed b =
    let c : ℕ = get_or sbox_table b 0 in
    bit_xor (bit_xor (turned_left 1 c) (turned_left 3 c)) (bit_xor (turned_left 6 c) 5)

-- v is a byte, its product with b is 1, and it takes b away from b times each power of x
inverse_test : ℕ → ℕ → Bool
inverse_test b v =
    nat_lt v 256 && ((field_mul b v == 1) && all_below 8
    (λ i. field_mul v (field_mul b (2 ^ i)) == 2 ^ i))

-- what `inverse_test` tests of b and v
record Inverse (b v : ℕ) : Type 0 where
  byte : v < 256
  product : field_mul b v ≡ 1
  undoes : all_below 8 (λ i. field_mul v (field_mul b (2 ^ i)) == 2 ^ i) ≡ true

-- each byte but 0 has the inverse that the table gives, by all cases
inverse_found : (b : ℕ) → b < 256 → b ≢ 0 → Inverse b (untransformed b)
unfolding all_below inverse_test untransformed turned_left sbox_table field_mul
inverse_found zero h n = absurd (n refl)
inverse_found (suc b) h n =
    let p = and_parts _ _
    (all_below_tells 255 (λ b. inverse_test (suc b) (untransformed (suc b))) refl b
    (omega arith)) in
    let q = and_parts _ _ p.1 in
    record { byte = ltb-true _ _ p.0; product = eqb-true _ _ q.0; undoes = q.1 }

-- a byte that is not 0 times its inverse is 1
pub inverse_right : (b : ℕ) → b < 256 → b ≢ 0
    → (field_inverse b < 256) × (field_mul b (field_inverse b) ≡ 1)
unfolding field_inverse
inverse_right b h n =
    let i = inverse_found b h n in
    let found = byte_passes (λ c. field_mul b c == 1) (untransformed b) i.byte
    (eq-eqb _ _ i.product) in
    (found.1, eqb-true _ _ found.0)

-- no other byte is an inverse: both sides are linear in c, so the powers of x suffice
power_only : (b c : ℕ) → b < 256 → b ≢ 0 → c < 256 → field_mul b c ≡ 1 → c ≡ untransformed b
power_only b c h n k e =
    let v : ℕ = untransformed b in
    sym (agree_by_powers (λ x. field_mul v (field_mul b x)) (λ x. x)
    (λ x y. ap (field_mul v) (field_mul_add b x y)
    ∙ field_mul_add v (field_mul b x) (field_mul b y)) (λ x y. refl)
    (inverse_found b h n).undoes c k) ∙ ap (field_mul v) e ∙ field_mul_one v

-- the search of the definition finds the inverse that the table gives
inverse_listed_of : (b : ℕ) → b < 256 → b ≢ 0 → field_inverse b ≡ untransformed b
inverse_listed_of b h n = let r = inverse_right b h n in power_only b (field_inverse b) h n r.0 r.1

-- the table gives the inverse of a byte, and 0 for 0, without a search
pub inverse_listed : (b : ℕ) → b < 256 → field_inverse b ≡ untransformed b
unfolding field_inverse field_mul least_byte first_from untransformed turned_left sbox_table
inverse_listed zero h = refl
inverse_listed (suc b) h = inverse_listed_of (suc b) h (λ e. absurd (grind (arith, e)))

-- a byte whose product with b is 1 is the inverse of b
pub inverse_only : (b c : ℕ) → b < 256 → b ≢ 0 → c < 256 → field_mul b c ≡ 1 → c ≡ field_inverse b
inverse_only b c h n k e = power_only b c h n k e ∙ sym (inverse_listed_of b h n)

pub ruleset field_inverses = (inverse_right, inverse_only)
