-- Claims on each number below another, by all cases.
use Rattle.std.proofs.Common.{◌≡◌, ℕ, zero, suc, ◌<◌, Bool, true, ◌&&◌, inl, inr, arith}
use Rattle.std.proofs.lemmas.Bool.{cases_lt, and_parts}

-- whether p holds of every number below n
unfoldable pub all_below : ℕ → (ℕ → Bool) → Bool
all_below zero p = true
all_below (suc n) p = p n && all_below n p

-- a claim on each number below n, and on n, is one on each number below n + 1
by_one_more : (P : ℕ → Type 0) (n : ℕ) → ((r : ℕ) → r < n → P r) → P n → (r : ℕ) → r < suc n → P r
by_one_more P n below here r h = elim (cases_lt r n) [
  | inl lt ↦ below r lt
  | inr le ↦ let e : r ≡ n = omega arith in rw e here
]

-- a test that holds of every number below n holds of each
pub all_below_tells : (n : ℕ) (p : ℕ → Bool) → all_below n p ≡ true → (i : ℕ) → i < n → p i ≡ true
unfolding all_below
all_below_tells zero p h i k = absurd (omega arith)
all_below_tells (suc n) p h i k =
    by_one_more (λ i. p i ≡ true) n (all_below_tells n p (and_parts _ _ h).1)
    (and_parts _ _ h).0 i k

-- whether p holds of every number below m and every one below n
abbrev pub all_pairs : ℕ → ℕ → (ℕ → ℕ → Bool) → Bool
all_pairs m n p = all_below m (λ i. all_below n (λ j. p i j))

-- a test that holds of every pair below m and n holds of each
pub all_pairs_tell : (m n : ℕ) (p : ℕ → ℕ → Bool) → all_pairs m n p ≡ true → (i j : ℕ) → i < m
    → j < n → p i j ≡ true
all_pairs_tell m n p h i j k l = all_below_tells n (p i) (all_below_tells m _ h i k) j l

-- ---- claims on each number below one, two, four and eight

-- what holds at 0 holds at each number below one
pub by_one : (P : ℕ → Type 0) → P 0 → (r : ℕ) → r < 1 → P r
by_one P a = by_one_more P 0 (λ r h. absurd (omega arith)) a

-- what holds at 0 and at 1 holds at each number below two
pub by_two : (P : ℕ → Type 0) → P 0 → P 1 → (r : ℕ) → r < 2 → P r
by_two P a b = by_one_more P 1 (by_one P a) b

-- what holds at 0 to 3 holds at each number below four
pub by_four : (P : ℕ → Type 0) → P 0 → P 1 → P 2 → P 3 → (r : ℕ) → r < 4 → P r
by_four P a b c d = by_one_more P 3 (by_one_more P 2 (by_two P a b) c) d

-- what holds at 0 to 7 holds at each number below eight
pub by_eight : (P : ℕ → Type 0) → P 0 → P 1 → P 2 → P 3 → P 4 → P 5 → P 6 → P 7 → (r : ℕ)
    → r < 8 → P r
by_eight P a b c d e f g h =
    by_one_more P 7 (by_one_more P 6
    (by_one_more P 5 (by_one_more P 4 (by_four P a b c d) e) f) g) h

-- what holds at the four pairs of 0 and 1 holds at each pair of numbers below two
pub by_pairs : (P : ℕ → ℕ → Type 0) → P 0 0 → P 0 1 → P 1 0 → P 1 1 → (p q : ℕ) → p < 2
    → q < 2 → P p q
by_pairs P a b c d p q h k = by_two (λ p. P p q) (by_two (P 0) a b q k) (by_two (P 1) c d q k) p h
