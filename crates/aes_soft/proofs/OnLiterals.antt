-- Stored round keys on literals: what a lemma unfolds to compute them, and a claim at each number
-- below another.
use Rattle.std.proofs.Common.{◌≡◌, ◌⊎◌, inl, inr, ℕ, zero, suc, ◌<◌, ◌≤◌, subst, arith}
use Rattle.std.proofs.lemmas.Bool.{cases_lt}
use Rattle.std.specs.Prelude.{⊤}
use Rattle.aes_planes.specs.Bits.{bit}
use Rattle.aes_planes.specs.Fips197.{build, build_from, state, inv_shift_rows, shift_times}
use Rattle.aes_planes.specs.Fips197.{inv_shift_times}
use Rattle.aes_planes.proofs.OnLiterals.{aes_on_literals}
use Rattle.aes_planes.specs.Planes.{held, words_at}
use Rattle.aes_soft.specs.Stored.{stored_key, first_slot, key_of}

-- the definitions to unfold, so that a stored round key of literals is computed
unfoldable pub stored_on_literals : ⊤
unfolding aes_on_literals bit build build_from state inv_shift_rows shift_times inv_shift_times held words_at stored_key
    first_slot key_of
stored_on_literals = tt

-- a claim at each number below n
abbrev pub Below : ℕ → (ℕ → Type 0) → Type 0
Below zero P = Unit {0}
Below (suc n) P = Below n P × P n

-- what holds of n and of i below n holds of i below n + 1
last_or_below : (n i : ℕ) (P : ℕ → Type 0) → P n → (i < n → P i) → (i < n) ⊎ (n ≤ i) → i < suc n
    → P i
last_or_below n i P here below (inl lt) h = below lt
last_or_below n i P here below (inr le) h = let e : n ≡ i = omega arith in subst P e here

-- a claim that was shown at each number below n, one after the other, holds at any i below n
pub below_tells : (n : ℕ) (P : ℕ → Type 0) → Below n P → (i : ℕ) → i < n → P i
below_tells zero P all i h = absurd (omega arith)
below_tells (suc n) P all i h = last_or_below n i P all.1 (λ lt. below_tells n P all.0 i lt)
    (cases_lt i n) h
