-- All rounds, in either direction: Cipher's and EqInvCipher's.
use Rattle.std.proofs.Common.{◌≡◌, ℕ, zero, suc, ◌-◌, ◌≤◌, List, refl, ap, ◌∙◌, arith}
use Rattle.aes_planes.specs.Fips197 as fips
use Rattle.aes_planes.specs.Rounds.{rounds_after, all_rounds}

-- a step and AddRoundKey lead from the state after n - 1 rounds to that after n
pub rounds_more : (step : List ℕ → List ℕ) (w : List (List ℕ)) (b : List ℕ) (n : ℕ) → 1 ≤ n
    → fips.add_round_key (step (rounds_after step w b (n - 1))) (fips.round_key w n)
    ≡ rounds_after step w b n
unfolding rounds_after
rounds_more step w b zero h = absurd (omega arith)
rounds_more step w b (suc n) h =
    let e : suc n - 1 ≡ n = omega arith in
    ap (λ m. fips.add_round_key (step (rounds_after step w b m)) (fips.round_key w (suc n))) e

-- states that go from one to the next by a round are those of `rounds_after`
after_is : (step : List ℕ → List ℕ) (w : List (List ℕ)) (b : List ℕ) (state : ℕ → List ℕ)
    → fips.add_round_key b (fips.round_key w 0) ≡ state 0
    → ((n : ℕ) → fips.add_round_key (step (state n)) (fips.round_key w (suc n)) ≡ state (suc n))
    → (n : ℕ) → rounds_after step w b n ≡ state n
unfolding rounds_after
after_is step w b state first next zero = first
after_is step w b state first next (suc n) =
    ap (λ s. fips.add_round_key (step s) (fips.round_key w (suc n)))
    (after_is step w b state first next n) ∙ next n

-- Cipher is `all_rounds` of its steps
pub cipher_is : (w : List (List ℕ)) (b : List ℕ)
    → all_rounds (λ b. fips.mix_columns (fips.shift_rows (fips.sub_bytes b)))
    (λ b. fips.shift_rows (fips.sub_bytes b))
    w b ≡ fips.cipher_with w b
unfolding all_rounds fips.cipher_with
cipher_is w b = ap
    (λ s. fips.add_round_key (fips.shift_rows (fips.sub_bytes s))
    (fips.round_key w (fips.last_round w)))
    (after_is _ w b (fips.state_after w b) refl (λ n. refl) (fips.last_round w - 1))

-- EqInvCipher is `all_rounds` of its steps
pub eq_inv_cipher_is : (w : List (List ℕ)) (b : List ℕ)
    → all_rounds (λ b. fips.inv_mix_columns (fips.inv_shift_rows (fips.inv_sub_bytes b)))
    (λ b. fips.inv_shift_rows (fips.inv_sub_bytes b)) w b ≡ fips.eq_inv_cipher_with w b
unfolding all_rounds fips.eq_inv_cipher_with
eq_inv_cipher_is w b = ap (λ s. fips.add_round_key (fips.inv_shift_rows (fips.inv_sub_bytes s))
    (fips.round_key w (fips.last_round w)))
    (after_is _ w b (fips.eq_inv_state_after w b) refl (λ n. refl) (fips.last_round w - 1))
