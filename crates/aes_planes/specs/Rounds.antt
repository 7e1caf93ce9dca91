-- Cipher and EqInvCipher (5.1, 5.3.5) have one step in each round, and another in the last.
use Rattle.std.specs.Prelude.{ℕ, zero, suc, ◌-◌, List}
use Rattle.aes_planes.specs.Fips197 as fips

-- the state after n rounds, each a step and then the round key of its number; round 0 is round key
-- 0 alone
unfoldable pub rounds_after : (List ℕ → List ℕ) → List (List ℕ) → List ℕ → ℕ → List ℕ
rounds_after step round_keys block zero = fips.add_round_key block (fips.round_key round_keys 0)
rounds_after step round_keys block (suc n) =
    fips.add_round_key (step (rounds_after step round_keys block n)) (fips.round_key round_keys (suc n))

-- the block after all rounds; the last round has a step of its own
unfoldable pub all_rounds : (List ℕ → List ℕ) → (List ℕ → List ℕ) → List (List ℕ) → List ℕ → List ℕ
unfolding rounds_after
all_rounds step last_step round_keys block =
    fips.add_round_key (last_step (rounds_after step round_keys block (fips.last_round round_keys - 1)))
    (fips.round_key round_keys (fips.last_round round_keys))
