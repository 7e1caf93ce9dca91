-- The chaining value of cipher block chaining, counted by blocks: codes that authenticate
-- messages are made from it.
use Rattle.std.specs.Prelude.{ℕ, zero, suc, List, [], replicate, slice_index_or}
use Rattle.aes_planes.specs.Fips197 as fips

-- the value after n blocks: each is summed with the value before it, zeros at first, and encrypted
-- under round keys w
unfoldable pub value_after : List (List ℕ) → List (List ℕ) → ℕ → List ℕ
value_after w blocks zero = replicate 16 0
value_after w blocks (suc n) =
    fips.cipher_with w (fips.add_round_key (slice_index_or blocks n []) (value_after w blocks n))
