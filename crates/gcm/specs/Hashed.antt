-- GHASH of blocks that write their numbers in whatever order of bytes.
use Rattle.std.specs.Prelude.{ℕ, zero, suc, ◌+◌, ◌*◌, List}
use Rattle.std.specs.List.{slice_range}
use Rattle.std.specs.Int.Bits.{bit_xor}
use Rattle.gcm.specs.Gcm.{product}

-- the number that block i of a string writes, counted from 0
unfoldable pub number_at : (List ℕ → ℕ) → List ℕ → ℕ → ℕ
number_at number x i = number (slice_range x (16 * i) (16 * i + 16))

-- Y_i, from a Y_0 on: Y_(i-1) plus that number, times h
unfoldable pub hashed_as : (List ℕ → ℕ) → ℕ → ℕ → List ℕ → ℕ → ℕ
unfolding product number_at
hashed_as number h y x zero = y
hashed_as number h y x (suc i) =
    product (bit_xor (hashed_as number h y x i) (number_at number x i)) h
