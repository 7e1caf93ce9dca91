-- Blocks in vectors, and written to a slice.
use Rattle.std.specs.Prelude.{ℕ, zero, suc, ◌+◌, ◌==◌, cond, List, take, drop, set}

-- the blocks of a vector of 32 bytes: the first at place 0, and the second from place 1 on
unfoldable pub half : List ℕ → ℕ → List ℕ
half x i = cond (i == 0) (take 16 x) (drop 16 x)

-- a slice, with n blocks written to it from a place on
unfoldable pub written : (ℕ → List ℕ) → ℕ → ℕ → List (List ℕ) → List (List ℕ)
written b zero from xs = xs
written b (suc n) from xs = set (written b n from xs) (from + n) (b n)
