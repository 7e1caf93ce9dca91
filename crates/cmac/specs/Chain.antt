-- A chain of blocks, whose last value tells whether one of them was changed: what CMAC (SP 800-38B,
-- 6.2) and CCM (SP 800-38C, 6.1) are made of. A byte is a number below 2 ^ 8, a string a list of
-- bytes, a block a list of 16; Cipher and the sum of two blocks are those of FIPS 197.
use Rattle.std.specs.Prelude.{ℕ, zero, suc, ◌+◌, ◌*◌, ◌/◌, List, length}
use Rattle.std.specs.List.{slice_range}
use Rattle.aes_planes.specs.Fips197 as fips
use Rattle.aes_cipher.specs.Blocks.{padded}

-- block i of a string, counted from 0
unfoldable pub block_at : List ℕ → ℕ → List ℕ
block_at s i = slice_range s (16 * i) (16 * i + 16)

-- the value after i blocks of a string, from a value y on: the cipher of the value before plus the
-- block
unfoldable pub chained : List (List ℕ) → List ℕ → List ℕ → ℕ → List ℕ
unfolding block_at
chained w y s zero = y
chained w y s (suc i) =
    fips.cipher_with w (fips.add_round_key (chained w y s i) (block_at s i))

-- the value after all of a string, followed by zeros
unfoldable pub chained_through : List (List ℕ) → List ℕ → List ℕ → List ℕ
unfolding chained padded
chained_through w y s = chained w y (padded s) (length (padded s) / 16)
