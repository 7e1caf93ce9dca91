-- Key wrap (KW, SP 800-38F) over a block cipher of 16 bytes, given by its round keys w: CIPH_K is
-- Cipher of FIPS 197 under them. A semiblock is a list of 8 bytes; section and step numbers are
-- those of SP 800-38F.
use Rattle.std.specs.Prelude.{◌≡◌, ℕ, zero, suc, ◌+◌, ◌-◌, ◌*◌, ◌^◌, ◌<◌, ◌≤◌, List, [], ◌∷◌, ◌++◌}
use Rattle.std.specs.Prelude.{drop, length, replicate, slice_index_or, take}
use Rattle.std.specs.Int.{w64, to_be_bytes, from_be_bytes}
use Rattle.std.specs.Int.Bits.{bit_xor}
use Rattle.aes_planes.specs.Fips197 as fips

-- a semiblock is eight bytes
abbrev pub IsSemiblock : List ℕ → Type 0
IsSemiblock half = (length half ≡ 8) × fips.IsBytes half

-- a semiblock plus [t]_64
unfoldable pub number_added : List ℕ → ℕ → List ℕ
number_added half t = to_be_bytes w64 (bit_xor (from_be_bytes w64 half) t)

-- W, step 2, for one t, on A, R_2, .. R_n (6.1, algorithm 1)
unfoldable pub wrap_step : List (List ℕ) → ℕ → List (List ℕ) → List (List ℕ)
wrap_step w t [] = []
wrap_step w t (a ∷ []) = a ∷ []
wrap_step w t (a ∷ r ∷ rs) =
    let b = fips.cipher_with w (a ++ r) in number_added (take 8 b) t ∷ (rs ++ drop 8 b ∷ [])

-- the semiblocks s after step t
unfoldable pub wrapped_after : List (List ℕ) → List (List ℕ) → ℕ → List (List ℕ)
wrapped_after w s zero = s
wrapped_after w s (suc t) = wrap_step w (suc t) (wrapped_after w s t)

-- the inverse of W, step 2, for one t (6.1, algorithm 2)
unfoldable pub unwrap_step : List (List ℕ) → ℕ → List (List ℕ) → List (List ℕ)
unwrap_step w t [] = []
unwrap_step w t (a ∷ rs) =
    let last = length rs - 1 in
    let b = fips.inv_cipher_with w (number_added a t ++ slice_index_or rs last []) in
    take 8 b ∷ drop 8 b ∷ take last rs

-- the semiblocks s after steps t, t - 1, .. 1
unfoldable pub unwrapped_from : List (List ℕ) → List (List ℕ) → ℕ → List (List ℕ)
unwrapped_from w s zero = s
unwrapped_from w s (suc t) = unwrapped_from w (unwrap_step w (suc t) s) t

-- ICV1 (6.2)
abbrev pub integrity_check : List ℕ
integrity_check = replicate 8 0xa6

-- KW-AE: W of ICV1 and the key (6.2, algorithm 3); W has 6 (n - 1) steps, for n semiblocks
unfoldable pub wrapped : List (List ℕ) → List (List ℕ) → List (List ℕ)
unfolding wrapped_after
wrapped w key = wrapped_after w (integrity_check ∷ key) (6 * length key)

-- KW-AD, before the comparison with ICV1 (6.2, algorithm 4)
unfoldable pub unwrapped : List (List ℕ) → List (List ℕ) → List (List ℕ)
unfolding unwrapped_from
unwrapped w sealed = unwrapped_from w sealed (6 * (length sealed - 1))

-- a key may have this many semiblocks (5.3.1), and becomes one more
pub record Fit (key sealed : ℕ) : Type 0 where
  pub least : 2 ≤ key
  pub most : key < 2 ^ 54
  pub sized : sealed ≡ key + 1
