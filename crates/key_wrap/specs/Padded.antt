-- Key wrap with padding (KWP, SP 800-38F, 6.3) over a block cipher of 16 bytes, given by its round
-- keys w. A key is a list of bytes; a string of whole semiblocks is the list of these.
use Rattle.std.specs.Prelude.{◌≡◌, ℕ, zero, suc, ◌+◌, ◌-◌, ◌*◌, ◌/◌, ◌^◌, ◌==◌, ◌<◌, ◌≤◌}
use Rattle.std.specs.Prelude.{if◌then◌else◌, List, [], ◌∷◌, ◌++◌, drop, length, replicate}
use Rattle.std.specs.Prelude.{slice_index_or, take}
use Rattle.std.specs.List.{concat, slice_range}
use Rattle.std.specs.Int.{w32, to_be_bytes, from_be_bytes}
use Rattle.aes_planes.specs.Fips197 as fips
use Rattle.key_wrap.specs.KeyWrap.{unwrapped_from, wrapped_after}

-- ICV2
abbrev pub padded_check : List ℕ
padded_check = 0xa6 ∷ 0x59 ∷ 0x59 ∷ 0xa6 ∷ []

-- the first semiblock: ICV2, and how many bytes the key has, in 32 bits
unfoldable pub heading : ℕ → List ℕ
heading bytes = padded_check ++ to_be_bytes w32 bytes

-- how many semiblocks a number of bytes fills; the last one may be filled in part
unfoldable pub semiblock_count : ℕ → ℕ
semiblock_count bytes = (bytes + 7) / 8

-- the first n semiblocks of a string of bytes
unfoldable pub semiblocks : List ℕ → ℕ → List (List ℕ)
semiblocks bytes zero = []
semiblocks bytes (suc n) = semiblocks bytes n ++ slice_range bytes (8 * n) (8 * n + 8) ∷ []

-- P || PAD: the key, and as few zeros as fill its last semiblock
unfoldable pub padded : List ℕ → List ℕ
unfolding semiblock_count
padded key = key ++ replicate (8 * semiblock_count (length key) - length key) 0

-- S: the first semiblock, and those of the padded key (algorithm 5)
unfoldable pub headed : List ℕ → List (List ℕ)
unfolding heading semiblock_count semiblocks padded
headed key = heading (length key) ∷ semiblocks (padded key) (semiblock_count (length key))

-- a string through a cipher, if it is a block, which is too short for W; else through all steps of
-- W or of its inverse
unfoldable pub block_or_steps : (List ℕ → List ℕ) → (List (List ℕ) → ℕ → List (List ℕ))
    → List (List ℕ) → List (List ℕ)
block_or_steps f steps s = let b = f (concat s) in
    if length s == 2 then take 8 b ∷ drop 8 b ∷ [] else steps s (6 * (length s - 1))

-- C, of S (algorithm 5)
unfoldable pub wrapped_string : List (List ℕ) → List (List ℕ) → List (List ℕ)
unfolding block_or_steps wrapped_after
wrapped_string w s = block_or_steps (fips.cipher_with w) (wrapped_after w) s

-- S, of C (algorithm 6)
unfoldable pub unwrapped_string : List (List ℕ) → List (List ℕ) → List (List ℕ)
unfolding block_or_steps unwrapped_from
unwrapped_string w s = block_or_steps (fips.inv_cipher_with w) (unwrapped_from w) s

-- KWP-AE (algorithm 5)
unfoldable pub wrapped_padded : List (List ℕ) → List ℕ → List (List ℕ)
unfolding headed wrapped_string
wrapped_padded w key = wrapped_string w (headed key)

-- Plen, of S (algorithm 6)
unfoldable pub length_in : List (List ℕ) → ℕ
length_in s = from_be_bytes w32 (drop 4 (slice_index_or s 0 []))

-- P, of S (algorithm 6)
unfoldable pub key_in : List (List ℕ) → List ℕ
unfolding length_in
key_in s = take (length_in s) (concat (drop 1 s))

-- the comparisons of KWP-AD, of S: ICV2; padlen, which is the bytes of all semiblocks but the first
-- without Plen, is 0 to 7; and the last padlen bytes are zeros (algorithm 6)
pub record IsPadded (s : List (List ℕ)) : Type 0 where
  pub check : take 4 (slice_index_or s 0 []) ≡ padded_check
  pub least : length_in s ≤ 8 * (length s - 1)
  pub most : 8 * (length s - 1) < length_in s + 8
  pub zeros : let padding = 8 * (length s - 1) - length_in s in
      drop (8 - padding) (slice_index_or s (length s - 1) []) ≡ replicate padding 0

-- a key may have this many bytes (5.3.1), and becomes that many semiblocks
pub record FitPadded (key sealed : ℕ) : Type 0 where
  pub least : 1 ≤ key
  pub most : key < 2 ^ 32
  pub sized : sealed ≡ semiblock_count key + 1

-- some key becomes this many semiblocks, and fills that many of them with its padding
pub record FitUnpadded (output sealed : ℕ) : Type 0 where
  pub least : 1 ≤ output
  pub most : output ≤ 2 ^ 29
  pub sized : sealed ≡ output + 1
