-- Bytes as blocks, strings that zeros fill up to whole blocks, and blocks that a call may change.
use Rattle.std.specs.Prelude.{◌≡◌, ◌⊎◌, ℕ, ◌-◌, ◌/◌, ◌%◌, ◌<◌, List, [], ◌++◌, length, replicate}
use Rattle.std.specs.Prelude.{slice_index_or}
use Rattle.std.specs.Simd.{first_chunks}

-- the blocks that bytes hold, one after another: sixteen bytes each, and those after the last whole
-- block left out
abbrev pub blocks_of : List ℕ → List (List ℕ)
blocks_of bytes = first_chunks 16 (length bytes / 16) bytes

-- a string, followed by as few zeros as fill its last block
unfoldable pub padded : List ℕ → List ℕ
padded s = s ++ replicate ((16 - length s % 16) % 16) 0

-- each of a list of blocks has sixteen bytes
abbrev pub Sixteens : List (List ℕ) → Type 0
Sixteens blocks = (i : ℕ) → i < length blocks → length (slice_index_or blocks i []) ≡ 16

-- each place of a list has f of the block that was there, or that block
abbrev pub EachOrUnchanged : (List ℕ → List ℕ) → List (List ℕ) → List (List ℕ) → Type 0
EachOrUnchanged f before after = (i : ℕ) → i < length before
    → (slice_index_or after i [] ≡ f (slice_index_or before i []))
    ⊎ (slice_index_or after i [] ≡ slice_index_or before i [])
