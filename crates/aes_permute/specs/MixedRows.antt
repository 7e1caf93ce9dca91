-- The sums of a round, with the bytes where they are.
use Rattle.std.specs.Prelude.{ℕ, List, [], bit_xor, get_or, map}
use Rattle.std.specs.Simd.Lanes.{zip2}
use Rattle.aes_permute.specs.Lookup.{looked}
use Rattle.aes_permute.specs.declared.tables.TheConstants.{NEXT_ROW, ROW_BEFORE}

-- a block with its lanes from these places of it
abbrev pub permuted : List ℕ → List ℕ → List ℕ
permuted xs ks = map (looked xs) ks

-- the places of one of four tables
abbrev pub places_in : List (List ℕ) → ℕ → List ℕ
places_in tables k = get_or tables k []

-- the doubles `d` of the bytes `t`, each with the next byte of its column
abbrev pub pairs_at : ℕ → List ℕ → List ℕ → List ℕ
pairs_at k t d = zip2 bit_xor d (permuted t (places_in NEXT_ROW k))

-- MixColumns and a round key, where k ShiftRows are left out: twice each byte, three times the next
-- one of its column, and the two after it
abbrev pub mixed_at : ℕ → List ℕ → List ℕ → List ℕ → List ℕ
mixed_at k t d key =
    zip2 bit_xor (zip2 bit_xor (zip2 bit_xor (permuted t (places_in ROW_BEFORE k)) key) (pairs_at k t d))
    (permuted (pairs_at k t d) (places_in NEXT_ROW k))
