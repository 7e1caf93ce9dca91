-- The inverse of a byte in the tower basis, by two indices: what is linear in the inverse is the
-- sum of the entries there.
use Rattle.std.specs.Prelude.{ℕ, List, bit_xor}
use Rattle.aes_permute.specs.Lookup.{looked, low_nibble, high_nibble}
use Rattle.aes_permute.specs.declared.tables.TheConstants.{INVERSE, SCALED_INVERSE}

-- the inverse of a sum: of the inverse of f of a byte and the scaled inverse of its low half
abbrev pub inverse_over : (ℕ → ℕ) → ℕ → ℕ
inverse_over f b = looked INVERSE (bit_xor (looked INVERSE (f b)) (looked SCALED_INVERSE (low_nibble b)))

-- the sum of the halves of a byte
abbrev pub both_nibbles : ℕ → ℕ
both_nibbles b = bit_xor (high_nibble b) (low_nibble b)

-- the index of a byte in the first table
unfoldable pub first_of : ℕ → ℕ
first_of b = bit_xor (inverse_over high_nibble b) (both_nibbles b)

-- the index of a byte in the second table
unfoldable pub second_of : ℕ → ℕ
second_of b = bit_xor (inverse_over both_nibbles b) (high_nibble b)

-- the sum of the entries of two tables at two indices
abbrev pub at_indices : List ℕ → List ℕ → ℕ → ℕ → ℕ
at_indices t u a b = bit_xor (looked t a) (looked u b)
