-- Packing: the exchanges of bits between eight words that turn them over the diagonal, and blocks
-- row by row.
use Rattle.std.specs.Prelude.{ℕ, ◌+◌, ◌-◌, ◌*◌, ◌/◌, ◌%◌, Bool, cond, ◌&&◌, nat_le, nat_lt, List}
use Rattle.aes_planes.specs.Bits.{bit}
use Rattle.aes_planes.specs.Fips197 as fips

-- whether bit r of word w is exchanged: the four lower words of pairs come first, then the upper
-- ones
abbrev pub is_exchanged : ℕ → ℕ → ℕ → ℕ → Bool
is_exchanged s m w r = cond (nat_lt w 4) (nat_le s r && bit m (r - s)) (bit m r)

-- the word that bit r of word w comes from, where the words of a pair are neighbours
abbrev pub source_word : ℕ → ℕ → ℕ → ℕ → ℕ
source_word s m w r = cond (is_exchanged s m w r) (2 * (w % 4) + (1 - w / 4)) (2 * (w % 4) + w / 4)

-- the place in its lane of the bit that bit r of word w comes from
abbrev pub source_bit : ℕ → ℕ → ℕ → ℕ → ℕ
source_bit s m w r = cond (is_exchanged s m w r) (cond (nat_lt w 4) (r - s) (r + s)) r

-- byte q of a block that is read row by row
abbrev pub row_byte : List ℕ → ℕ → ℕ
row_byte block q = fips.byte_at block (q / 4) (q % 4)
