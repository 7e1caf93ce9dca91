-- Multiples of a block H by a nibble or a byte, and how room has them: byte by byte, so that
-- products are looked up.
use Rattle.std.specs.Prelude.{◌≡◌, ℕ, zero, suc, ◌+◌, ◌-◌, ◌*◌, ◌/◌, ◌%◌, ◌^◌, ◌==◌, if◌then◌else◌}
use Rattle.std.specs.Prelude.{List, [], ◌++◌, drop, slice_index, slice_index_or, take}
use Rattle.std.specs.Int.{w128, from_be_bytes}
use Rattle.std.specs.Int.Bits.{bit_xor}
use Rattle.aes_planes.specs.Fips197 as fips
use Rattle.gcm.specs.Gcm.{v_at, product}

-- f 0 + .. + f (n - 1), modulo 2 in each place
unfoldable pub sum_of : ℕ → (ℕ → ℕ) → ℕ
sum_of zero f = 0
sum_of (suc n) f = bit_xor (sum_of n f) (f n)

-- byte r of a block, from the first one on
unfoldable pub byte_of : ℕ → ℕ → ℕ
byte_of x r = x / 2 ^ (8 * (15 - r)) % 256

-- four bits, from the first one on, times v, v x, v x^2 and v x^3
unfoldable pub nibble_multiple : ℕ → ℕ → ℕ
unfolding sum_of
nibble_multiple v n = sum_of 4 (λ i. if n / 2 ^ (3 - i) % 2 == 0 then 0 else v_at v i)

-- eight bits times h, .., h x^7
unfoldable pub byte_multiple : ℕ → ℕ → ℕ
unfolding nibble_multiple
byte_multiple h b = bit_xor (nibble_multiple h (b / 16)) (nibble_multiple (v_at h 4) (b % 16))

-- byte r of v for each nibble that has a bit, counted from the first one, and else 0
unfoldable pub bit_row : ℕ → ℕ → ℕ → List ℕ
unfolding byte_of
bit_row v bit r = fips.build 16 (λ n. if n / 2 ^ (3 - bit) % 2 == 0 then 0 else byte_of v r)

-- byte r of the multiple of each of the sixteen nibbles
unfoldable pub multiples_row : ℕ → ℕ → List ℕ
unfolding nibble_multiple byte_of
multiples_row v r = fips.build 16 (λ n. byte_of (nibble_multiple v n) r)

-- rows r and 8 + r stand side by side, so that one vector has both: where row r stands, and which
-- row stands at place i
abbrev pub place_of : ℕ → ℕ
place_of r = 2 * (r % 8) + r / 8

-- the row at place i of a table
abbrev pub row_at : ℕ → ℕ
row_at i = i / 2 + 8 * (i % 2)

-- the rows of all sixteen bytes of v's multiples, each at its place
unfoldable pub multiples_rows : ℕ → List (List ℕ)
unfolding multiples_row
multiples_rows v = fips.build 16 (λ i. multiples_row v (row_at i))

-- a table of v's multiples: by the first four bits of a byte, and then by its last four
unfoldable pub table_of : ℕ → List (List ℕ)
unfolding multiples_rows
table_of v = multiples_rows v ++ multiples_rows (v_at v 4)

-- the tables of H, H^2 and H^3
unfoldable pub multiples_of : ℕ → List (List ℕ)
unfolding table_of
multiples_of h = table_of h ++ (table_of (product h h) ++ table_of (product (product h h) h))

-- the block that rows are multiples of, read off them: its multiple by the nibble 1000
unfoldable pub subkey_in : List (List ℕ) → ℕ
subkey_in rows = from_be_bytes w128
    (fips.build 16 (λ r. slice_index (slice_index_or rows (place_of r) []) 8))

-- a table of the multiples of a block
abbrev pub IsTable : List (List ℕ) → Type 0
IsTable rows = rows ≡ table_of (subkey_in rows)

-- room that has the multiples of a block H
abbrev pub HasMultiples : List (List ℕ) → Type 0
HasMultiples room = room ≡ multiples_of (subkey_in room)

-- row r of a product of x and h: byte r of the multiple of each byte
unfoldable pub row_number : ℕ → ℕ → ℕ → ℕ
row_number h x r = sum_of 16 (λ j. byte_of (byte_multiple h (byte_of x j)) r * 2 ^ (8 * (15 - j)))

-- the sum of the last k rows, each shifted by its place
unfoldable pub rows_after : (ℕ → ℕ) → ℕ → ℕ
unfolding v_at
rows_after row zero = 0
rows_after row (suc k) = bit_xor (v_at (rows_after row k) 8) (row (15 - k))

-- a vector of 32 bytes has rows r and 8 + r of a product, one in each half
pub record HasRows (row : ℕ → ℕ) (r : ℕ) (v : List ℕ) : Type 0 where
  pub lower_block : fips.IsBlock (take 16 v)
  pub upper_block : fips.IsBlock (drop 16 v)
  pub lower : from_be_bytes w128 (take 16 v) ≡ row r
  pub upper : from_be_bytes w128 (drop 16 v) ≡ row (8 + r)

-- what bits that fell out stand for
unfoldable pub folded : ℕ → ℕ
folded l = bit_xor (bit_xor (bit_xor l (l / 2)) (l / 4)) (l / 128)

-- 128 bits and those that fell out after them, as one block
unfoldable pub reduced : ℕ → ℕ → ℕ
unfolding folded
reduced k l = bit_xor k (folded l)

-- ---- room for H alone

-- the block H that stands in the room
abbrev pub subkey_alone : List (List ℕ) → ℕ
subkey_alone room = from_be_bytes w128 (slice_index_or room 0 [])

-- room for H alone is always in order: whatever it has is a block
abbrev pub IsAlone : List (List ℕ) → Type 0
IsAlone room = Unit {0}

-- the block H that stands there as four words, the lowest first
abbrev pub subkey_of_words : List ℕ → ℕ
subkey_of_words room = slice_index room 0 + slice_index room 1 * 2 ^ 32 + slice_index room 2 * 2 ^ 64
    + slice_index room 3 * 2 ^ 96

-- four words are always in order too
abbrev pub AreSubkeyWords : List ℕ → Type 0
AreSubkeyWords room = Unit {0}
