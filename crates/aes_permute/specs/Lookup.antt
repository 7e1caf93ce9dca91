-- Look-ups in tables of sixteen bytes.
use Rattle.std.specs.Prelude.{◌≡◌, ℕ, ◌/◌, ◌%◌, Bool, true, ◌||◌, nat_le, nat_lt, cond, List, get_or, bit_xor}
use Rattle.std.specs.List.{list_all}

-- the entry of a table at an index, and 0 from index 128 on
abbrev pub looked : List ℕ → ℕ → ℕ
looked t k = cond (nat_le 128 k) 0 (get_or t k 0)

-- whether a byte is an index into a table: below 16, or from 128 on, where the entry is 0
unfoldable pub is_index : ℕ → Bool
is_index k = nat_le 128 k || nat_lt k 16

-- a list of indices
abbrev pub AreIndices : List ℕ → Type 0
AreIndices ks = list_all is_index ks ≡ true

-- a list of nibbles
abbrev pub Nibbles : List ℕ → Type 0
Nibbles ks = list_all (λ k. nat_lt k 16) ks ≡ true

-- the two nibbles of a byte
abbrev pub low_nibble : ℕ → ℕ
low_nibble b = b % 16

abbrev pub high_nibble : ℕ → ℕ
high_nibble b = b / 16 % 16

-- the sum of what two tables have for the two nibbles of a byte
abbrev pub by_nibbles : List ℕ → List ℕ → ℕ → ℕ
by_nibbles low high b = bit_xor (looked low (low_nibble b)) (looked high (high_nibble b))
