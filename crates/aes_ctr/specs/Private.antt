-- What private functions do on the way: no public contract names it.
use Rattle.std.specs.Prelude.{ℕ, ◌+◌, ◌/◌, ◌%◌, List, [], ◌++◌, take, drop, slice_index, slice_index_or}
use Rattle.aes_ctr.specs.CounterMode.{plus_stream}

-- byte i of blocks one after another
unfoldable pub byte_of_blocks : List (List ℕ) → ℕ → ℕ
byte_of_blocks blocks i = slice_index (slice_index_or blocks (i / 16) []) (i % 16)

-- a list to whose bytes from place i on the stream has been added, and whose first i bytes are as
-- they were
abbrev pub added_from : (ℕ → ℕ) → ℕ → ℕ → List ℕ → List ℕ
added_from s p i xs = take i xs ++ plus_stream s (p + i) (drop i xs)
