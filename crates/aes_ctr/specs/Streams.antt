-- The keystream of counter blocks, however a block is counted.
use Rattle.std.specs.Prelude.{ℕ, ◌/◌, ◌%◌, List, slice_index}
use Rattle.aes_planes.specs.Fips197 as fips

-- byte i of the keystream: of Cipher, under the round keys w, of the counter block that it falls in
unfoldable pub stream_byte : List (List ℕ) → (ℕ → List ℕ) → ℕ → ℕ
stream_byte w block i = slice_index (fips.cipher_with w (block (i / 16))) (i % 16)
