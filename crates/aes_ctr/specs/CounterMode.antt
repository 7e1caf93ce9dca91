-- Counter mode (SP 800-38A, 6.5), its counter the whole block, counted on by one (B.1). A byte is a
-- number below 2 ^ 8, a block a list of 16 bytes; Cipher and the sum of two bytes are those of FIPS
-- 197.
use Rattle.std.specs.Prelude.{ℕ, ◌+◌, ◌/◌, ◌%◌, ◌^◌, List, [], ◌∷◌, length, slice_index}
use Rattle.std.specs.Int.{w128, to_be_bytes, from_be_bytes}
use Rattle.aes_planes.specs.Fips197 as fips

-- the counter after j blocks: iv, read as a number with its highest byte first, and j, modulo 2 ^
-- 128
unfoldable pub counter : List ℕ → ℕ → ℕ
counter iv j = (from_be_bytes w128 iv + j) % 2 ^ 128

-- counter block j: the counter in sixteen bytes, the highest first
unfoldable pub counter_block : List ℕ → ℕ → List ℕ
unfolding counter
counter_block iv j = to_be_bytes w128 (counter iv j)

-- byte i of the keystream: of Cipher, under the round keys w, of the counter block that it falls in
unfoldable pub keystream_byte : List (List ℕ) → List ℕ → ℕ → ℕ
keystream_byte w iv i = slice_index (fips.cipher_with w (counter_block iv (i / 16))) (i % 16)

-- bytes plus a stream: at place i byte i plus the stream's byte at place position + i
unfoldable pub plus_stream : (ℕ → ℕ) → ℕ → List ℕ → List ℕ
plus_stream stream position bytes = fips.build (length bytes)
    (λ i. fips.field_add (slice_index bytes i) (stream (position + i)))

-- pieces plus the stream, each from the place where the one before ended
unfoldable pub pieces_plus_stream : (ℕ → ℕ) → ℕ → List (List ℕ) → List (List ℕ)
pieces_plus_stream stream position [] = []
pieces_plus_stream stream position (piece ∷ pieces) =
    plus_stream stream position piece ∷ pieces_plus_stream stream (position + length piece) pieces

-- what contracts see of counter mode: the cipher, its round keys, the initial counter block, and
-- the place of the keystream's next byte
pub record CounterMode (Cipher : Type 0) : Type 0 where
  pub cipher : Cipher
  pub round_keys : List (List ℕ)
  pub iv : List ℕ
  pub position : ℕ
