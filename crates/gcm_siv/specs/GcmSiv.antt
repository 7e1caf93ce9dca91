-- AES-GCM-SIV (RFC 8452) over AES of FIPS 197, under a key-generating key. A byte is a number below
-- 2 ^ 8, a string or key a list of bytes, a block sixteen of them. Section numbers are those of RFC
-- 8452.
use Rattle.std.specs.Prelude.{◌≡◌, ◌⊎◌, ℕ, zero, suc, ◌+◌, ◌*◌, ◌/◌, ◌%◌, ◌^◌, ◌==◌, if◌then◌else◌}
use Rattle.std.specs.Prelude.{List, [], ◌∷◌, ◌++◌, length, replicate, slice_index, take, drop}
use Rattle.std.specs.List.{slice_range}
use Rattle.std.specs.Int.{w32, w64, w128, to_le_bytes, from_le_bytes}
use Rattle.std.specs.Int.Bits.{bit_xor}
use Rattle.aes_planes.specs.Fips197 as fips
use Rattle.aes_ctr.specs.CounterMode.{plus_stream}
use Rattle.aes_cipher.specs.Blocks.{padded}

-- ---- the field (3): an element is a number below 2 ^ 128, whose bit i is the coefficient of x^i

-- x^128 + x^127 + x^126 + x^121 + 1
abbrev pub polynomial : ℕ
polynomial = 2 ^ 128 + 2 ^ 127 + 2 ^ 126 + 2 ^ 121 + 1

-- x times an element: where that has x^128, the polynomial is added
unfoldable pub times_x : ℕ → ℕ
times_x b = if b / 2 ^ 127 == 0 then 2 * b else bit_xor (2 * b) polynomial

-- x^i times an element
unfoldable pub times_power : ℕ → ℕ → ℕ
unfolding times_x
times_power b zero = b
times_power b (suc i) = times_x (times_power b i)

-- the sum of those x^i times b whose coefficient in a is 1, for i below n
unfoldable pub times_below : ℕ → ℕ → ℕ → ℕ
unfolding times_power
times_below a b zero = 0
times_below a b (suc i) = if a / 2 ^ i % 2 == 0 then times_below a b i
    else bit_xor (times_below a b i) (times_power b i)

-- a * b
unfoldable pub times : ℕ → ℕ → ℕ
unfolding times_below
times a b = times_below a b 128

-- x^-128, which is x^127 + x^124 + x^121 + x^114 + 1
abbrev pub inverse_power : ℕ
inverse_power = 2 ^ 127 + 2 ^ 124 + 2 ^ 121 + 2 ^ 114 + 1

-- dot(a, b): a * b * x^-128
unfoldable pub dot : ℕ → ℕ → ℕ
unfolding times
dot a b = times (times a b) inverse_power

-- ---- POLYVAL (3)

-- X_j, here counted from 0: sixteen bytes; the first one has the coefficients of x^0 to x^7
unfoldable pub block_at : List ℕ → ℕ → ℕ
block_at x j = from_le_bytes w128 (slice_range x (16 * j) (16 * j + 16))

-- S_j, from an S_0 on: the value of POLYVAL after j blocks
unfoldable pub polyval_after : ℕ → ℕ → List ℕ → ℕ → ℕ
unfolding dot block_at
polyval_after h s x zero = s
polyval_after h s x (suc j) = dot (bit_xor (polyval_after h s x j) (block_at x j)) h

-- POLYVAL of H and whole blocks: S_s, where S_0 is 0
unfoldable pub polyval : ℕ → List ℕ → ℕ
unfolding polyval_after
polyval h x = polyval_after h 0 x (length x / 16)

-- ---- the keys of a message (4)

-- half of a derived key: the first half of the cipher of a number of 32 bits, its lowest byte
-- first, and the nonce
unfoldable pub derived : List (List ℕ) → List ℕ → ℕ → List ℕ
derived w nonce n = take 8 (fips.cipher_with w (to_le_bytes w32 n ++ nonce))

-- message_authentication_key
unfoldable pub authentication_key : List ℕ → List ℕ → List ℕ
unfolding derived
authentication_key key nonce = let w = fips.key_expansion key in
    derived w nonce 0 ++ derived w nonce 1

-- message_encryption_key
unfoldable pub encryption_key : List ℕ → List ℕ → List ℕ
unfolding derived
encryption_key key nonce = let w = fips.key_expansion key in
    derived w nonce 2 ++ derived w nonce 3 ++ (if length key == 32 then
    derived w nonce 4 ++ derived w nonce 5 else [])

-- a key-generating key has this many bytes
abbrev pub IsSivKeySize : ℕ → Type 0
IsSivKeySize n = (n ≡ 16) ⊎ (n ≡ 32)

-- a key of n bytes, whose round keys are w
abbrev pub IsKeyOf : ℕ → List (List ℕ) → List ℕ → Type 0
IsKeyOf n w key = (length key ≡ n) × (w ≡ fips.key_expansion key)

-- ---- counter mode (4): the first 32 bits of a block count, their lowest byte first

-- the counter after j blocks
unfoldable pub counter : List ℕ → ℕ → ℕ
counter block j = (from_le_bytes w32 (take 4 block) + j) % 2 ^ 32

-- the counter block after j blocks
unfoldable pub counter_block : List ℕ → ℕ → List ℕ
unfolding counter
counter_block block j = to_le_bytes w32 (counter block j) ++ drop 4 block

-- byte i of the ciphers of the counter blocks, one after another
unfoldable pub keystream_byte : List (List ℕ) → List ℕ → ℕ → ℕ
unfolding counter_block
keystream_byte w block i = slice_index (fips.cipher_with w (counter_block block (i / 16))) (i % 16)

-- AES_CTR
unfoldable pub counter_mode : List (List ℕ) → List ℕ → List ℕ → List ℕ
unfolding keystream_byte
counter_mode w block x = plus_stream (keystream_byte w block) 0 x

-- ---- a message under its keys (4)
-- (w are the round keys of the encryption key, and h is the element that the authentication key
-- writes)

-- the lengths of additional data and a text in bits, as 64 of them each
unfoldable pub length_block : List ℕ → List ℕ → List ℕ
length_block a p = to_le_bytes w64 (8 * length a) ++ to_le_bytes w64 (8 * length p)

-- S_s, of additional data and a plain text, each padded as in GCM: followed by as few zeros as
-- fill its last block
unfoldable pub hash : ℕ → List ℕ → List ℕ → ℕ
unfolding polyval padded length_block
hash h a p = polyval h (padded a ++ padded p ++ length_block a p)

-- S_s plus the nonce in its first twelve bytes, the highest bit of its last byte cleared
unfoldable pub tag_input : ℕ → List ℕ → List ℕ
tag_input s nonce = let block = fips.add_round_key (to_le_bytes w128 s) (nonce ++ replicate 4 0) in
    take 15 block ++ slice_index block 15 % 128 ∷ []

-- the tag
unfoldable pub tag_under : List (List ℕ) → ℕ → List ℕ → List ℕ → List ℕ → List ℕ
unfolding hash tag_input
tag_under w h nonce a p = fips.cipher_with w (tag_input (hash h a p) nonce)

-- the initial counter block: the tag, the highest bit of its last byte set
unfoldable pub first_counter : List ℕ → List ℕ
first_counter tag = take 15 tag ++ (128 + slice_index tag 15 % 128) ∷ []

-- the cipher text of a plain text, or the plain text of a cipher text
unfoldable pub text_under : List (List ℕ) → List ℕ → List ℕ → List ℕ
unfolding counter_mode first_counter
text_under w tag x = counter_mode w (first_counter tag) x

-- ---- authenticated encryption (4) and decryption (5), under a key-generating key

-- the tag of additional data and a plain text
unfoldable pub tag : List ℕ → List ℕ → List ℕ → List ℕ → List ℕ
unfolding authentication_key encryption_key tag_under
tag key nonce a p = tag_under (fips.key_expansion (encryption_key key nonce))
    (from_le_bytes w128 (authentication_key key nonce)) nonce a p

-- the cipher text of a plain text that has a tag, and the other way round
unfoldable pub text : List ℕ → List ℕ → List ℕ → List ℕ → List ℕ
unfolding encryption_key text_under
text key nonce tag x = text_under (fips.key_expansion (encryption_key key nonce)) tag x

-- the tag is that of additional data and of the plain text that a cipher text becomes: decryption
-- doesn't fail
abbrev pub IsAuthentic : List ℕ → List ℕ → List ℕ → List ℕ → List ℕ → Type 0
IsAuthentic key nonce a t c = t ≡ tag key nonce a (text key nonce t c)
