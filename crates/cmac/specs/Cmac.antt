-- CMAC (SP 800-38B) over a block cipher of 16 bytes, given by its round keys w: CIPH_K is Cipher of
-- FIPS 197 under them. A byte is a number below 2 ^ 8, a block a list of 16 bytes; section and step
-- numbers are those of SP 800-38B.
use Rattle.std.specs.Prelude.{ℕ, ◌-◌, ◌*◌, ◌/◌, ◌%◌, ◌^◌, ◌==◌, if◌then◌else◌, List, ◌∷◌, ◌++◌}
use Rattle.std.specs.Prelude.{length, replicate}
use Rattle.std.specs.List.{slice_range}
use Rattle.std.specs.Int.{w128, to_be_bytes, from_be_bytes}
use Rattle.std.specs.Int.Bits.{bit_xor}
use Rattle.aes_planes.specs.Fips197 as fips
use Rattle.cmac.specs.Chain.{chained}

-- ---- subkeys (6.1), on blocks read as numbers, the first bit the highest

-- MSB_1: the first bit of a block (5.1)
unfoldable pub first_bit : ℕ → ℕ
first_bit x = x / 2 ^ 127

-- X << 1: the block without its first bit, followed by a 0 (5.1)
unfoldable pub shifted : ℕ → ℕ
shifted x = x * 2 % 2 ^ 128

-- steps 2 and 3: X << 1 if the first bit is 0, else that plus R_128, which is 0^120 10000111 (5.3)
unfoldable pub doubled : ℕ → ℕ
unfolding first_bit shifted
doubled x = if first_bit x == 0 then shifted x else bit_xor (shifted x) 0x87

-- `doubled` of a block, as bytes
unfoldable pub doubled_block : List ℕ → List ℕ
unfolding doubled
doubled_block block = to_be_bytes w128 (doubled (from_be_bytes w128 block))

-- K1, of L, which is the cipher of the block of zeros (steps 1 and 2)
unfoldable pub subkey_1 : List (List ℕ) → List ℕ
unfolding doubled_block
subkey_1 w = doubled_block (fips.cipher_with w (replicate 16 0))

-- K2 (step 3)
unfoldable pub subkey_2 : List (List ℕ) → List ℕ
unfolding doubled_block subkey_1
subkey_2 w = doubled_block (subkey_1 w)

-- ---- the tag (6.2)

-- n - 1, of a message of this many bytes: how many blocks come before the last one, M_n*, which has
-- 1 to 16 bytes, or none if the message has none (steps 2 and 3); 0 - 1 is 0
unfoldable pub before_last : ℕ → ℕ
before_last bytes = (bytes - 1) / 16

-- M_n, of M_n*: plus K1 if that is complete; else followed by a bit 1 and zeros, plus K2 (step 4)
unfoldable pub last_block : List (List ℕ) → List ℕ → List ℕ
unfolding subkey_1 subkey_2
last_block w rest = if length rest == 16 then fips.add_round_key (subkey_1 w) rest
    else fips.add_round_key (subkey_2 w) (rest ++ 0x80 ∷ replicate (15 - length rest) 0)

-- the tag of 128 bits: C_n, where C_i for i below n is the cipher of C_(i-1) plus M_i, after zeros
-- (steps 5 to 7)
unfoldable pub cmac : List (List ℕ) → List ℕ → List ℕ
unfolding before_last last_block chained
cmac w message =
    let n = before_last (length message) in
    let rest = slice_range message (16 * n) (length message) in
    fips.cipher_with w (fips.add_round_key (chained w (replicate 16 0) message n) (last_block w rest))
