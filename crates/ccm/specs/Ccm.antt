-- CCM (SP 800-38C) over a block cipher of 16 bytes, given by its round keys w: CIPH_K is Cipher of
-- FIPS 197 under them. A byte is a number below 2 ^ 8, a string a list of bytes. The formatting is
-- that of appendix A, in whole bytes: n, a, p, q and t are its octets of the nonce, the associated
-- data, the payload, its length and the tag. Section and step numbers are those of SP 800-38C.
use Rattle.std.specs.Prelude.{◌≡◌, ℕ, ◌+◌, ◌-◌, ◌*◌, ◌/◌, ◌%◌, ◌^◌, ◌<◌, ◌≤◌, ◌==◌}
use Rattle.std.specs.Prelude.{if◌then◌else◌, ltb, List, [], ◌∷◌, ◌++◌, length, take}
use Rattle.aes_planes.specs.BigEndian.{bytes}
use Rattle.aes_planes.specs.Fips197 as fips
use Rattle.aes_ctr.specs.CounterMode.{plus_stream}
use Rattle.aes_ctr.specs.Streams.{stream_byte}
use Rattle.cmac.specs.Chain.{chained_through}

-- ---- lengths (A.1)

-- q, which is 15 - n: how many bytes the length of a payload has, and a counter
abbrev pub length_size : ℕ → ℕ
length_size n = 15 - n

-- a tag can have t bytes
abbrev pub IsTagLength : ℕ → Type 0
IsTagLength t = (4 ≤ t) × ((t ≤ 16) × (t % 2 ≡ 0))

-- a nonce can have n bytes
abbrev pub IsNonceLength : ℕ → Type 0
IsNonceLength n = (7 ≤ n) × (n ≤ 13)

-- a payload can have p bytes under a nonce of n bytes
abbrev pub Fits : ℕ → ℕ → Type 0
Fits n p = p < 2 ^ (8 * length_size n)

-- ---- the blocks that are authenticated

-- the flags of B_0: whether there are associated data, (t - 2) / 2 and q - 1 (A.2.1)
unfoldable pub flags : ℕ → ℕ → ℕ → ℕ
flags n t a = (if a == 0 then 0 else 64) + 8 * ((t - 2) / 2) + (length_size n - 1)

-- B_0: flags, the nonce, and p in q bytes (A.2.1)
unfoldable pub first_block : List ℕ → ℕ → ℕ → ℕ → List ℕ
unfolding flags
first_block nonce t a p =
    flags (length nonce) t a ∷ nonce ++ bytes (length_size (length nonce)) p

-- a, in two, six or ten bytes; none if it is 0 (A.2.2)
unfoldable pub encoded_length : ℕ → List ℕ
encoded_length a = if a == 0 then [] else
    if ltb a (2 ^ 16 - 2 ^ 8) then bytes 2 a else
    if ltb a (2 ^ 32) then 0xff ∷ 0xfe ∷ bytes 4 a else
    0xff ∷ 0xff ∷ bytes 8 a

-- Y_r: the cipher of B_0, and the chain from it on through a, the associated data and zeros, and
-- through the payload and zeros (A.2.2, A.2.3; 6.1, steps 2 and 3)
unfoldable pub chain_end : List (List ℕ) → List ℕ → ℕ → List ℕ → List ℕ → List ℕ
unfolding first_block encoded_length
chain_end w nonce t associated payload =
    let y = fips.cipher_with w (first_block nonce t (length associated) (length payload)) in
    let y_u = chained_through w y (encoded_length (length associated) ++ associated) in
    chained_through w y_u payload

-- ---- the blocks that hide

-- Ctr_j: q - 1, the nonce, and j in q bytes (A.3)
unfoldable pub counter_block : List ℕ → ℕ → List ℕ
counter_block nonce j = let q = length_size (length nonce) in (q - 1) ∷ nonce ++ bytes q j

-- P plus S_1, S_2, .., the ciphers of Ctr_1, Ctr_2, .. (6.1, steps 5 to 8); and P of that (6.2)
unfoldable pub text : List (List ℕ) → List ℕ → List ℕ → List ℕ
unfolding counter_block
text w nonce payload = plus_stream (stream_byte w (counter_block nonce)) 16 payload

-- the first t bytes of T plus S_0, the cipher of Ctr_0 (6.1, steps 4, 6 and 8)
unfoldable pub tag : List (List ℕ) → List ℕ → ℕ → List ℕ → List ℕ → List ℕ
unfolding chain_end counter_block
tag w nonce t associated payload =
    take t (fips.add_round_key (chain_end w nonce t associated payload)
    (fips.cipher_with w (counter_block nonce 0)))
