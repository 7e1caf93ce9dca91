-- Counter mode over the counter blocks of a nonce.
use Rattle.std.proofs.Common.{◌≡◌, ℕ, ◌+◌, ◌-◌, ◌*◌, ◌/◌, ◌%◌, ◌^◌, ◌<◌, ◌≤◌, List, ◌∷◌, length}
use Rattle.std.proofs.Common.{slice_index, ap, arith}
use Rattle.aes_planes.specs.Fips197.{cipher_with, IsBlock}
use Rattle.aes_ctr.proofs.Sums.{plus-ext, summed_twice}
use Rattle.aes_ctr.specs.CounterMode as whole
use Rattle.aes_ctr.specs.CounterMode.{keystream_byte, plus_stream}
use Rattle.aes_ctr.specs.Streams.{stream_byte}
use Rattle.ccm.specs.Ccm.{counter_block, text, Fits}
use Rattle.ccm.proofs.Bytes.{counted, eight_bits}

-- the counter that is a whole block never comes to the bytes before the last q
same_block : (nonce block : List ℕ) (j : ℕ) → IsBlock block → block ≡ counter_block nonce 0
    → 7 ≤ length nonce → length nonce ≤ 13 → j < 2 ^ (8 * (15 - length nonce))
    → whole.counter_block block j ≡ counter_block nonce j
unfolding whole.counter_block whole.counter counter_block
same_block nonce block j is_block is shortest longest small =
    let q : ℕ = 15 - length nonce in
    counted ((q - 1) ∷ nonce) block q j is_block is (omega (arith, shortest, longest))
    (omega (arith, small, eight_bits q))

-- a text is encrypted by a counter that is a whole block
pub text_by_blocks : (w : List (List ℕ)) (nonce block p : List ℕ) → IsBlock block
    → block ≡ counter_block nonce 0 → 7 ≤ length nonce → length nonce ≤ 13
    → Fits (length nonce) (length p)
    → plus_stream (keystream_byte w block) 16 p ≡ text w nonce p
unfolding text keystream_byte stream_byte
text_by_blocks w nonce block p is_block is shortest longest fits =
    plus-ext (keystream_byte w block) (stream_byte w (counter_block nonce)) 16 16 p
    (λ i inside. ap (λ b. slice_index (cipher_with w b) ((16 + i) % 16))
    (same_block nonce block ((16 + i) / 16) is_block is shortest longest
    (omega (arith, inside, fits))))

-- a text is the encryption of its encryption
pub text_twice : (w : List (List ℕ)) (nonce x : List ℕ) → text w nonce (text w nonce x) ≡ x
unfolding text
text_twice w nonce x = summed_twice (stream_byte w (counter_block nonce)) 16 x
