-- The texts of test cases 4 to 6 of GCM's submission to NIST, which have one key and one plain
-- text: the nonces differ.
use Rattle.std.proofs.Common.{◌≡◌, ℕ, List, [], ◌∷◌, ◌++◌, replicate, slice_index_or, sym, arith}
use Rattle.std.specs.Int.{w128, to_be_bytes, from_be_bytes}
use Rattle.aes_planes.specs.BigEndian.{bytes}
use Rattle.aes_planes.specs.Fips197.{cipher_with, key_expansion}
use Rattle.aes_planes.proofs.Bits.ByteCases.{by_four}
use Rattle.aes_ctr.specs.CounterMode.{plus_stream}
use Rattle.aes_ctr.specs.Private.{byte_of_blocks}
use Rattle.gcm.specs.Gcm.{inc32, counter_at, pre_counter, text}
use Rattle.gcm.proofs.Literals.OnLiterals.{gcm_on_literals, text_by}

-- the round keys of the cases' key
abbrev w : List (List ℕ)
w = key_expansion (bytes 16 0xfeffe9928665731c6d6a8f9467308308)

-- the cipher of the block of zeros
abbrev zeros : List ℕ
zeros = bytes 16 0xb83b533708bf535d0aa6e52980d53b78

-- P of the three cases
abbrev plain : List ℕ
plain =
    bytes 16 0xd9313225f88406e5a55909c5aff5269a ++ bytes 16 0x86a7a9531534f7da2e4c303d8a318a72
    ++ bytes 16 0x1c3c0c95956809532fcf0e2449a6b525 ++ bytes 12 0xb16aedf5aa0de657ba637b39

-- a text of the three cases by the ciphers of its four counter blocks, where J_0 is j
pub text_of : (iv : List ℕ) (j : ℕ) (a b c d : List ℕ) → cipher_with w (replicate 16 0) ≡ zeros
    → pre_counter (from_be_bytes w128 zeros) iv ≡ j
    → cipher_with w (to_be_bytes w128 (counter_at (inc32 j) 0)) ≡ a
    → cipher_with w (to_be_bytes w128 (counter_at (inc32 j) 1)) ≡ b
    → cipher_with w (to_be_bytes w128 (counter_at (inc32 j) 2)) ≡ c
    → cipher_with w (to_be_bytes w128 (counter_at (inc32 j) 3)) ≡ d
    → text w iv plain ≡ plus_stream (byte_of_blocks (a ∷ b ∷ c ∷ d ∷ [])) 0 plain
unfolding gcm_on_literals
text_of iv j a b c d of_zeros first e0 e1 e2 e3 =
    let blocks : List (List ℕ) = a ∷ b ∷ c ∷ d ∷ [] in
    text_by w iv zeros j blocks plain of_zeros first
    (by_four (λ m. slice_index_or blocks m []
    ≡ cipher_with w (to_be_bytes w128 (counter_at (inc32 j) m)))
    (sym e0) (sym e1) (sym e2) (sym e3)) (omega arith)
