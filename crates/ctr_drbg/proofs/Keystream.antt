-- Output blocks, as bytes of counter mode's keystream from its block 1 on.
use Rattle.std.proofs.Common.{◌≡◌, ℕ, zero, suc, ◌+◌, ◌-◌, ◌*◌, ◌/◌, ◌%◌, ◌^◌, ◌<◌, List, length}
use Rattle.std.proofs.Common.{get_or, inl, inr, replicate, bit_xor, sym, ap, ◌∙◌, refl, arith}
use Rattle.std.proofs.Common.{length-append}
use Rattle.std.proofs.lemmas.Bool.{cases_lt}
use Rattle.std.proofs.lemmas.List.{get_or-append_right, get_or_append_left, get_or-replicate}
use Rattle.std.proofs.lemmas.List.{get_or-take, length-take-le}
use Rattle.std.proofs.lemmas.Nat.{xor_comm}
use Rattle.std.specs.Int.{w128, to_be_bytes, from_be_bytes}
use Rattle.std.specs.Int.Bits.{xor_zero_r}
use Rattle.aes_planes.specs.Fips197.{cipher, key_expansion}
use Rattle.aes_planes.proofs.Standard.CipherInverses.{length-cipher}
use Rattle.aes_cipher.proofs.BlockNumbers.{number_back}
use Rattle.aes_ctr.specs.CounterMode.{counter, counter_block, keystream_byte, plus_stream}
use Rattle.aes_ctr.proofs.Sums.{plus_is}
use Rattle.ctr_drbg.specs.CtrDrbg.{exclusive_or, v_plus_one, v_after, temp_after, blocks_for, output}
use Rattle.ctr_drbg.proofs.Strings.{length-sum, get_or-sum, sum_is}

-- one more than a counter block is the next one
next_block : (v : List ℕ) (i : ℕ) → v_plus_one (counter_block v i) ≡ counter_block v (suc i)
unfolding v_plus_one counter counter_block
next_block v i =
    let number = (from_be_bytes w128 v + i) % 2 ^ 128 in
    ap (λ n. to_be_bytes w128 ((n + 1) % 2 ^ 128))
    (number_back number (to_be_bytes w128 number) (omega arith) refl)
    ∙ ap (to_be_bytes w128) (omega arith)

-- V after one turn or more is a counter block
v_after_more : (v : List ℕ) (i : ℕ) → v_after v (suc i) ≡ counter_block v (suc i)
unfolding v_after v_plus_one counter counter_block
v_after_more v zero = refl
v_after_more v (suc i) = ap v_plus_one (v_after_more v i) ∙ next_block v (suc i)

-- V after any number of turns is a counter block, if V is a block
pub v_after_any : (v block : List ℕ) (n number : ℕ)
    → block ≡ to_be_bytes w128 ((number + n) % 2 ^ 128)
    → number ≡ from_be_bytes w128 v → to_be_bytes w128 number ≡ v → number < 2 ^ 128
    → block ≡ v_after v n
unfolding v_after counter counter_block
v_after_any v block zero number is read back fits = is
    ∙ ap (to_be_bytes w128) (omega (arith, fits)) ∙ back
v_after_any v block (suc n) number is read back fits =
    is ∙ ap (λ m. to_be_bytes w128 ((m + suc n) % 2 ^ 128)) read ∙ sym (v_after_more v n)

-- temp has sixteen bytes for each turn
length-temp : (key v : List ℕ) (n : ℕ) → length (temp_after key v n) ≡ 16 * n
unfolding temp_after
length-temp key v zero = refl
length-temp key v (suc n) =
    length-append (temp_after key v n) (cipher key (v_after v (suc n)))
    ∙ ap (λ m. m + length (cipher key (v_after v (suc n)))) (length-temp key v n)
    ∙ ap (λ m. 16 * n + m) (length-cipher (key_expansion key) (v_after v (suc n)))
    ∙ omega arith

-- byte i of temp is that of the keystream from the second block on
byte_of_temp : (key v : List ℕ) (n i : ℕ) → i < 16 * n
    → get_or (temp_after key v n) i 0 ≡ keystream_byte (key_expansion key) v (16 + i)
unfolding temp_after keystream_byte
byte_of_temp key v zero i h = absurd (omega arith)
byte_of_temp key v (suc n) i h =
    let temp = temp_after key v n in
    let block = cipher key (v_after v (suc n)) in
    elim (cases_lt i (16 * n)) [
      | inl below ↦ get_or_append_left temp block 0 i (omega (arith, below, length-temp key v n))
          ∙ byte_of_temp key v n i below
      | inr past ↦
          let turn : suc n ≡ (16 + i) / 16 = omega (arith, past, h) in
          let place : i - 16 * n ≡ (16 + i) % 16 = omega (arith, past, h) in
          get_or-append_right temp block (16 * n) i 0 (length-temp key v n) past
          ∙ ap (λ b. get_or (cipher key b) (i - 16 * n) 0) (v_after_more v n)
          ∙ ap (λ m. get_or (cipher key (counter_block v m)) (i - 16 * n) 0) turn
          ∙ ap (λ m. get_or (cipher key (counter_block v ((16 + i) / 16))) m 0) place
    ]

-- the output has as many bytes as were asked for
length-output : (key v : List ℕ) (n : ℕ) → length (output key v n) ≡ n
unfolding output blocks_for
length-output key v n = length-take-le n (temp_after key v ((n + 15) / 16))
    (omega (arith, length-temp key v ((n + 15) / 16)))

-- byte i of the output is that of the keystream from the second block on
byte_of_output : (key v : List ℕ) (n i : ℕ) → i < n
    → get_or (output key v n) i 0 ≡ keystream_byte (key_expansion key) v (16 + i)
unfolding output blocks_for
byte_of_output key v n i h =
    get_or-take n (temp_after key v ((n + 15) / 16)) i 0 h
    ∙ byte_of_temp key v ((n + 15) / 16) i (omega (arith, h))

-- a string plus the keystream is the output plus the string
stream_is_output : (key v x : List ℕ) (n : ℕ) → length x ≡ n
    → plus_stream (keystream_byte (key_expansion key) v) 16 x ≡ exclusive_or (output key v n) x
stream_is_output key v x n sized =
    plus_is (keystream_byte (key_expansion key) v) 16 x (exclusive_or (output key v n) x)
    (length-sum (output key v n) x ∙ length-output key v n ∙ sym sized)
    (λ i h. let inside : i < n = omega (arith, h, sized) in
    xor_comm (get_or x i 0) (keystream_byte (key_expansion key) v (16 + i))
    ∙ ap (λ b. bit_xor b (get_or x i 0)) (sym (byte_of_output key v n i inside))
    ∙ sym (get_or-sum (output key v n) x i (omega (arith, inside, length-output key v n))))

-- a string y that is x plus the keystream under the key's round keys w is the output plus x
pub output_plus : (w : List (List ℕ)) (key v x y : List ℕ)
    → y ≡ plus_stream (keystream_byte w v) 16 x
    → w ≡ key_expansion key → y ≡ exclusive_or (output key v (length x)) x
output_plus w key v x y is expanded =
    is ∙ ap (λ k. plus_stream (keystream_byte k v) 16 x) expanded
    ∙ stream_is_output key v x (length x) refl

-- nothing is added to zeros but the output
pub output_plus_zeros : (key v : List ℕ) (n : ℕ)
    → exclusive_or (output key v n) (replicate n 0) ≡ output key v n
output_plus_zeros key v n =
    sum_is (output key v n) (replicate n 0) (output key v n) refl
    (λ i h. ap (bit_xor (get_or (output key v n) i 0))
    (get_or-replicate n i 0 0 (omega (arith, h, length-output key v n)))
    ∙ xor_zero_r (get_or (output key v n) i 0))
