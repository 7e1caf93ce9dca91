-- What the operations on blocks compute: sums, and the bytes of a number below 2 ^ 128, the highest
-- first.
use Rattle.std.proofs.Common.{◌≡◌, ℕ, zero, suc, ◌+◌, ◌*◌, ◌/◌, ◌%◌, ◌^◌, ◌<◌, List, [], ◌∷◌, map}
use Rattle.std.proofs.Common.{get_or, refl, sym, ap, ◌∙◌, arith, bit_xor, length}
use Rattle.std.proofs.Math.Nat.{div-div-eq-div-mul, pow-suc}
use Rattle.std.proofs.lemmas.Simd.{get_or-zip2, length-zip2}
use Rattle.std.specs.Int.{w128, to_be_bytes, from_be_bytes}
use lib.Lanes.{zip2, digits_l, pick_l}
use Rattle.aes_planes.specs.Fips197.{IsBytes, IsBlock, add_round_key, build, build_from}
use Rattle.aes_planes.proofs.Lists.{build-get_or}
use Rattle.aes_planes.proofs.Standard.States.{state_is}

-- the sum of two blocks on a vector
pub blocks_summed : (a b : List ℕ) → length a ≡ 16 → length b ≡ 16
    → zip2 bit_xor a b ≡ add_round_key a b
unfolding add_round_key
blocks_summed a b la lb =
    sym (state_is _ (zip2 bit_xor a b) (length-zip2 bit_xor a b (la ∙ sym lb) ∙ la)
    (λ r k h l. sym (get_or-zip2 bit_xor a b (r + 4 * k) 0 0 0 (omega (arith, la))
    (omega (arith, lb)))))

-- the digits of a number, the last of them first, are its bytes
bytes_from_last : (m n : ℕ) → m ≡ n
    → pick_l 0 (digits_l 256 16 m)
    (15 ∷ 14 ∷ 13 ∷ 12 ∷ 11 ∷ 10 ∷ 9 ∷ 8 ∷ 7 ∷ 6 ∷ 5 ∷ 4 ∷ 3 ∷ 2 ∷ 1 ∷ 0 ∷ [])
    ≡ to_be_bytes w128 n
bytes_from_last m n is = simp (is, div-div-eq-div-mul)

-- the digits of the halves of a number, the last of them first, are the number's bytes
pub bytes_of_halves : (n : ℕ)
    → pick_l 0 (digits_l 256 16 (n % 2 ^ 64 + 2 ^ 64 * (n / 2 ^ 64 + 2 ^ 64 * 0)))
    (15 ∷ 14 ∷ 13 ∷ 12 ∷ 11 ∷ 10 ∷ 9 ∷ 8 ∷ 7 ∷ 6 ∷ 5 ∷ 4 ∷ 3 ∷ 2 ∷ 1 ∷ 0 ∷ []) ≡ to_be_bytes w128 n
bytes_of_halves n = bytes_from_last _ n (omega arith)

-- a number below 2 ^ 128 is the number of its own sixteen bytes
pub number_back : (n : ℕ) (x : List ℕ) → n < 2 ^ 128 → x ≡ to_be_bytes w128 n
    → from_be_bytes w128 x ≡ n
number_back n x small e = ap (from_be_bytes w128) e ∙ omega arith

-- remainders by 256 are bytes
remainder_bytes : (xs : List ℕ) → IsBytes (map (λ x. x % 256) xs)
remainder_bytes [] i = omega arith
remainder_bytes (x ∷ xs) zero = omega arith
remainder_bytes (x ∷ xs) (suc i) = remainder_bytes xs i

-- the bytes of a number are a block
pub number_block : (n : ℕ) → IsBlock (to_be_bytes w128 n)
number_block n = (
  refl,
  remainder_bytes (n / 256 ^ 15 ∷ n / 256 ^ 14 ∷ n / 256 ^ 13 ∷ n / 256 ^ 12 ∷ n / 256 ^ 11
      ∷ n / 256 ^ 10 ∷ n / 256 ^ 9
      ∷ n / 256 ^ 8
      ∷ n / 256 ^ 7 ∷ n / 256 ^ 6 ∷ n / 256 ^ 5 ∷ n / 256 ^ 4 ∷ n / 256 ^ 3 ∷ n / 256 ^ 2
      ∷ n / 256 ∷ n ∷ []),
)

-- the first bytes of a block as a number, up to byte i
number_up_to : List ℕ → ℕ → ℕ
number_up_to s zero = get_or s 0 0
number_up_to s (suc i) = number_up_to s i * 256 + get_or s (suc i) 0

-- the number of a block without its last k bytes is that of the bytes before
number_shifted : (s : List ℕ) (k i : ℕ) → IsBytes s → k + i ≡ 15
    → number_up_to s 15 / 256 ^ k ≡ number_up_to s i
unfolding number_up_to
number_shifted s zero i small at = ap (λ j. number_up_to s j / 1) (let e : 15 ≡ i = omega arith in e)
    ∙ omega arith
number_shifted s (suc k) i small at =
    ap (λ m. number_up_to s 15 / m) (pow-suc 256 k)
    ∙ sym (div-div-eq-div-mul (number_up_to s 15) (256 ^ k) 256)
    ∙ ap (λ v. v / 256) (number_shifted s k (suc i) small (omega arith)) ∙ omega (arith, small (suc i))

-- the last byte of the number of a block's first bytes is the byte there
last_byte_of_number : (s : List ℕ) (i : ℕ) → IsBytes s → number_up_to s i % 256 ≡ get_or s i 0
unfolding number_up_to
last_byte_of_number s zero small = omega (arith, small 0)
last_byte_of_number s (suc i) small = omega (arith, small (suc i))

-- the bytes of the number of a block are the block
pub block_back : (s : List ℕ) → IsBlock s → to_be_bytes w128 (from_be_bytes w128 s) ≡ s
unfolding build build_from number_up_to
block_back s (long, small) =
    let n = from_be_bytes w128 s in
    let whole : n ≡ number_up_to s 15 = omega arith in
    let d = λ (k i : ℕ) (at : k + i ≡ 15). ap (λ m. m / 256 ^ k % 256) whole
    ∙ ap (λ m. m % 256) (number_shifted s k i small at) ∙ last_byte_of_number s i small in
    (λ t. d 15 0 refl t ∷ d 14 1 refl t ∷ d 13 2 refl t ∷ d 12 3 refl t ∷ d 11 4 refl t
    ∷ d 10 5 refl t ∷ d 9 6 refl t
    ∷ d 8 7 refl t ∷ d 7 8 refl t ∷ d 6 9 refl t ∷ d 5 10 refl t ∷ d 4 11 refl t ∷ d 3 12 refl t
    ∷ d 2 13 refl t
    ∷ d 1 14 refl t ∷ (ap (λ m. m % 256) whole ∙ last_byte_of_number s 15 small) t ∷ [])
    ∙ build-get_or 16 s 0 long
