-- Numbers in a number of bytes, the highest first.
use Rattle.std.proofs.Common.{◌≡◌, ℕ, zero, suc, ◌+◌, ◌*◌, ◌/◌, ◌%◌, ◌^◌, ◌<◌, List}
use Rattle.std.proofs.Common.{◌∷◌, ◌++◌, length, take, drop, replicate, refl, ap, sym, ◌∙◌, ◌↔◌, arith}
use Rattle.std.proofs.Math.Nat.{div-div-eq-div-mul, mul-add-div_right, mul_assoc, mul_comm}
use Rattle.std.proofs.Math.Nat.{div-eq_of_lt, div-lt_iff_lt-mul, div-one, pow-suc, zero-div}
use Rattle.std.proofs.Math.Seq.{drop-append_seam, take-append_seam}
use Rattle.std.proofs.lemmas.List.{take_all}
use Rattle.std.proofs.lemmas.Nat.{div-add-mod', div-mul-add, mod_below, pow-add, pow_pos}
use Rattle.std.specs.Int.{w64, w128, to_be_bytes, from_be_bytes}
use Rattle.aes_planes.specs.BigEndian.{bytes}
use Rattle.aes_planes.specs.Fips197.{IsBlock}
use Rattle.aes_cipher.proofs.BlockNumbers.{block_back}

-- powers of 256 are powers of 2
pub eight_bits : (q : ℕ) → 2 ^ (8 * q) ≡ 256 ^ q
eight_bits zero = refl
eight_bits (suc q) =
    let more : 8 * suc q ≡ 8 * q + 8 = omega arith in
    ap (λ n. 2 ^ n) more ∙ pow-add 2 (8 * q) 8 ∙ ap (λ n. n * 256) (eight_bits q)
    ∙ sym (pow-suc 256 q)

-- a power of 256 is not 0
power_positive : (q : ℕ) → 0 < 256 ^ q
power_positive q = omega (arith, pow_pos (8 * q), eight_bits q)

-- a number in q bytes has q bytes
length-bytes : (q x : ℕ) → length (bytes q x) ≡ q
unfolding bytes
length-bytes zero x = refl
length-bytes (suc q) x = ap suc (length-bytes q x)

-- 0 in q bytes is q zeros
pub bytes_zero : (q : ℕ) → bytes q 0 ≡ replicate q 0
unfolding bytes
bytes_zero zero = refl
bytes_zero (suc q) = (λ t. ap (λ n. n % 256) (zero-div (256 ^ q)) t ∷ bytes_zero q t)

-- of a number in k + q bytes, the last q are the number in q bytes
pub last_bytes : (k q x : ℕ) → drop k (bytes (k + q) x) ≡ bytes q x
unfolding bytes
last_bytes zero q x = let none : 0 + q ≡ q = omega arith in ap (λ n. bytes n x) none
last_bytes (suc k) q x =
    let more : suc k + q ≡ suc (k + q) = omega arith in
    ap (λ n. drop (suc k) (bytes n x)) more ∙ last_bytes k q x

-- a multiple of 256 ^ q changes none of the q last bytes
low_bytes : (q a j : ℕ) → bytes q (a * 256 ^ q + j) ≡ bytes q j
unfolding bytes
low_bytes zero a j = refl
low_bytes (suc q) a j =
    let p : ℕ = 256 ^ q in
    let whole : a * 256 ^ suc q + j ≡ a * 256 * p + j =
    ap (λ n. a * n + j) (pow-suc 256 q ∙ mul_comm p 256)
    ∙ ap (λ n. n + j) (sym (mul_assoc a 256 p)) in
    let quotient : (a * 256 * p + j) / p ≡ a * 256 + j / p =
    mul-add-div_right (power_positive q) (a * 256) j in
    let first : (a * 256 ^ suc q + j) / p % 256 ≡ j / p % 256 =
    ap (λ n. n / p % 256) whole ∙ ap (λ n. n % 256) quotient ∙ omega arith in
    (λ t. first t ∷ (ap (bytes q) whole ∙ low_bytes q (a * 256) j) t)

-- the bytes of a number are those of its upper part and then those of its lower part
joined_bytes : (m q a j : ℕ) → j < 256 ^ q
    → bytes (m + q) (a * 256 ^ q + j) ≡ bytes m a ++ bytes q j
unfolding bytes
joined_bytes zero q a j small =
    let none : 0 + q ≡ q = omega arith in
    ap (λ n. bytes n (a * 256 ^ q + j)) none ∙ low_bytes q a j
joined_bytes (suc m) q a j small =
    let x : ℕ = a * 256 ^ q + j in
    let more : suc m + q ≡ suc (m + q) = omega arith in
    let first : x / 256 ^ (m + q) % 256 ≡ a / 256 ^ m % 256 =
    ap (λ n. x / n % 256) (pow-add 256 m q ∙ mul_comm (256 ^ m) (256 ^ q))
    ∙ ap (λ n. n % 256) (sym (div-div-eq-div-mul x (256 ^ q) (256 ^ m))
    ∙ ap (λ n. n / 256 ^ m) (div-mul-add a (256 ^ q) j small)) in
    ap (λ n. bytes n x) more ∙ (λ t. first t ∷ joined_bytes m q a j small t)

-- a number whose bytes are zeros
only_zero : (q r : ℕ) → r < 256 ^ q → bytes q r ≡ bytes q 0 → r ≡ 0
unfolding bytes
only_zero zero r small is = omega (arith, small)
only_zero (suc q) r small is =
    let p : ℕ = 256 ^ q in
    let first : r / p % 256 ≡ 0 / p % 256 = cc is in
    let others : bytes q r ≡ bytes q 0 = cc is in
    let below : r / p < 256 =
    (div-lt_iff_lt-mul (power_positive q)).1
    (omega (arith, small, pow-suc 256 q, mul_comm p 256)) in
    let none : r / p < 1 = omega (arith, first, below, zero-div p) in
    only_zero q r (omega (arith, (div-lt_iff_lt-mul (power_positive q)).0 none)) others

-- a quotient by 2 ^ k is 0 exactly if the number is below 2 ^ k
pub quotient_zero : (x k : ℕ) → (x / 2 ^ k ≡ 0) ↔ (x < 2 ^ k)
quotient_zero x k = (
  λ e. omega (arith, (div-lt_iff_lt-mul {x = x} {y = 1} (pow_pos k)).0 (omega (arith, e))),
  λ small. div-eq_of_lt small,
)

-- ---- numbers that std writes, and blocks that are counted on

-- a number in 8 bytes, as std writes it
pub of_64 : (x : ℕ) → to_be_bytes w64 x ≡ bytes 8 x
unfolding bytes
of_64 x = simp div-one

-- the last q of those 8 bytes are the number in q bytes
pub last_of_64 : (k q x : ℕ) (written : List ℕ) → k + q ≡ 8 → written ≡ to_be_bytes w64 x
    → take q (drop k written) ≡ bytes q x
last_of_64 k q x written all is =
    ap (λ l. take q (drop k l)) (is ∙ of_64 x ∙ ap (λ n. bytes n x) (sym all))
    ∙ ap (take q) (last_bytes k q x)
    ∙ take_all q (bytes q x) (omega (arith, length-bytes q x))

-- a number in 16 bytes, as std writes it
of_128 : (x : ℕ) → to_be_bytes w128 x ≡ bytes 16 x
unfolding bytes
of_128 x = simp div-one

-- multiples of 2 ^ 128 change none of the 16 bytes
modulo_128 : (x : ℕ) → bytes 16 (x % 2 ^ 128) ≡ bytes 16 x
modulo_128 x =
    let whole : x / 256 ^ 16 * 256 ^ 16 + x % 2 ^ 128 ≡ x = omega arith in
    sym (low_bytes 16 (x / 256 ^ 16) (x % 2 ^ 128)) ∙ ap (bytes 16) whole

-- a block whose last q bytes are zeros, counted on by j: they are j in q bytes
pub counted : (x block : List ℕ) (q j : ℕ) → IsBlock block → block ≡ x ++ bytes q 0
    → length x + q ≡ 16 → j < 256 ^ q
    → to_be_bytes w128 ((from_be_bytes w128 block + j) % 2 ^ 128) ≡ x ++ bytes q j
counted x block q j whole is long small =
    let n : ℕ = from_be_bytes w128 block in
    let w : ℕ = 256 ^ q in
    let m : ℕ = length x in
    let a : ℕ = n / w in
    let r : ℕ = n % w in
    let split : n ≡ a * w + r = sym (div-add-mod' n w) in
    let less : r < w = mod_below n w (power_positive q) in
    let both : x ++ bytes q 0 ≡ bytes m a ++ bytes q r =
    sym is ∙ sym (block_back block whole) ∙ of_128 n ∙ ap (λ k. bytes k n) (sym long)
    ∙ ap (bytes (m + q)) split ∙ joined_bytes m q a r less in
    let sized : length (bytes m a) ≡ m = length-bytes m a in
    let high : x ≡ bytes m a =
    sym (take-append_seam x (bytes q 0)) ∙ ap (take m) both
    ∙ ap (λ k. take k (bytes m a ++ bytes q r)) (sym sized)
    ∙ take-append_seam (bytes m a) (bytes q r) in
    let low : bytes q 0 ≡ bytes q r =
    sym (drop-append_seam x (bytes q 0)) ∙ ap (drop m) both
    ∙ ap (λ k. drop k (bytes m a ++ bytes q r)) (sym sized)
    ∙ drop-append_seam (bytes m a) (bytes q r) in
    let none : r ≡ 0 = only_zero q r less (sym low) in
    let sum : n + j ≡ a * w + j = omega (arith, split, none) in
    of_128 ((n + j) % 2 ^ 128) ∙ modulo_128 (n + j) ∙ ap (λ k. bytes k (n + j)) (sym long)
    ∙ ap (bytes (m + q)) sum ∙ joined_bytes m q a j small
    ∙ ap (λ l. l ++ bytes q j) (sym high)
