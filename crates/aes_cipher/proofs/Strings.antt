-- Strings as blocks: two strings one behind the other, zeros behind a string, and its first bytes.
use Rattle.std.proofs.Common.{◌≡◌, ◌↔◌, ℕ, ◌+◌, ◌-◌, ◌*◌, ◌/◌, ◌%◌, ◌<◌, ◌≤◌, List, ◌++◌, length}
use Rattle.std.proofs.Common.{take, drop, replicate, ap, sym, ◌∙◌, arith, length-append, length-drop}
use Rattle.std.proofs.lemmas.List.{take-append-le, drop-append-le, take_all, take-append-drop}
use Rattle.std.proofs.lemmas.Simd.{length-replicate}
use Rattle.std.proofs.Math.Seq.{drop-append-add, take-append_seam}
use Rattle.std.specs.List.{slice_range}
use Rattle.aes_cipher.specs.Blocks.{padded}

-- ---- two strings

-- a block of the first of two strings is that block of the two, joined
pub first_block : (a b : List ℕ) (i : ℕ) → 16 * i + 16 ≤ length a
    → slice_range (a ++ b) (16 * i) (16 * i + 16) ≡ slice_range a (16 * i) (16 * i + 16)
first_block a b i inside =
    let n : ℕ = 16 * i + 16 - 16 * i in
    ap (take n) (drop-append-le (16 * i) a b (omega (arith, inside)))
    ∙ take-append-le n (drop (16 * i) a) b (omega (arith, inside, length-drop (16 * i) a))

-- block i of the second of two strings is block k + i of the two, joined, where the first has k
pub second_block : (a b : List ℕ) (k i : ℕ) → length a ≡ 16 * k
    → slice_range (a ++ b) (16 * (k + i)) (16 * (k + i) + 16)
    ≡ slice_range b (16 * i) (16 * i + 16)
second_block a b k i long =
    let from : 16 * (k + i) ≡ length a + 16 * i = omega (arith, long) in
    let size : 16 * (k + i) + 16 - 16 * (k + i) ≡ 16 * i + 16 - 16 * i = omega arith in
    ap (λ n. take n (drop (16 * (k + i)) (a ++ b))) size
    ∙ ap (λ m. take (16 * i + 16 - 16 * i) (drop m (a ++ b))) from
    ∙ ap (take (16 * i + 16 - 16 * i)) (drop-append-add a b (16 * i))

-- ---- zeros behind a string

-- a padded string is whole blocks
pub length-padded : (s : List ℕ) → length (padded s) ≡ 16 * ((length s + 15) / 16)
unfolding padded
length-padded s =
    length-append s (replicate ((16 - length s % 16) % 16) 0)
    ∙ ap (λ n. length s + n) (length-replicate ((16 - length s % 16) % 16) 0) ∙ omega arith

-- how many blocks a padded string has
pub padded_blocks : (s : List ℕ) → length (padded s) / 16 ≡ (length s + 15) / 16
padded_blocks s = omega (arith, length-padded s)

-- the last block of a padded string: what is left of the string, and zeros behind it
pub last_padded : (i : ℕ) (s rest : List ℕ) → length s ≤ 16 * i + 16 → 16 * i < length s
    → rest ≡ drop (16 * i) s
    → rest ++ replicate (16 - length rest) 0 ≡ slice_range (padded s) (16 * i) (16 * i + 16)
unfolding padded
last_padded i s rest at some is =
    let zeros : List ℕ = replicate ((16 - length s % 16) % 16) 0 in
    let n : ℕ = 16 * i + 16 - 16 * i in
    let left : length rest ≡ length s - 16 * i = ap length is ∙ length-drop (16 * i) s in
    let count : 16 - length rest ≡ (16 - length s % 16) % 16 = omega (arith, at, some, left) in
    let whole : length (rest ++ zeros) ≤ n =
    omega (
      arith,
      at,
      some,
      left,
      length-append rest zeros,
      length-replicate {A = ℕ}
          ((16 - length s % 16) % 16) 0,
    ) in
    ap (λ m. rest ++ replicate m 0) count
    ∙ sym (ap (take n) (drop-append-le (16 * i) s zeros (omega (arith, at))
    ∙ ap (λ l. l ++ zeros) (sym is))
    ∙ take_all n (rest ++ zeros) whole)

-- ---- the first bytes of a string

-- bytes with what another string has behind them are that string exactly if they are its first
-- bytes
pub first_bytes_tell : (x y : List ℕ) → (x ++ drop (length x) y ≡ y) ↔ (x ≡ take (length x) y)
first_bytes_tell x y = (
  λ e. sym (take-append_seam x (drop (length x) y)) ∙ ap (take (length x)) e,
  λ e. ap (λ l. l ++ drop (length x) y) e ∙ take-append-drop (length x) y,
)
