-- Words that are made of nibbles and bytes, at every width.
use Rattle.std.proofs.Common.{◌≡◌, ℕ, zero, suc, ◌+◌, ◌-◌, ◌*◌, ◌/◌, ◌%◌, ◌^◌, ◌<◌, ◌≤◌, Bool, ◌&&◌}
use Rattle.std.proofs.Common.{nat_lt, bit_and, bit_or, [], ◌∷◌, get_or, refl, ap, sym, ◌∙◌, arith}
use Rattle.std.proofs.lemmas.Bool.{and_parts, ltb-true}
use Rattle.std.proofs.lemmas.Nat.{div-add-mod'}
use Rattle.std.proofs.Math.Nat.{div-lt_iff_lt-mul, mod-lt}
use Rattle.aes_planes.specs.Bits.{at, bit}
use Rattle.aes_planes.specs.Words.{word_bits}
use Rattle.aes_planes.proofs.Bits.BitCases.{same, same_tells}
use Rattle.aes_planes.proofs.Bits.ByteCases.{all_below, all_below_tells, all_pairs_tell, by_four}
use Rattle.aes_planes.proofs.Bits.Digits.{field_bit, rows_joined, byte_repeated}
use Rattle.aes_planes.proofs.Bits.NumberBits.{bit_low, bit_shr, at-word_bits, number_calls}

-- ---- a row of n bits a column

-- each bit of a nibble n times, lowest first
abbrev pub nibble_row : ℕ → ℕ → ℕ
nibble_row b n =
    bit_or (bit_or (bit_or (bit_and b 1) (bit_and (b / 2) 1 * 2 ^ n % 2 ^ 32))
    (bit_and (b / 4) 1 * 2 ^ (2 * n) % 2 ^ 32))
    (b / 8 * 2 ^ (3 * n) % 2 ^ 32) * (1 * 2 ^ n % 2 ^ 32 - 1)

-- a test of all bits of a nibble's row, and that it fits in a row and in 32 bits
row_test : ℕ → ℕ → Bool
row_test n b =
    (nat_lt (nibble_row b n) (2 ^ (4 * n)) && nat_lt (nibble_row b n) (2 ^ 32))
    && all_below (4 * n) (λ q. same (bit (nibble_row b n) q) (bit b (q / n)))

-- a nibble's row is right, by all nibbles and the eight numbers of blocks
row_right : (b n : ℕ) → b ≤ 15 → 1 ≤ n → n ≤ 8
    → (nibble_row b n < 2 ^ (4 * n)) × (nibble_row b n < 2 ^ 32)
    × ((q : ℕ) → q < 4 * n → bit (nibble_row b n) q ≡ bit b (q / n))
unfolding all_below row_test same bit
row_right b zero h some few = absurd (omega arith)
row_right b (suc m) h some few =
    let t = and_parts _ _
    (all_pairs_tell 8 16 (λ m b. row_test (suc m) b) refl m b (omega arith) (omega arith)) in
    let small = and_parts _ _ t.0 in (
      ltb-true _ _ small.0,
      ltb-true _ _ small.1,
      λ q l. same_tells _ _
          (all_below_tells _ _ t.1 q l),
    )

-- a nibble's row has 4 * n bits at most
pub row_small : (b n : ℕ) → b ≤ 15 → 1 ≤ n → n ≤ 8 → nibble_row b n < 2 ^ (4 * n)
row_small b n h some few = (row_right b n h some few).0

-- a nibble's row fits 32 bits
pub row_fits : (b n : ℕ) → b ≤ 15 → 1 ≤ n → n ≤ 8 → nibble_row b n < 2 ^ 32
row_fits b n h some few = (row_right b n h some few).1

-- bit q of a nibble's row is bit q / n of the nibble
pub row_bit : (b n q : ℕ) → b ≤ 15 → 1 ≤ n → n ≤ 8 → q < 4 * n
    → bit (nibble_row b n) q ≡ bit b (q / n)
row_bit b n q h some few = (row_right b n h some few).2 q

pub ruleset row_calls = (row_small, row_fits, row_bit)

-- ---- rows and columns of places

-- the row and the column of a place, where a row has R bits and a column Q
pub row_below : (i R : ℕ) → i < 4 * R → i / R < 4
row_below i R h = (div-lt_iff_lt-mul {k = R} (omega (arith, h))).1 h

-- a place is in one of four columns
pub column_below : (i R Q : ℕ) → 1 ≤ Q → R ≡ 4 * Q → i % R / Q < 4
column_below i R Q some e =
    let m : i % R < R = mod-lt i (omega (arith, e, some)) in
    row_below (i % R) Q (omega (arith, m, e))

-- a list of four times the same nibble has it in every row
pub same_nibble : (b j : ℕ) → j < 4 → get_or (b ∷ b ∷ b ∷ b ∷ []) j 0 ≡ b
same_nibble b j h = by_four (λ j. get_or (b ∷ b ∷ b ∷ b ∷ []) j 0 ≡ b) refl refl refl refl j h

-- a number has each bit of a nibble n times, and no others
pub record IsRow (n x nibble : ℕ) : Type 0 where
  -- the number has no more bits than a row of n blocks
  pub small : x < 2 ^ (4 * n)
  -- bit q of the number is that of column q / n
  pub bits : (q : ℕ) → q < 4 * n → bit x q ≡ bit nibble (q / n)

-- four rows joined, in a word of n blocks: each has a nibble's bits, n times each
pub rows_packed : {n x0 x1 x2 x3 r0 r1 r2 r3 : ℕ} → IsRow n x0 r0 → IsRow n x1 r1 → IsRow n x2 r2
    → IsRow n x3 r3
    → (i : ℕ) → i < 16 * n
    → at (word_bits (16 * n) (bit_or (bit_or (bit_or x0 (x1 * 2 ^ (4 * n) % 2 ^ (16 * n)))
    (x2 * 2 ^ (2 * (4 * n)) % 2 ^ (16 * n))) (x3 * 2 ^ (3 * (4 * n)) % 2 ^ (16 * n)))) i
    ≡ bit (get_or (r0 ∷ r1 ∷ r2 ∷ r3 ∷ []) (i / (4 * n)) 0) (i % (4 * n) / n)
rows_packed {n = n} {x0 = x0} {x1 = x1} {x2 = x2} {x3 = x3} {r0 = r0} {r1 = r1} {r2 = r2}
    {r3 = r3} a b c d i h =
    let q = i % (4 * n) in
    let row : i / (4 * n) < 4 = row_below i (4 * n) (omega arith) in
    let column : q < 4 * n = mod-lt i (omega arith) in
    sym (at-word_bits (16 * n) _ i h)
    ∙ rows_joined (16 * n) (4 * n) x0 x1 x2 x3 (i / (4 * n)) q i
    (omega arith) a.small b.small c.small d.small row
    column (sym (div-add-mod' i (4 * n)))
    ∙ by_four (λ j. bit (get_or (x0 ∷ x1 ∷ x2 ∷ x3 ∷ []) j 0) q
    ≡ bit (get_or (r0 ∷ r1 ∷ r2 ∷ r3 ∷ []) j 0) (q / n))
    (a.bits q column) (b.bits q column) (c.bits q column) (d.bits q column) (i / (4 * n)) row

-- four nibbles joined to sixteen bits: bit i is that of column i % 4 in nibble i / 4
pub rows_packed_16 : (r0 r1 r2 r3 i : ℕ) → r0 ≤ 15 → r1 ≤ 15 → r2 ≤ 15 → r3 ≤ 15 → i < 16
    → at (word_bits 16 (bit_or (bit_or (bit_or r0 (r1 * 2 ^ 4 % 2 ^ 16)) (r2 * 2 ^ 8 % 2 ^ 16))
    (r3 * 2 ^ 12 % 2 ^ 16))) i
    ≡ bit (get_or (r0 ∷ r1 ∷ r2 ∷ r3 ∷ []) (i / 4) 0) (i % 4 / 1)
rows_packed_16 r0 r1 r2 r3 i h0 h1 h2 h3 =
    let own : (r : ℕ) → r ≤ 15 → IsRow 1 r r = λ r h. record {
      small = omega arith;
      bits = λ q l. ap (bit r) (omega arith);
    } in
    rows_packed (own r0 h0) (own r1 h1) (own r2 h2) (own r3 h3) i

-- bit i of part p of a number in four parts of w bits is bit w * p + i of the number
quarter_bit : (w x p i : ℕ) → p < 4 → i < w
    → bit (get_or (x % 2 ^ w ∷ x / 2 ^ w % 2 ^ w ∷ x / 2 ^ (2 * w) % 2 ^ w
    ∷ x / 2 ^ (3 * w) ∷ []) p 0) i
    ≡ bit x (w * p + i)
quarter_bit w x p i hp hi =
    by_four (λ p. bit (get_or
    (x % 2 ^ w ∷ x / 2 ^ w % 2 ^ w ∷ x / 2 ^ (2 * w) % 2 ^ w ∷ x / 2 ^ (3 * w) ∷ []) p 0) i
    ≡ bit x (w * p + i))
    (bit_low x w i hi ∙ ap (bit x) (omega arith)) (field_bit x w w i hi ∙ ap (bit x) (omega arith))
    (field_bit x (2 * w) w i hi ∙ ap (bit x) (omega arith))
    (bit_shr x (3 * w) i ∙ ap (bit x) (omega arith)) p hp

-- the four nibbles of a number of sixteen bits have its bits, four each from the lowest on
pub nibble_bit : (x j q : ℕ) → j < 4 → q < 4
    → bit (get_or (x % 16 ∷ x / 16 % 16 ∷ x / 256 % 16 ∷ x / 4096 ∷ []) j 0) q
    ≡ bit x (4 * j + q)
nibble_bit = quarter_bit 4

pub ruleset row_places = (same_nibble, nibble_bit, row_below, column_below)

-- four words of sixteen bits joined have their bits, sixteen each from the lowest on
pub joined_bit : (a b c d p i : ℕ) → a < 2 ^ 16 → b < 2 ^ 16 → c < 2 ^ 16 → d < 2 ^ 16
    → p < 4 → i < 16
    → bit (bit_or (bit_or (bit_or a (b * 2 ^ 16 % 2 ^ 64)) (c * 2 ^ 32 % 2 ^ 64))
    (d * 2 ^ 48 % 2 ^ 64)) (16 * p + i)
    ≡ bit (get_or (a ∷ b ∷ c ∷ d ∷ []) p 0) i
joined_bit a b c d p i f0 f1 f2 f3 hp hi =
    rows_joined 64 16 a b c d p i (16 * p + i) refl f0 f1 f2 f3 hp hi (omega arith)

-- a byte times 0x0101 has the byte in both bytes of 16 bits
pub bytes_of_16 : (b : ℕ) → b < 256 → (i : ℕ) → i < 16 → bit (b * 0x0101) i ≡ bit b (i % 8)
bytes_of_16 b f = byte_repeated 16 2 b _ refl f (omega arith)

-- a byte times 0x01010101 has the byte in every byte of 32 bits
pub bytes_of_32 : (b : ℕ) → b < 256 → (i : ℕ) → i < 32 → bit (b * 0x01010101) i ≡ bit b (i % 8)
bytes_of_32 b f = byte_repeated 32 4 b _ refl f (omega arith)

-- a byte times 0x0101010101010101 has the byte in every byte of 64 bits
pub bytes_of_64 : (b : ℕ) → b < 256 → (i : ℕ) → i < 64
    → bit (b * 0x0101010101010101) i ≡ bit b (i % 8)
bytes_of_64 b f = byte_repeated 64 8 b _ refl f (omega arith)

-- a nibble in every nibble of sixteen bits has in each place the nibble's bit of that column
pub nibbles_of_16 : (b : ℕ) → b < 16 → (i : ℕ) → i < 16 → bit (b * 0x1111) i ≡ bit b (i % 4 / 1)
unfolding all_below same bit
nibbles_of_16 b f i h = same_tells _ _ (all_pairs_tell 16 16
    (λ b i. same (bit (b * 0x1111) i) (bit b (i % 4 / 1))) refl b i f h)

-- what most calls of a word leave, where it is a number
pub ruleset word_calls = (number_calls, bytes_of_16, bytes_of_32, bytes_of_64, nibbles_of_16)
