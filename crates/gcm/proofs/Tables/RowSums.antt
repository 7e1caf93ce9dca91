-- Rows in the halves of vectors: eight summed in each, and the sum of both.
use Rattle.std.proofs.Common.{◌≡◌, ℕ, zero, suc, ◌+◌, ◌-◌, ◌*◌, ◌/◌, ◌%◌, ◌^◌, ◌<◌, ◌≤◌, List, []}
use Rattle.std.proofs.Common.{◌∷◌, ◌++◌, map, take, drop, get_or, bit_xor, length, replicate, refl}
use Rattle.std.proofs.Common.{ap, subst, sym, ◌∙◌, arith}
use Rattle.std.proofs.lemmas.List.{length-map, take_at, drop_at}
use Rattle.std.proofs.lemmas.Nat.{xor_comm, pow-add}
use Rattle.std.specs.Int.{w128, to_be_bytes, from_be_bytes}
use Rattle.std.specs.Int.Bits.{xor_assoc, xor_zero_r}
use lib.Lanes.{zip2}
use Rattle.aes_planes.specs.Fips197.{IsBlock}
use Rattle.aes_planes.proofs.Lists.{zip2_take, zip2_drop}
use Rattle.aes_planes.proofs.Standard.FieldLaws.{add_swap}
use Rattle.aes_cipher.proofs.BlockNumbers.{block_back}
use Rattle.aes_permute.specs.Lookup.{by_nibbles}
use Rattle.gcm.specs.Gcm.{v_at}
use Rattle.gcm.specs.Multiples.{folded, reduced, IsTable, HasRows, subkey_in, row_number}
use Rattle.gcm.specs.Multiples.{rows_after, place_of, multiples_row}
use Rattle.gcm.proofs.Products.Linear.{v_keeps, v_add}
use Rattle.gcm.proofs.Messages.Counting.{block_below}
use Rattle.gcm.proofs.Products.Reduction.{folded_keeps, reduced_next}
use Rattle.gcm.proofs.Tables.Rows.{zeros_next, value_next, block_moved, block_summed, number_summed}
use Rattle.gcm.proofs.Tables.Rows.{zeros_block, zero_at, row_block, row_is}
use Rattle.gcm.proofs.Tables.Written.{high_row, low_row, nothing_behind}

-- ---- the sum of the last k rows, with the bits that fell out

-- the loop keeps two blocks: `first` is the sum so far, `second` has the bits that fell out behind
-- it. Together they stand for the last k rows, each shifted by its place. In `second` there are
-- zeros from byte k - 1 on, since each step moves one byte into it, the first of them a 0. So
-- nothing falls out of it
pub record Summed (row : ℕ → ℕ) (k : ℕ) (first second : List ℕ) : Type 0 where
  pub first_block : IsBlock first
  pub second_block : IsBlock second
  pub zeros : (i : ℕ) → k ≤ i + 1 → get_or second i 0 ≡ 0
  pub start : k ≡ 0 → get_or first 15 0 ≡ 0
  pub value : reduced (from_be_bytes w128 first) (from_be_bytes w128 second) ≡ rows_after row k

-- before the first step both blocks are zeros
summed_none : (row : ℕ → ℕ) → Summed row 0 (replicate 16 0) (replicate 16 0)
unfolding reduced folded rows_after
summed_none row = record {
  first_block = zeros_block;
  second_block = zeros_block;
  zeros = λ i from. zero_at i;
  start = λ is. refl;
  value = refl;
}

-- a step moves both blocks one byte on and adds the row before
summed_next : (row : ℕ → ℕ) (k : ℕ) (first second added first' second' : List ℕ) → k < 16
    → Summed row k first second
    → IsBlock added → from_be_bytes w128 added ≡ row (15 - k)
    → first' ≡ zip2 bit_xor (0 ∷ take 15 first) added
    → second' ≡ get_or first 15 0 ∷ take 15 second → Summed row (k + 1) first' second'
summed_next row k first second added first' second' inside old block is first_is second_is =
    rw (first_is, second_is) (record {
      first_block = block_summed (0 ∷ take 15 first) added
          (block_moved 0 first (omega arith) old.first_block) block;
      second_block = block_moved (get_or first 15 0) second (old.first_block.1 15) old.second_block;
      zeros = zeros_next k first second old.zeros old.start;
      start = λ is. absurd (omega (arith, is));
      value = value_next row k first second added inside old.first_block old.second_block block
          old.zeros is old.value;
    })

-- ---- what two halves look up

-- the half of a vector that was looked up in row r has that row of a product
half_found : (x half : List ℕ) (rows : List (List ℕ)) (r low high : ℕ) → IsTable rows
    → r < 16 → IsBlock x
    → low ≡ 16 + place_of r → high ≡ place_of r
    → half ≡ map (by_nibbles (get_or rows low []) (get_or rows high [])) x
    → (IsBlock half) × (from_be_bytes w128 half
    ≡ row_number (subkey_in rows) (from_be_bytes w128 x) r)
half_found x half rows r low high is inside block at_low at_high half_is =
    let h = subkey_in rows in
    let low_is = ap (λ n. get_or rows n []) at_low ∙ low_row rows h r is inside in
    let high_is = ap (λ n. get_or rows n []) at_high
    ∙ high_row rows [] h r (is ∙ nothing_behind h) inside in
    let y = from_be_bytes w128 x in
    let looked_up : half
    ≡ map (by_nibbles (multiples_row (v_at h 4) r) (multiples_row h r)) (to_be_bytes w128 y) =
    half_is ∙ (λ t. map (by_nibbles (low_is t) (high_is t)) (sym (block_back x block) t)) in
    (row_block h y r half looked_up, row_is h y r half looked_up)

-- the look-ups of one vector give rows r and 8 + r of a product, since `place_of` puts the two side
-- by side
pub rows_found : (x found : List ℕ) (rows : List (List ℕ)) (r : ℕ) → IsTable rows
    → r < 8 → IsBlock x
    → found ≡ map (by_nibbles (get_or rows (16 + 2 * r) []) (get_or rows (2 * r) [])) x
    ++ map (by_nibbles (get_or rows (17 + 2 * r) []) (get_or rows (2 * r + 1) [])) x
    → HasRows (row_number (subkey_in rows) (from_be_bytes w128 x)) r found
rows_found x found rows r table inside block is =
    let f = by_nibbles (get_or rows (16 + 2 * r) []) (get_or rows (2 * r) []) in
    let g = by_nibbles (get_or rows (17 + 2 * r) []) (get_or rows (2 * r + 1) []) in
    let long : length (map f x) ≡ 16 = length-map x f ∙ block.0 in
    let low = half_found x (take 16 found) rows r (16 + 2 * r) (2 * r) table
    (omega (arith, inside)) block
    (omega (arith, inside)) (omega (arith, inside))
    (ap (take 16) is ∙ take_at (map f x) (map g x) 16 long) in
    let high = half_found x (drop 16 found) rows (8 + r) (17 + 2 * r) (2 * r + 1) table
    (omega (arith, inside)) block
    (omega (arith, inside)) (omega (arith, inside))
    (ap (drop 16) is ∙ drop_at (map f x) (map g x) 16 long) in
    record { lower_block = low.0; upper_block = high.0; lower = low.1; upper = high.1 }

-- the sum of two vectors has the sums of their rows
pub rows_summed : (f g : ℕ → ℕ) (r : ℕ) (p q : List ℕ) → HasRows f r p → HasRows g r q
    → HasRows (λ n. bit_xor (f n) (g n)) r (zip2 bit_xor p q)
rows_summed f g r p q a b =
    let low = zip2_take bit_xor 16 p q in
    let high = zip2_drop bit_xor 16 p q in
    record {
      lower_block = rw low (block_summed (take 16 p) (take 16 q) a.lower_block b.lower_block);
      upper_block = rw high (block_summed (drop 16 p) (drop 16 q) a.upper_block b.upper_block);
      lower = ap (from_be_bytes w128) low
          ∙ number_summed (take 16 p) (take 16 q) a.lower_block b.lower_block
          ∙ (λ t. bit_xor (a.lower t) (b.lower t));
      upper = ap (from_be_bytes w128) high
          ∙ number_summed (drop 16 p) (drop 16 q) a.upper_block b.upper_block
          ∙ (λ t. bit_xor (a.upper t) (b.upper t));
    }

-- ---- eight bytes on

-- the two blocks, moved one byte on, stand for their number times x ^ 8
one_byte_on : (k l t : ℕ) → l ≡ t * 2 ^ 16 → l < 2 ^ 128
    → reduced (k / 256) (k % 256 * 2 ^ 120 + l / 256) ≡ v_at (reduced k l) 8
one_byte_on k l t is small =
    ap (λ j. reduced j (k % 256 * 2 ^ 120 + l / 256)) (sym (xor_zero_r (k / 256)))
    ∙ reduced_next k l t 0 is small ∙ xor_zero_r (v_at (reduced k l) 8)

-- what the two blocks stand for after they are moved n bytes on, one by one
moved_on : ℕ → ℕ → ℕ → ℕ
moved_on zero k l = reduced k l
moved_on (suc n) k l = moved_on n (k / 256) (k % 256 * 2 ^ 120 + l / 256)

-- that is their number times x ^ (8 n), if the last n + 1 bytes are zeros: nothing falls out
bytes_on : (n k l q : ℕ) → n ≤ 8 → l ≡ q * 2 ^ (8 * n) * 2 ^ 8 → l < 2 ^ 128
    → moved_on n k l ≡ v_at (reduced k l) (8 * n)
unfolding v_at moved_on
bytes_on zero k l q few is small = refl
bytes_on (suc n) k l q few is small =
    let c : ℕ = k % 256 in
    let r : ℕ = 2 ^ (112 - 8 * n) in
    let p : ℕ = 2 ^ (8 * n) in
    let bits : 8 + 8 * n ≡ 8 * suc n = omega arith in
    let all : 112 - 8 * n + 8 * n ≡ 112 = omega (arith, few) in
    let whole : r * p ≡ 2 ^ 112 = sym (pow-add 2 (112 - 8 * n) (8 * n)) ∙ ap (λ j. 2 ^ j) all in
    let zeros : l ≡ q * p * 2 ^ 16 =
    is ∙ ap (λ z. q * z * 2 ^ 8) (ap (λ j. 2 ^ j) (sym bits) ∙ pow-add 2 8 (8 * n)) ∙ omega arith in
    let left : c * 2 ^ 120 + l / 256 ≡ (c * r + q) * p * 2 ^ 8 =
    omega (arith, zeros, ap (λ z. c * z) whole) in
    bytes_on n (k / 256) (c * 2 ^ 120 + l / 256) (c * r + q) (omega (arith, few)) left
    (omega (arith, small))
    ∙ ap (λ y. v_at y (8 * n)) (one_byte_on k l (q * p) zeros small)
    ∙ v_add (reduced k l) 8 (8 * n) ∙ ap (v_at (reduced k l)) bits

-- equal parts are reduced to equal numbers
same_reduced : (a b c d : ℕ) → a ≡ c → b ≡ d → reduced a b ≡ reduced c d
same_reduced a b c d left right = λ t. reduced (left t) (right t)

-- the two blocks, moved eight bytes on in one shift, stand for their number times x ^ 64: the
-- upper half's sum has to be moved so far before it is added to the lower's
eight_bytes_on : (k l q : ℕ) → l ≡ q * 2 ^ 72 → l < 2 ^ 128
    → reduced (k / 2 ^ 64) (k % 2 ^ 64 * 2 ^ 64 + l / 2 ^ 64) ≡ v_at (reduced k l) 64
unfolding moved_on
eight_bytes_on k l q is small =
    let one_by_one : reduced (k / 2 ^ 64) (k % 2 ^ 64 * 2 ^ 64 + l / 2 ^ 64) ≡ moved_on 8 k l =
    same_reduced _ _ _ _ (omega arith) (omega (arith, is)) in
    one_by_one ∙ bytes_on 8 k l q (omega arith) (omega (arith, is)) small

-- ---- the sum of both halves

-- the rows of the lower half, as the last eight
abbrev pub lower_rows : (ℕ → ℕ) → ℕ → ℕ
lower_rows row r = row (r - 8)

-- the sum of eight rows and n more: the first eight are moved on by n bytes
rows_on : (row : ℕ → ℕ) (n : ℕ)
    → rows_after row (8 + n) ≡ bit_xor (v_at (rows_after row 8) (8 * n))
    (rows_after (lower_rows row) n)
unfolding rows_after v_at
rows_on row zero = sym (xor_zero_r (rows_after row 8))
rows_on row (suc n) =
    let a = rows_after row 8 in
    let b = rows_after (lower_rows row) n in
    let more : 8 + suc n ≡ suc (8 + n) = omega arith in
    let bits : 8 * n + 8 ≡ 8 * suc n = omega arith in
    let place : 15 - (8 + n) ≡ 15 - n - 8 = omega arith in
    ap (rows_after row) more
    ∙ ap (λ y. bit_xor (v_at y 8) (row (15 - (8 + n)))) (rows_on row n)
    ∙ ap (λ y. bit_xor y (row (15 - (8 + n)))) (v_keeps 8 (v_at a (8 * n)) b)
    ∙ xor_assoc (v_at (v_at a (8 * n)) 8) (v_at b 8) (row (15 - (8 + n)))
    ∙ (λ t. bit_xor ((v_add a (8 * n) 8 ∙ ap (v_at a) bits) t) (bit_xor (v_at b 8) (row (place t))))

-- the sum of two reduced numbers is reduced from the sums of their parts
reduced_keeps : (a b c d : ℕ) → reduced (bit_xor a b) (bit_xor c d)
    ≡ bit_xor (reduced a c) (reduced b d)
unfolding reduced
reduced_keeps a b c d = ap (bit_xor (bit_xor a b)) (folded_keeps c d)
    ∙ add_swap a b (folded c) (folded d)

-- the last nine bytes of what fell out are zeros, so eight of them can go
nine_zeros : (x : List ℕ) → ((i : ℕ) → 8 ≤ i + 1 → get_or x i 0 ≡ 0)
    → from_be_bytes w128 x ≡ from_be_bytes w128 x / 2 ^ 72 * 2 ^ 72
nine_zeros x zeros =
    omega (
      arith,
      zeros 7 (omega arith),
      zeros 8 (omega arith),
      zeros 9 (omega arith),
      zeros 10 (omega arith),
      zeros 11 (omega arith),
      zeros 12 (omega arith),
      zeros 13 (omega arith),
      zeros 14 (omega arith),
      zeros 15 (omega arith),
    )

-- the sums after k steps: of rows 7 to 0 in the lower halves, and of rows 15 to 8 in the upper
-- ones
pub record SummedInHalves (row : ℕ → ℕ) (k : ℕ) (first second : List ℕ) : Type 0 where
  pub lower : Summed (lower_rows row) k (take 16 first) (take 16 second)
  pub upper : Summed row k (drop 16 first) (drop 16 second)

-- before the first step both vectors are zeros
pub halves_none : (row : ℕ → ℕ) → SummedInHalves row 0 (replicate 32 0) (replicate 32 0)
halves_none row = record { lower = summed_none (lower_rows row); upper = summed_none row }

-- a step of one vector is one of both halves
pub halves_next : (row : ℕ → ℕ) (k : ℕ) (first second added moved second' : List ℕ) → k < 8
    → SummedInHalves row k first second → HasRows row (7 - k) added
    → take 16 moved ≡ 0 ∷ take 15 (take 16 first) → drop 16 moved ≡ 0 ∷ take 15 (drop 16 first)
    → take 16 second' ≡ get_or (take 16 first) 15 0 ∷ take 15 (take 16 second)
    → drop 16 second' ≡ get_or (drop 16 first) 15 0 ∷ take 15 (drop 16 second)
    → SummedInHalves row (k + 1) (zip2 bit_xor moved added) second'
halves_next row k first second added moved second' inside old new lower_moved upper_moved
    lower_second upper_second =
    let lower_place : 7 - k ≡ 15 - k - 8 = omega arith in
    let upper_place : 8 + (7 - k) ≡ 15 - k = omega (arith, inside) in
    record {
      lower = summed_next (lower_rows row) k (take 16 first) (take 16 second) (take 16 added) _ _
          (omega (arith, inside))
          old.lower new.lower_block (new.lower ∙ ap row lower_place)
          (zip2_take bit_xor 16 moved added ∙ ap (λ l. zip2 bit_xor l (take 16 added)) lower_moved)
          lower_second;
      upper = summed_next row k (drop 16 first) (drop 16 second) (drop 16 added) _ _
          (omega (arith, inside))
          old.upper new.upper_block (new.upper ∙ ap row upper_place)
          (zip2_drop bit_xor 16 moved added ∙ ap (λ l. zip2 bit_xor l (drop 16 added)) upper_moved)
          upper_second;
    }

-- after eight steps the sum of both halves, reduced, is that of all sixteen rows
pub both_halves : (row : ℕ → ℕ) (k : ℕ) (first second : List ℕ)
    → SummedInHalves row k first second → k ≡ 8
    → reduced (bit_xor (from_be_bytes w128 (take 16 first))
    (from_be_bytes w128 (drop 16 first) / 2 ^ 64))
    (bit_xor (from_be_bytes w128 (take 16 second))
    (from_be_bytes w128 (drop 16 first) % 2 ^ 64 * 2 ^ 64
    + from_be_bytes w128 (drop 16 second) / 2 ^ 64))
    ≡ rows_after row 16
both_halves row k first second is end =
    let x : ℕ = from_be_bytes w128 (drop 16 first) in
    let y : ℕ = from_be_bytes w128 (drop 16 second) in
    let all : SummedInHalves row 8 first second =
    subst (λ n. SummedInHalves row n first second) end is in
    reduced_keeps (from_be_bytes w128 (take 16 first)) (x / 2 ^ 64)
    (from_be_bytes w128 (take 16 second))
    (x % 2 ^ 64 * 2 ^ 64 + y / 2 ^ 64)
    ∙ (λ u. bit_xor (all.lower.value u)
    ((eight_bytes_on x y (y / 2 ^ 72) (nine_zeros (drop 16 second) all.upper.zeros)
    (block_below (drop 16 second) all.upper.second_block) ∙ ap (λ v. v_at v 64) all.upper.value) u))
    ∙ xor_comm (rows_after (lower_rows row) 8) (v_at (rows_after row 8) 64)
    ∙ sym (rows_on row 8)
