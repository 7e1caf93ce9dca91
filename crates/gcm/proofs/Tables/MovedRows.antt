-- Rows of multiples for four powers of x more.
use Rattle.std.proofs.Common.{◌≡◌, ℕ, suc, ◌+◌, ◌-◌, ◌*◌, ◌/◌, ◌%◌, ◌^◌, ◌<◌, ◌==◌}
use Rattle.std.proofs.Common.{true, List, [], ◌++◌, length, take, drop, get_or, map}
use Rattle.std.proofs.Common.{replicate, bit_xor, refl, ap, sym, ◌∙◌, arith}
use Rattle.std.proofs.lemmas.Nat.{xor_comm, shr-shr}
use Rattle.std.proofs.lemmas.Bool.{eqb-true}
use Rattle.std.proofs.lemmas.List.{get_or-map, length-map, length-take, length-drop, take_at}
use Rattle.std.proofs.lemmas.List.{drop_at}
use Rattle.std.proofs.lemmas.Simd.{get_or-zip2, length-zip2}
use lib.Lanes.{zip2}
use Rattle.std.specs.Int.Bits.{xor_zero_r}
use Rattle.aes_planes.proofs.Bits.ByteCases.{all_below, all_below_tells}
use Rattle.aes_planes.proofs.Lists.{get_or-build, build_is}
use Rattle.aes_planes.proofs.Words.ByteLanes.{lane_of_splats, shr8, shl8}
use Rattle.aes_permute.specs.Lookup.{looked, low_nibble}
use Rattle.aes_permute.specs.Vectors.{half}
use Rattle.aes_permute.proofs.ByHalves.{by_half, half_of_both, half_of_zip}
use Rattle.gcm.specs.declared.moved_rows.TheConstants.{FALLEN_FIRST, FALLEN_SECOND}
use Rattle.gcm.specs.Gcm.{next_v, v_at}
use Rattle.gcm.specs.Multiples.{byte_of, nibble_multiple, multiples_row, multiples_rows, row_at}
use Rattle.gcm.proofs.Products.Linear.{sum-ext, v-sum, v_keeps, v_swap, v_shifted, term}
use Rattle.gcm.proofs.Products.Linear.{term_through, sum_without_carry, nibble_below}
use Rattle.gcm.proofs.Tables.Rows.{byte_of_sum, zero_at}

-- ---- a number times x^4

-- a number times x^4: the bits that are left, and what those become that fall out
four_shifted : (k : ℕ) → v_at k 4 ≡ bit_xor (k / 16) (v_at (k % 16) 4)
four_shifted k =
    let parts : k ≡ bit_xor (k / 16 * 2 ^ 4) (k % 16) =
    sym (sum_without_carry 4 (k / 16) (k % 16) (omega arith) ∙ omega arith) in
    ap (λ y. v_at y 4) parts ∙ v_keeps 4 (k / 16 * 2 ^ 4) (k % 16)
    ∙ ap (λ y. bit_xor y (v_at (k % 16) 4)) (v_shifted 4 (k / 16))

-- the sum of a nibble and one that is moved before it
nibbles_sum : (a b : ℕ) → a < 16 → bit_xor a (b * 16 % 256) ≡ b * 16 % 256 + a
nibbles_sum a b small =
    let shifted : b * 16 % 256 ≡ b % 16 * 2 ^ 4 = omega arith in
    ap (bit_xor a) shifted ∙ xor_comm a (b % 16 * 2 ^ 4)
    ∙ sum_without_carry 4 (b % 16) a small ∙ omega arith

-- a byte of a number that is moved by four bits has bits of that byte and of the one before it
byte_moved : (m r : ℕ) → r < 15
    → byte_of (m / 16) (suc r) ≡ bit_xor (byte_of m (suc r) / 16) (byte_of m r * 16 % 256)
unfolding byte_of
byte_moved m r inside =
    let k : ℕ = 8 * (15 - suc r) in
    let y : ℕ = m / 2 ^ k in
    let more : 8 * (15 - r) ≡ k + 8 = omega (arith, inside) in
    let turned : 4 + k ≡ k + 4 = omega arith in
    let here : m / 2 ^ 4 / 2 ^ k ≡ y / 2 ^ 4 =
    shr-shr m 4 k ∙ ap (λ n. m / 2 ^ n) turned ∙ sym (shr-shr m k 4) in
    let before : m / 2 ^ (8 * (15 - r)) ≡ y / 2 ^ 8 =
    ap (λ n. m / 2 ^ n) more ∙ sym (shr-shr m k 8) in
    let sum : y / 16 % 256 ≡ y / 256 % 256 * 16 % 256 + y % 256 / 16 = omega arith in
    ap (λ z. z % 256) here ∙ sum
    ∙ sym (nibbles_sum (y % 256 / 16) (y / 256 % 256) (omega arith))
    ∙ ap (λ z. bit_xor (y % 256 / 16) (z % 256 * 16 % 256)) (sym before)

-- the first byte of a number that is moved by four bits has no byte before it
byte_first : (m : ℕ) → m < 2 ^ 128 → byte_of (m / 16) 0 ≡ byte_of m 0 / 16
unfolding byte_of
byte_first m small = omega (arith, small)

-- ---- what falls out

-- the first byte of what four bits become that fall out, by all cases
first_test : all_below 16 (λ k. byte_of (v_at k 4) 0 == looked FALLEN_FIRST k) ≡ true
unfolding all_below v_at next_v byte_of
first_test = refl

-- the second byte of what four bits become that fall out, by all cases
second_test : all_below 16 (λ k. byte_of (v_at k 4) 1 == looked FALLEN_SECOND k) ≡ true
unfolding all_below v_at next_v byte_of
second_test = refl

-- the later bytes of what four bits become that fall out are 0, by all cases
later_test : all_below 16 (λ k. all_below 14 (λ r. byte_of (v_at k 4) (suc (suc r)) == 0)) ≡ true
unfolding all_below v_at next_v byte_of
later_test = refl

-- a later byte of what four bits become that fall out is 0
fallen_later : (k r : ℕ) → k < 16 → r < 14 → byte_of (v_at k 4) (suc (suc r)) ≡ 0
fallen_later k r small inside = eqb-true _ _
    (all_below_tells 14 (λ r. byte_of (v_at k 4) (suc (suc r)) == 0)
    (all_below_tells 16 (λ k. all_below 14 (λ r. byte_of (v_at k 4) (suc (suc r)) == 0)) later_test
    k small) r inside)

-- ---- a byte of a number times x^4

-- a later byte of a number times x^4 has bits of that byte and of the one before it
four_later : (m r : ℕ) → r < 14 → byte_of (v_at m 4) (suc (suc r))
    ≡ bit_xor (byte_of m (suc (suc r)) / 16) (byte_of m (suc r) * 16 % 256)
four_later m r inside =
    ap (λ y. byte_of y (suc (suc r))) (four_shifted m)
    ∙ byte_of_sum (m / 16) (v_at (m % 16) 4) (suc (suc r))
    ∙ ap (bit_xor (byte_of (m / 16) (suc (suc r)))) (fallen_later (m % 16) r (omega arith) inside)
    ∙ xor_zero_r (byte_of (m / 16) (suc (suc r)))
    ∙ byte_moved m (suc r) (omega (arith, inside))

-- the last four bits of a number are those of its last byte
last_nibble : (m : ℕ) → m % 16 ≡ byte_of m 15 % 16
unfolding byte_of
last_nibble m = omega arith

-- the first byte of a number times x^4: nothing comes before it, and what falls out is added
four_first : (m : ℕ) → m < 2 ^ 128 → byte_of (v_at m 4) 0
    ≡ bit_xor (byte_of m 0 / 16) (looked FALLEN_FIRST (byte_of m 15 % 16))
four_first m small =
    ap (λ y. byte_of y 0) (four_shifted m) ∙ byte_of_sum (m / 16) (v_at (m % 16) 4) 0
    ∙ (λ t. bit_xor (byte_first m small t)
    ((eqb-true _ _ (all_below_tells 16 (λ k. byte_of (v_at k 4) 0 == looked FALLEN_FIRST k)
    first_test (m % 16) (omega arith)) ∙ ap (looked FALLEN_FIRST) (last_nibble m)) t))

-- the second byte of a number times x^4, to which what falls out is added too
four_second : (m : ℕ) → byte_of (v_at m 4) 1
    ≡ bit_xor (bit_xor (byte_of m 1 / 16) (byte_of m 0 * 16 % 256))
    (looked FALLEN_SECOND (byte_of m 15 % 16))
four_second m =
    ap (λ y. byte_of y 1) (four_shifted m) ∙ byte_of_sum (m / 16) (v_at (m % 16) 4) 1
    ∙ (λ t. bit_xor (byte_moved m 0 (omega arith) t)
    ((eqb-true _ _ (all_below_tells 16 (λ k. byte_of (v_at k 4) 1 == looked FALLEN_SECOND k)
    second_test (m % 16) (omega arith)) ∙ ap (looked FALLEN_SECOND) (last_nibble m)) t))

-- ---- rows of multiples

-- multiples by nibbles of a number times x^4 are the multiples, times x^4
nibble_four : (v n : ℕ) → nibble_multiple (v_at v 4) n ≡ v_at (nibble_multiple v n) 4
unfolding nibble_multiple term
nibble_four v n =
    let f = λ (i : ℕ). term (n / 2 ^ (3 - i) % 2) (v_at v i) in
    sum-ext 4 (λ i. term (n / 2 ^ (3 - i) % 2) (v_at (v_at v 4) i)) (λ i. v_at (f i) 4)
    (λ i h. ap (term (n / 2 ^ (3 - i) % 2)) (v_swap v 4 i)
    ∙ sym (term_through (n / 2 ^ (3 - i) % 2) (v_at v i) 4))
    ∙ sym (v-sum 4 4 f)

-- a row whose lanes are bytes of multiples, for four powers of x more, is one of `multiples_row`
row_with : (v r : ℕ) (row : List ℕ) → length row ≡ 16
    → ((n : ℕ) → n < 16 → get_or row n 0 ≡ byte_of (v_at (nibble_multiple v n) 4) r)
    → row ≡ multiples_row (v_at v 4) r
unfolding multiples_row
row_with v r row long lanes =
    sym (build_is 16 (λ n. byte_of (nibble_multiple (v_at v 4) n) r) row 0 long
    (λ n h. ap (λ y. byte_of y r) (nibble_four v n) ∙ sym (lanes n h)))

-- a lane of a row in a table is a byte of the multiple by the lane's nibble
lane_of_row : (v p n : ℕ) (rows : List (List ℕ)) → rows ≡ multiples_rows v → p < 16 → n < 16
    → get_or (get_or rows p []) n 0 ≡ byte_of (nibble_multiple v n) (row_at p)
unfolding multiples_rows multiples_row
lane_of_row v p n rows is inside small =
    ap (λ l. get_or (get_or l p []) n 0) is
    ∙ ap (λ l. get_or l n 0) (get_or-build 16 p (λ i. multiples_row v (row_at i)) [] inside)
    ∙ get_or-build 16 n (λ n. byte_of (nibble_multiple v n) (row_at p)) 0 small

-- the rows from the third one on of a number times x^4: place p has such a row of the number, and
-- place q the one before it
pub later_row : (v r p q : ℕ) (rows : List (List ℕ)) (row : List ℕ) → rows ≡ multiples_rows v
    → p < 16 → q < 16 → r < 14 → row_at p ≡ suc (suc r) → row_at q ≡ suc r → length row ≡ 16
    → ((n : ℕ) → n < 16 → get_or row n 0 ≡ bit_xor (get_or (get_or rows p []) n 0 / 16)
    (get_or (get_or rows q []) n 0 * 16 % 256))
    → row ≡ multiples_row (v_at v 4) (row_at p)
later_row v r p q rows row is hp hq inside p_is q_is long lanes =
    row_with v (suc (suc r)) row long (λ n h. lanes n h
    ∙ (λ t. bit_xor ((lane_of_row v p n rows is hp h
    ∙ ap (byte_of (nibble_multiple v n)) p_is) t / 16)
    ((lane_of_row v q n rows is hq h ∙ ap (byte_of (nibble_multiple v n)) q_is) t * 16 % 256))
    ∙ sym (four_later (nibble_multiple v n) r inside))
    ∙ ap (multiples_row (v_at v 4)) (sym p_is)

-- a lane of a row to which what fell out is added, by the nibble in the last row
fallen_lane : (table m t last end : List ℕ) → length m ≡ 16 → length end ≡ 16
    → t ≡ map (looked table) last → last ≡ map low_nibble end → (n : ℕ) → n < 16
    → get_or (zip2 bit_xor m t) n 0 ≡ bit_xor (get_or m n 0) (looked table (get_or end n 0 % 16))
fallen_lane table m t last end long sized t_is last_is n h =
    let nibbles : List ℕ = map low_nibble end in
    let whole : length nibbles ≡ 16 = length-map end low_nibble ∙ sized in
    let entries : length (map (looked table) nibbles) ≡ 16 =
    length-map nibbles (looked table) ∙ whole in
    ap (λ s. get_or (zip2 bit_xor m s) n 0) (t_is ∙ ap (map (looked table)) last_is)
    ∙ get_or-zip2 bit_xor m (map (looked table) nibbles) n 0 0 0 (omega (arith, long, h))
    (omega (arith, entries, h))
    ∙ ap (bit_xor (get_or m n 0)) (get_or-map (looked table) nibbles n 0 0
    (omega (arith, whole, h))
    ∙ ap (looked table) (get_or-map low_nibble end n 0 0 (omega (arith, sized, h))))

-- a row to which what fell out is added has sixteen lanes
fallen_long : (table m t last end : List ℕ) → length m ≡ 16 → length end ≡ 16
    → t ≡ map (looked table) last → last ≡ map low_nibble end → length (zip2 bit_xor m t) ≡ 16
fallen_long table m t last end long sized t_is last_is =
    length-zip2 bit_xor m t (long ∙ sym (ap length t_is ∙ length-map last (looked table)
    ∙ ap length last_is ∙ length-map end low_nibble ∙ sized)) ∙ long

-- the first row of a number times x^4 has nothing of a row before it
pub first_row : (v : ℕ) (rows : List (List ℕ)) (m t last : List ℕ) → v < 2 ^ 128
    → rows ≡ multiples_rows v → length m ≡ 16 → length (get_or rows 15 []) ≡ 16
    → ((n : ℕ) → n < 16 → get_or m n 0 ≡ bit_xor (get_or (get_or rows 0 []) n 0 / 16)
    (get_or (replicate 16 0) n 0 * 16 % 256))
    → t ≡ map (looked FALLEN_FIRST) last → last ≡ map low_nibble (get_or rows 15 [])
    → zip2 bit_xor m t ≡ multiples_row (v_at v 4) 0
first_row v rows m t last small is long sized lanes t_is last_is =
    row_with v 0 (zip2 bit_xor m t)
    (fallen_long FALLEN_FIRST m t last (get_or rows 15 []) long sized t_is last_is)
    (λ n h. fallen_lane FALLEN_FIRST m t last (get_or rows 15 []) long sized t_is last_is n h
    ∙ (λ u. bit_xor ((lanes n h
    ∙ (λ w. bit_xor (lane_of_row v 0 n rows is (omega arith) h w / 16) (zero_at n w * 16 % 256))
    ∙ xor_zero_r (byte_of (nibble_multiple v n) 0 / 16)) u)
    (looked FALLEN_FIRST (lane_of_row v 15 n rows is (omega arith) h u % 16)))
    ∙ sym (four_first (nibble_multiple v n) (nibble_below v n small)))

-- the second row of a number times x^4 has nibbles of the rows before it
pub second_row : (v : ℕ) (rows : List (List ℕ)) (m t last : List ℕ)
    → rows ≡ multiples_rows v → length m ≡ 16 → length (get_or rows 15 []) ≡ 16
    → ((n : ℕ) → n < 16 → get_or m n 0 ≡ bit_xor (get_or (get_or rows 2 []) n 0 / 16)
    (get_or (get_or rows 0 []) n 0 * 16 % 256))
    → t ≡ map (looked FALLEN_SECOND) last → last ≡ map low_nibble (get_or rows 15 [])
    → zip2 bit_xor m t ≡ multiples_row (v_at v 4) 1
second_row v rows m t last is long sized lanes t_is last_is =
    row_with v 1 (zip2 bit_xor m t)
    (fallen_long FALLEN_SECOND m t last (get_or rows 15 []) long sized t_is last_is)
    (λ n h. fallen_lane FALLEN_SECOND m t last (get_or rows 15 []) long sized t_is last_is n h
    ∙ (λ u. bit_xor ((lanes n h
    ∙ (λ w. bit_xor (lane_of_row v 2 n rows is (omega arith) h w / 16)
    (lane_of_row v 0 n rows is (omega arith) h w * 16 % 256))) u)
    (looked FALLEN_SECOND (lane_of_row v 15 n rows is (omega arith) h u % 16)))
    ∙ sym (four_second (nibble_multiple v n)))

-- ---- two rows in a vector

-- each half of a vector of 32 lanes has sixteen
half_long : (x : List ℕ) (i : ℕ) → length x ≡ 32 → length (half x i) ≡ 16
half_long x i long =
    by_half (λ h. length (h x) ≡ 16) i (omega (arith, length-take 16 x, long))
    (omega (arith, length-drop 16 x, long))

-- a lane in a half of two vectors that are shifted and summed, by those lanes of their halves
pub lane_of_half : (x y : List ℕ) (i n : ℕ) → length x ≡ 32 → length y ≡ 32 → n < 16
    → get_or (half (zip2 bit_xor (zip2 shr8 x (replicate 32 4)) (zip2 shl8 y (replicate 32 4))) i)
    n 0 ≡ bit_xor (get_or (half x i) n 0 / 16) (get_or (half y i) n 0 * 16 % 256)
lane_of_half x y i n x_long y_long small =
    let fours : half (replicate 32 4) i ≡ replicate 16 4 = half_of_both (replicate 16 4) i refl in
    ap (λ l. get_or l n 0)
    (half_of_zip bit_xor (zip2 shr8 x (replicate 32 4)) (zip2 shl8 y (replicate 32 4)) i
    ∙ (λ t. zip2 bit_xor
    ((half_of_zip shr8 x (replicate 32 4) i ∙ ap (zip2 shr8 (half x i)) fours) t)
    ((half_of_zip shl8 y (replicate 32 4) i ∙ ap (zip2 shl8 (half y i)) fours) t)))
    ∙ lane_of_splats 16 bit_xor shr8 shl8 (half x i) (half y i) 4 4 n (half_long x i x_long)
    (half_long y i y_long) small

-- a lane of a row in a pair of rows, by those lanes of the two rows that it is made of
pub lane_in_pair : (m pair x y a b : List ℕ) (i : ℕ) → m ≡ half pair i → half x i ≡ a → half y i ≡ b
    → ((i n : ℕ) → n < 16 → get_or (half pair i) n 0
    ≡ bit_xor (get_or (half x i) n 0 / 16) (get_or (half y i) n 0 * 16 % 256))
    → (n : ℕ) → n < 16 → get_or m n 0 ≡ bit_xor (get_or a n 0 / 16) (get_or b n 0 * 16 % 256)
lane_in_pair m pair x y a b i m_is a_is b_is lanes n h =
    ap (λ l. get_or l n 0) m_is ∙ lanes i n h
    ∙ (λ t. bit_xor (get_or (a_is t) n 0 / 16) (get_or (b_is t) n 0 * 16 % 256))

-- a vector of zeros and a row has the zeros in its lower half and the row in its upper one
pub zeros_and_row : (x row : List ℕ) → x ≡ replicate 16 0 ++ row
    → (half x 0 ≡ replicate 16 0) × (half x 1 ≡ row)
unfolding half
zeros_and_row x row is = (
  ap (take 16) is ∙ take_at (replicate 16 0) row 16 refl,
  ap (drop 16) is ∙ drop_at (replicate 16 0) row 16 refl,
)
