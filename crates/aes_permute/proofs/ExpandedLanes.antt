-- Four words of the key schedule on lanes.
use Rattle.std.proofs.Common.{◌≡◌, ◌≢◌, ℕ, zero, suc, ◌+◌, ◌-◌, ◌*◌, ◌/◌, ◌%◌, ◌<◌, ◌==◌, Bool}
use Rattle.std.proofs.Common.{true, false, nat_le, nat_lt, cond, bit_and, bit_xor, List, [], ◌∷◌}
use Rattle.std.proofs.Common.{◌++◌, length, map, map-id, get_or, set, replicate, refl, ap, sym}
use Rattle.std.proofs.Common.{◌∙◌, subst, arith}
use Rattle.std.specs.Int.Bits.{xor_assoc}
use Rattle.std.proofs.Math.ListN.{get_or-map}
use Rattle.std.proofs.lemmas.Bool.{eqb-true}
use Rattle.std.proofs.lemmas.List.{get_or-set_same, get_or-set_other, length-map}
use Rattle.std.proofs.lemmas.Nat.{xor_comm}
use Rattle.std.proofs.lemmas.Simd.{map-map, zip2_splat}
use lib.Lanes.{zip2, pick_l}
use Rattle.aes_planes.specs.Fips197.{field_add, byte_at, build, state, add_round_key, sbox}
use Rattle.aes_planes.specs.Fips197.{sub_bytes}
use Rattle.aes_planes.specs.Planes.{plus63, constant_block, fold_to, columns_summed}
use Rattle.aes_planes.specs.Planes.{columns_straddled}
use Rattle.aes_planes.proofs.Bits.ByteCases.{all_below, all_below_tells, by_four}
use Rattle.aes_planes.proofs.Lists.{build-get_or, same_on_block, same_on_blocks}
use Rattle.aes_planes.proofs.Shifts.Deferred.{plus63_twice}
use Rattle.aes_planes.proofs.Standard.FieldLaws.{add_zero, add_twice}
use Rattle.aes_planes.proofs.Standard.States.{state_same}
use Rattle.aes_permute.specs.Lookup.{looked}
use Rattle.aes_permute.specs.Stored.{untower, key_untower}
use Rattle.aes_permute.specs.declared.tables.TheConstants.{TOWER_LOW, TOWER_HIGH}
use Rattle.aes_permute.specs.declared.lane_keys.TheConstants.{COLUMN_BEFORE, TWO_COLUMNS_BEFORE}
use Rattle.aes_permute.proofs.Linear.{untower_sum}

-- ---- sums of columns

-- the sum of a column and the one before it
abbrev pair : (ℕ → ℕ) → ℕ → ℕ
pair x c = bit_xor (x c) (cond (c == 0) 0 (x (c - 1)))

-- column c as the code adds it
abbrev coded : (ℕ → ℕ) → ℕ → ℕ → ℕ → ℕ
coded x s a c = bit_xor (bit_xor (bit_xor (pair x c) (cond (nat_lt c 2) 0 (pair x (c - 2)))) a) s

-- the order in which the code adds the start and the addend makes no difference
addend_last : (v a s : ℕ) → bit_xor (bit_xor v a) s ≡ bit_xor v (bit_xor s a)
addend_last v a s = xor_assoc v a s ∙ ap (bit_xor v) (xor_comm a s)

-- column c as the code adds it is the sum of the columns up to it
coded_is : (x : ℕ → ℕ) (s a c : ℕ) → c < 4 → coded x s a c ≡ fold_to field_add x (bit_xor s a) c
coded_is x s a c l =
    addend_last (bit_xor (pair x c) (cond (nat_lt c 2) 0 (pair x (c - 2)))) a s
    ∙ by_four (λ c. bit_xor (bit_xor (pair x c) (cond (nat_lt c 2) 0 (pair x (c - 2))))
    (bit_xor s a)
    ≡ fold_to field_add x (bit_xor s a) c)
    (ap (λ v. bit_xor v (bit_xor s a)) (add_zero (bit_xor (x 0) 0) ∙ add_zero (x 0)))
    (ap (λ v. bit_xor v (bit_xor s a)) (add_zero (bit_xor (x 1) (x 0)))
    ∙ xor_assoc (x 1) (x 0) (bit_xor s a))
    (ap (λ v. bit_xor (bit_xor (bit_xor (x 2) (x 1)) v) (bit_xor s a)) (add_zero (x 0))
    ∙ xor_assoc (bit_xor (x 2) (x 1)) (x 0) (bit_xor s a)
    ∙ xor_assoc (x 2) (x 1) (bit_xor (x 0) (bit_xor s a)))
    (xor_assoc (bit_xor (x 3) (x 2)) (bit_xor (x 1) (x 0)) (bit_xor s a)
    ∙ ap (bit_xor (bit_xor (x 3) (x 2))) (xor_assoc (x 1) (x 0) (bit_xor s a))
    ∙ xor_assoc (x 3) (x 2) (bit_xor (x 1) (bit_xor (x 0) (bit_xor s a))))
    c l

-- the sums of each column and the one before it
abbrev pub pairs_of : List ℕ → List ℕ
pairs_of x = zip2 bit_xor x (map (looked x) COLUMN_BEFORE)

-- the sums of each column and the one two before it
abbrev pub sums_of : List ℕ → List ℕ
sums_of x = zip2 bit_xor x (map (looked x) TWO_COLUMNS_BEFORE)

-- the columns as the code adds them, on vectors
abbrev columns_of : List ℕ → List ℕ → List ℕ → List ℕ
columns_of x s a = zip2 bit_xor (zip2 bit_xor (sums_of (pairs_of x)) a) s

-- the columns as the code adds them, byte by byte
abbrev coded_state : List ℕ → List ℕ → List ℕ → List ℕ
coded_state x s a = state (λ r c. coded (byte_at x r) (byte_at s r c) (byte_at a r c) c)

-- the columns on vectors are the columns byte by byte
columns_are : (x s a : List ℕ) → length x ≡ 16 → length s ≡ 16 → length a ≡ 16
    → columns_of x s a ≡ coded_state x s a
unfolding state build
columns_are x s a x_long s_long a_long =
    subst (λ v. columns_of v s a ≡ coded_state v s a) (build-get_or 16 x 0 x_long)
    (same_on_blocks (columns_of (build 16 (λ i. get_or x i 0)))
    (coded_state (build 16 (λ i. get_or x i 0)))
    (λ f g. refl) s a s_long a_long)

-- two steps of such sums make each column the sum of all columns up to it, an addend and a constant
summed_in_two_steps : (x s a : List ℕ) {p q : List ℕ} → length x ≡ 16 → length s ≡ 16
    → length a ≡ 16
    → p ≡ pairs_of x → q ≡ sums_of p → zip2 bit_xor (zip2 bit_xor q a) s
    ≡ state (λ r c. fold_to field_add (byte_at x r) (field_add (byte_at s r c) (byte_at a r c)) c)
summed_in_two_steps x s a x_long s_long a_long pairs_are sums_are =
    ap (λ v. zip2 bit_xor (zip2 bit_xor v a) s) (sums_are ∙ ap sums_of pairs_are)
    ∙ columns_are x s a x_long s_long a_long
    ∙ state_same _ _ (λ r c i j. coded_is (byte_at x r) (byte_at s r c) (byte_at a r c) c j)

-- ---- in the tower basis

-- what a sum of lanes stands for is the sum of what they stand for
sum_untowered : (x y : List ℕ)
    → map untower (zip2 bit_xor x y) ≡ zip2 bit_xor (map untower x) (map untower y)
sum_untowered [] y = refl
sum_untowered (x ∷ xs) [] = refl
sum_untowered (x ∷ xs) (y ∷ ys) = λ i. untower_sum x y i ∷ sum_untowered xs ys i

-- a lane stands for the same at another place, and a lane of zero for zero
moved_untowered : (x ks : List ℕ)
    → map untower (map (looked x) ks) ≡ map (looked (map untower x)) ks
unfolding untower
moved_untowered x ks = map-map untower (looked x) ks ∙ (λ i. map (λ k. entry k (nat_le 128 k) i) ks)
  where
    entry : (k : ℕ) (b : Bool)
        → untower (cond b 0 (get_or x k 0)) ≡ cond b 0 (get_or (map untower x) k 0)
    entry k true = refl
    entry k false = sym (get_or-map untower x k 0)

-- the columns, summed from any start and addend
abbrev pub from_start : List ℕ → List ℕ → List ℕ → List ℕ
from_start x s a =
    state (λ r c. fold_to field_add (byte_at x r) (field_add (byte_at s r c) (byte_at a r c)) c)

-- the sums of columns stand for those of what the columns stand for
pub tower_summed_is : (x s a : List ℕ) {p q : List ℕ} → length x ≡ 16 → length s ≡ 16
    → length a ≡ 16 → p ≡ pairs_of x → q ≡ sums_of p
    → map untower (zip2 bit_xor (zip2 bit_xor q a) s)
    ≡ from_start (map untower x) (map untower s) (map untower a)
tower_summed_is x s a {p = p} {q = q} x_long s_long a_long pairs_are sums_are =
    let with_moved : (y ks : List ℕ) → map untower (zip2 bit_xor y (map (looked y) ks))
    ≡ zip2 bit_xor (map untower y) (map (looked (map untower y)) ks) =
    λ y ks. sum_untowered y (map (looked y) ks)
    ∙ ap (zip2 bit_xor (map untower y)) (moved_untowered y ks) in
    sum_untowered (zip2 bit_xor q a) s
    ∙ ap (λ v. zip2 bit_xor v (map untower s)) (sum_untowered q a)
    ∙ summed_in_two_steps (map untower x) (map untower s) (map untower a)
    (length-map x untower ∙ x_long)
    (length-map s untower ∙ s_long) (length-map a untower ∙ a_long)
    (ap (map untower) pairs_are ∙ with_moved x COLUMN_BEFORE)
    (ap (map untower) sums_are ∙ with_moved p TWO_COLUMNS_BEFORE)

-- ---- round constants

-- a byte of a round constant as the code looks it up
abbrev looked_byte : ℕ → ℕ
looked_byte k = bit_xor (get_or TOWER_LOW (bit_and k 15) 0) (get_or TOWER_HIGH (k / 16) 0)

-- the test that a byte that is looked up stands for the constant's byte, by all bytes
byte_cases : all_below 256 (λ k. untower (looked_byte k) == k) ≡ true
unfolding all_below untower
byte_cases = refl

-- a byte of a round constant that is looked up stands for that byte
pub byte_is : (k : ℕ) → k < 256 → untower (looked_byte k) ≡ k
byte_is k h = eqb-true _ _ (all_below_tells 256 (λ k. untower (looked_byte k) == k) byte_cases k h)

-- a byte that is added to the first lane stands for what is added there
pub constant_is : (x : List ℕ) (k t : ℕ) → untower t ≡ k
    → map untower (zip2 bit_xor x (t ∷ replicate 15 0))
    ≡ zip2 bit_xor (map untower x) (k ∷ replicate 15 0)
unfolding untower
constant_is x k t e = sum_untowered x (t ∷ replicate 15 0)
    ∙ (λ i. zip2 bit_xor (map untower x) (e i ∷ replicate 15 0))

-- a byte added to the first lane, and zeros to the others, changes that lane alone
first_changed : (x : List ℕ) (k : ℕ) → length x ≡ 16
    → zip2 bit_xor x (k ∷ replicate 15 0) ≡ set x 0 (bit_xor (get_or x 0 0) k)
first_changed [] k l = refl
first_changed (x ∷ xs) k l =
    (λ i. bit_xor x k ∷ zip2_splat bit_xor xs 15 0 (omega (arith, l)) i)
    ∙ (λ i. bit_xor x k ∷ map (λ v. add_zero v i) xs) ∙ (λ i. bit_xor x k ∷ map-id xs i)

-- sums of columns add to each column what is added to the first
first_column_carried : (x z : ℕ → ℕ) (v k c : ℕ) → z 0 ≡ bit_xor (x 0) k
    → ((d : ℕ) → z (suc d) ≡ x (suc d))
    → fold_to field_add z v c ≡ fold_to field_add x (bit_xor v k) c
first_column_carried x z v k zero first others =
    ap (λ u. bit_xor u v) first ∙ xor_assoc (x 0) k v ∙ ap (bit_xor (x 0)) (xor_comm k v)
first_column_carried x z v k (suc c) first others =
    λ i. bit_xor (others c i) (first_column_carried x z v k c first others i)

-- a byte added to the first lane is added to row 0 of each column
constant_carried : (x : List ℕ) (v k r c : ℕ) → length x ≡ 16 → r < 4
    → fold_to field_add (byte_at (set x 0 (bit_xor (get_or x 0 0) k)) r) v c
    ≡ fold_to field_add (byte_at x r) (bit_xor v (cond (r == 0) k 0)) c
constant_carried x v k r c x_long lt =
    let z = set x 0 (bit_xor (get_or x 0 0) k) in
    let other : (i : ℕ) → i ≢ 0 → get_or z i 0 ≡ get_or x i 0 = λ i. get_or-set_other x 0 i _ 0 in
    let row : (i : ℕ) → i ≢ 0 → get_or z i 0 ≡ bit_xor (get_or x i 0) 0 =
    λ i h. other i h ∙ sym (add_zero (get_or x i 0)) in
    first_column_carried (byte_at x r) (byte_at z r) v (cond (r == 0) k 0) c
    (by_four (λ r. byte_at z r 0 ≡ bit_xor (byte_at x r 0) (cond (r == 0) k 0))
    (get_or-set_same x 0 _ 0 (omega (arith, x_long)))
    (row 1 (omega arith)) (row 2 (omega arith)) (row 3 (omega arith)) r lt)
    (λ d. other (r + 4 * suc d) (omega arith))

-- ---- the three kinds of first words

-- lanes taken from a list
abbrev pub swizzled : List ℕ → List ℕ → List ℕ
swizzled xs ks = pick_l 0 (xs ++ xs) ks

-- the lanes of the last column, rotated by one row, in each of the four columns
abbrev pub rotated_column : List ℕ
rotated_column = 13 ∷ 14 ∷ 15 ∷ 12 ∷ 13 ∷ 14 ∷ 15 ∷ 12 ∷ 13 ∷ 14 ∷ 15 ∷ 12 ∷ 13 ∷ 14 ∷ 15 ∷ 12 ∷ []

-- the lanes of the last column, in each of the four columns
abbrev pub last_column : List ℕ
last_column = 12 ∷ 13 ∷ 14 ∷ 15 ∷ 12 ∷ 13 ∷ 14 ∷ 15 ∷ 12 ∷ 13 ∷ 14 ∷ 15 ∷ 12 ∷ 13 ∷ 14 ∷ 15 ∷ []

-- the lanes of the second column, in each of the four columns
abbrev pub second_column : List ℕ
second_column = 4 ∷ 5 ∷ 6 ∷ 7 ∷ 4 ∷ 5 ∷ 6 ∷ 7 ∷ 4 ∷ 5 ∷ 6 ∷ 7 ∷ 4 ∷ 5 ∷ 6 ∷ 7 ∷ []

-- 0x6e stands for 0x63 in the tower basis
of_constant : untower 0x6e ≡ 0x63
unfolding untower
of_constant = refl

-- lanes of 0x6e stand for lanes of 0x63
constants_untowered : map untower (replicate 16 0x6e) ≡ replicate 16 0x63
constants_untowered = λ i. replicate 16 (of_constant i)

-- the start of columns: SubBytes of lanes of a block but for the constant of the S-box
abbrev substituted_lanes : List ℕ → List ℕ → List ℕ
substituted_lanes y ks = map plus63 (sub_bytes (swizzled y ks))

-- what is added to each row, from the last column `rows` rows on, with the constant of the S-box
-- twice
abbrev added_to_row : List ℕ → ℕ → ℕ → ℕ
added_to_row y rows r = plus63 (plus63 (byte_at (sub_bytes y) ((r + rows) % 4) 3))

-- the columns from a substituted and rotated last column on are sums, row by row
rotated_state : (x y : List ℕ) → length y ≡ 16
    → from_start x (substituted_lanes y rotated_column) (replicate 16 0x63)
    ≡ state (λ r c. fold_to field_add (byte_at x r) (added_to_row y 1 r) c)
unfolding state build sub_bytes
rotated_state x y =
    same_on_block (λ y. from_start x (substituted_lanes y rotated_column) (replicate 16 0x63))
    (λ y. state (λ r c. fold_to field_add (byte_at x r) (added_to_row y 1 r) c)) (λ f. refl) y

-- the columns from a substituted last column without a rotation on are sums, row by row
substituted_state : (x y : List ℕ) → length y ≡ 16
    → from_start x (substituted_lanes y last_column) (replicate 16 0x63)
    ≡ state (λ r c. fold_to field_add (byte_at x r) (added_to_row y 0 r) c)
unfolding state build sub_bytes
substituted_state x y =
    same_on_block (λ y. from_start x (substituted_lanes y last_column) (replicate 16 0x63))
    (λ y. state (λ r c. fold_to field_add (byte_at x r) (added_to_row y 0 r) c)) (λ f. refl) y

-- the sums with a round constant are those of the standard
rotated_sums : (x y : List ℕ) (k : ℕ) → length y ≡ 16
    → state (λ r c. fold_to field_add (byte_at x r)
    (bit_xor (byte_at y ((r + 1) % 4) 3) (cond (r == 0) k 0)) c)
    ≡ columns_summed 1 3 x (add_round_key y (constant_block k))
unfolding state build columns_summed add_round_key constant_block
rotated_sums x y k = same_on_block (λ y. state (λ r c. fold_to field_add (byte_at x r)
    (bit_xor (byte_at y ((r + 1) % 4) 3) (cond (r == 0) k 0)) c))
    (λ y. columns_summed 1 3 x (add_round_key y (constant_block k))) (λ f. refl) y

-- sums from equal bytes are equal
summed_from : (x : ℕ → ℕ) (s t c : ℕ) → s ≡ t → fold_to field_add x s c ≡ fold_to field_add x t c
summed_from x s t c e = ap (λ v. fold_to field_add x v c) e

-- what SubBytes makes of lanes, by what these stand for
start_is : (v ks s : List ℕ) → map untower (swizzled v ks) ≡ swizzled (map untower v) ks
    → map untower s ≡ map plus63 (sub_bytes (map untower (swizzled v ks)))
    → map untower s ≡ substituted_lanes (map untower v) ks
start_is v ks s moved e = e ∙ ap (λ t. map plus63 (sub_bytes t)) moved

-- SubBytes of a block leaves sixteen bytes
length-sub_bytes : (y : List ℕ) → length y ≡ 16 → length (sub_bytes y) ≡ 16
unfolding sub_bytes
length-sub_bytes y l = length-map y sbox ∙ l

-- on lanes, SubWord of RotWord of the last column and a round constant, summed onto the columns of
-- a block, are `columns_summed` with the constant block
pub rotated_is : {x y : List ℕ} (u v b s z : List ℕ) (k : ℕ) → map untower u ≡ x → map untower v ≡ y
    → length u ≡ 16 → length v ≡ 16
    → map untower b ≡ zip2 bit_xor (map untower u) (k ∷ replicate 15 0)
    → map untower s ≡ map plus63 (sub_bytes (map untower (swizzled v rotated_column)))
    → map untower z ≡ from_start (map untower b) (map untower s) (map untower (replicate 16 0x6e))
    → map untower z ≡ columns_summed 1 3 x (add_round_key (sub_bytes y) (constant_block k))
unfolding build
rotated_is u v b s z k is_x is_y u_long v_long is_b is_s is_z =
    let x = map untower u in
    let y = map untower v in
    let x_long : length x ≡ 16 = length-map u untower ∙ u_long in
    let y_long : length y ≡ 16 = length-map v untower ∙ v_long in
    let moved = same_on_block (λ v. map untower (swizzled v rotated_column))
    (λ v. swizzled (map untower v) rotated_column) (λ g. refl) v v_long in
    is_z ∙ (λ i. from_start ((is_b ∙ first_changed x k x_long) i)
    (start_is v rotated_column s moved is_s i) (constants_untowered i))
    ∙ rotated_state (set x 0 (bit_xor (get_or x 0 0) k)) y y_long
    ∙ state_same _ _ (λ r c i j.
    constant_carried x (added_to_row y 1 r) k r c x_long i
    ∙ summed_from (byte_at x r) _ _ c (ap (λ v. bit_xor v (cond (r == 0) k 0))
    (add_twice (byte_at (sub_bytes y) ((r + 1) % 4) 3) 0x63)))
    ∙ rotated_sums x (sub_bytes y) k (length-sub_bytes y y_long)
    ∙ (λ i. columns_summed 1 3 (is_x i) (add_round_key (sub_bytes (is_y i)) (constant_block k)))

-- on lanes, SubWord of the last column, summed onto the columns of a block, is `columns_summed`
pub substituted_is : {x y : List ℕ} (u v s z : List ℕ) → map untower u ≡ x → map untower v ≡ y
    → length v ≡ 16
    → map untower s ≡ map plus63 (sub_bytes (map untower (swizzled v last_column)))
    → map untower z ≡ from_start (map untower u) (map untower s) (map untower (replicate 16 0x6e))
    → map untower z ≡ columns_summed 0 3 x (sub_bytes y)
unfolding build columns_summed
substituted_is u v s z is_x is_y v_long is_s is_z =
    let x = map untower u in
    let y = map untower v in
    let moved = same_on_block (λ v. map untower (swizzled v last_column))
    (λ v. swizzled (map untower v) last_column) (λ g. refl) v v_long in
    is_z ∙ (λ i. from_start x (start_is v last_column s moved is_s i) (constants_untowered i))
    ∙ substituted_state x y (length-map v untower ∙ v_long)
    ∙ state_same _ _ (λ r c i j. summed_from (byte_at x r) _ _ c
    (add_twice (byte_at (sub_bytes y) ((r + 0) % 4) 3) 0x63))
    ∙ (λ i. columns_summed 0 3 (is_x i) (sub_bytes (is_y i)))

-- the columns from a second column as it is, row by row
plain_state : (x y : List ℕ) → length y ≡ 16
    → from_start x (map untower (swizzled y second_column)) (map untower (replicate 16 0))
    ≡ state (λ r c. fold_to field_add (byte_at x r)
    (bit_xor (byte_at (map untower y) ((r + 0) % 4) 1) 0) c)
unfolding state build untower
plain_state x y = same_on_block
    (λ y. from_start x (map untower (swizzled y second_column)) (map untower (replicate 16 0)))
    (λ y. state (λ r c. fold_to field_add (byte_at x r)
    (bit_xor (byte_at (map untower y) ((r + 0) % 4) 1) 0) c)) (λ f. refl) y

-- the second column as it is, summed onto the columns of a block
pub plain_is : {x y : List ℕ} (u v z : List ℕ) → map untower u ≡ x → map untower v ≡ y → length v ≡ 16
    → map untower z ≡ from_start (map untower u) (map untower (swizzled v second_column))
    (map untower (replicate 16 0))
    → map untower z ≡ columns_summed 0 1 x y
unfolding columns_summed
plain_is u v z is_x is_y v_long is_z =
    is_z ∙ plain_state (map untower u) v v_long
    ∙ state_same _ _ (λ r c i j. summed_from (byte_at (map untower u) r) _ _ c
    (add_zero (byte_at (map untower v) ((r + 0) % 4) 1)))
    ∙ (λ i. columns_summed 0 1 (is_x i) (is_y i))

-- ---- the last columns of one block and the first of the next

-- the lanes of the last two columns of one block and of the first two of the next
abbrev pub straddling : List ℕ
straddling = 8 ∷ 9 ∷ 10 ∷ 11 ∷ 12 ∷ 13 ∷ 14 ∷ 15 ∷ 16 ∷ 17 ∷ 18 ∷ 19 ∷ 20 ∷ 21 ∷ 22 ∷ 23 ∷ []

-- the `straddling` lanes of two blocks are the block that straddles them
pub straddled_is : (x y u v : List ℕ) → map untower u ≡ x → map untower v ≡ y → length u ≡ 16
    → length v ≡ 16 → map untower (pick_l 0 (u ++ v) straddling) ≡ columns_straddled x y
unfolding state build columns_straddled
straddled_is x y u v is_x is_y u_long v_long =
    same_on_blocks (λ x y. map untower (pick_l 0 (x ++ y) straddling))
    (λ x y. columns_straddled (map untower x) (map untower y)) (λ f g. refl) u v u_long v_long
    ∙ (λ i. columns_straddled (is_x i) (is_y i))

-- ---- stored round keys

-- 0x63, which is 0x6e in the tower basis, is taken out again
inner_byte : (b : ℕ) → key_untower (bit_xor b 0x6e) ≡ untower b
unfolding key_untower
inner_byte b = ap plus63 (untower_sum b 0x6e ∙ ap (bit_xor (untower b)) of_constant)
    ∙ add_twice (untower b) 0x63

-- a round key in the tower basis, with that constant added, is one as it is stored
pub inner_is : (x : List ℕ) → length x ≡ 16
    → map key_untower (zip2 bit_xor x (replicate 16 0x6e)) ≡ map untower x
inner_is x l =
    ap (map key_untower) (zip2_splat bit_xor x 16 0x6e l)
    ∙ map-map key_untower (λ v. bit_xor v 0x6e) x ∙ (λ i. map (λ b. inner_byte b i) x)

-- an inner round key as stored, taken out of the tower basis with 0x63 added, is what it stands for
pub plain_key_is : (x : List ℕ) → length x ≡ 16
    → zip2 bit_xor (map untower x) (replicate 16 0x63) ≡ map key_untower x
unfolding key_untower
plain_key_is x l = zip2_splat bit_xor (map untower x) 16 0x63 (length-map x untower ∙ l)
    ∙ map-map plus63 untower x

-- the last round key, stored outside the tower basis with 0x63 added, stands for what it is in that
-- basis
pub last_key_is : (x : List ℕ) → map plus63 (map key_untower x) ≡ map untower x
unfolding key_untower
last_key_is x = ap (map plus63) (sym (map-map plus63 untower x)) ∙ plus63_twice (map untower x)
