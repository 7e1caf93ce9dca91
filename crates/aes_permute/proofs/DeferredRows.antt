-- Rounds of Cipher that leave ShiftRows out: the bytes are taken from where they are.
use Rattle.std.proofs.Common.{◌≡◌, ℕ, zero, suc, ◌+◌, ◌-◌, ◌%◌, ◌<◌, ◌≤◌, bit_xor, List}
use Rattle.std.proofs.Common.{length, map, get_or, replicate, refl, ap, sym, subst, ◌∙◌, arith}
use Rattle.std.proofs.lemmas.List.{length-map}
use lib.Lanes.{zip2}
use Rattle.aes_planes.specs.Fips197.{add_round_key, build, mix_columns, shift_rows, shift_times}
use Rattle.aes_planes.specs.Fips197.{state, sub_bytes, IsBlock}
use Rattle.aes_planes.specs.Planes.{plus63}
use Rattle.aes_planes.proofs.Bits.ByteCases.{by_four}
use Rattle.aes_planes.proofs.Lists.{build-get_or, same_on_block}
use Rattle.aes_planes.proofs.Standard.LinearSteps.{shift_map}
use Rattle.aes_planes.proofs.Standard.Steps.{length-shift_times, shift_times_bytes}
use Rattle.aes_permute.specs.Lookup.{is_index, AreIndices}
use Rattle.aes_permute.specs.MixedRows.{mixed_at, permuted, places_in}
use Rattle.aes_permute.specs.Stored.{untower, key_untower}
use Rattle.aes_permute.specs.declared.tables.TheConstants.{SHIFTED_ROWS, NEXT_ROW}
use Rattle.aes_permute.specs.declared.tables.TheConstants.{NEXT_ROW_BUT_ONE, ROW_BEFORE}
use Rattle.aes_permute.proofs.ExpandedLanes.{inner_is}
use Rattle.aes_permute.proofs.RoundLanes.{by_1, by_2, mixed_of, plain_sbox}
use Rattle.aes_permute.proofs.RoundLanes.{last_sum_of, round_is, last_round_is}

-- ---- tables of places

-- if each of four tables has indices, so has the one for n modulo 4
pub indices_at : (tables : List (List ℕ))
    → AreIndices (places_in tables 0) → AreIndices (places_in tables 1)
    → AreIndices (places_in tables 2) → AreIndices (places_in tables 3)
    → (n : ℕ) → AreIndices (places_in tables (n % 4))
indices_at tables a b c d n =
    by_four (λ k. AreIndices (places_in tables k)) a b c d (n % 4) (omega arith)

-- each table of SHIFTED_ROWS has indices
pub shifted_indices : (n : ℕ) → AreIndices (places_in SHIFTED_ROWS (n % 4))
unfolding is_index
shifted_indices = indices_at SHIFTED_ROWS refl refl refl refl

-- the table of SHIFTED_ROWS that undoes n ShiftRows has indices
pub shifted_back_indices : (n : ℕ) → AreIndices (places_in SHIFTED_ROWS ((4 - n % 4) % 4))
shifted_back_indices n = shifted_indices (4 - n % 4)

-- each table of NEXT_ROW has indices
pub next_indices : (n : ℕ) → AreIndices (places_in NEXT_ROW (n % 4))
unfolding is_index
next_indices = indices_at NEXT_ROW refl refl refl refl

-- each table of NEXT_ROW_BUT_ONE has indices
pub next_but_one_indices : (n : ℕ) → AreIndices (places_in NEXT_ROW_BUT_ONE (n % 4))
unfolding is_index
next_but_one_indices = indices_at NEXT_ROW_BUT_ONE refl refl refl refl

-- each table of ROW_BEFORE has indices
pub before_indices : (n : ℕ) → AreIndices (places_in ROW_BEFORE (n % 4))
unfolding is_index
before_indices = indices_at ROW_BEFORE refl refl refl refl

-- ---- ShiftRows some times

-- a change of each byte and ShiftRows can be exchanged
pub times_map : (f : ℕ → ℕ) (k : ℕ) (s : List ℕ) → length s ≡ 16
    → map f (shift_times k s) ≡ shift_times k (map f s)
unfolding shift_times
times_map f zero s l = refl
times_map f (suc k) s l =
    sym (shift_map f (shift_times k s) (length-shift_times k s l))
    ∙ ap shift_rows (times_map f k s l)

-- a block stays a block
pub times_block : (k : ℕ) (s : List ℕ) → IsBlock s → IsBlock (shift_times k s)
times_block k s (long, small) = (length-shift_times k s long, shift_times_bytes k s small)

-- entry k of SHIFTED_ROWS has the places of k ShiftRows
pub shifted_is : (k : ℕ) → k < 4 → (x : List ℕ) → length x ≡ 16
    → permuted x (places_in SHIFTED_ROWS k) ≡ shift_times k x
unfolding build state shift_rows shift_times
shifted_is = by_four
    (λ k. (x : List ℕ) → length x ≡ 16 → permuted x (places_in SHIFTED_ROWS k) ≡ shift_times k x)
    (same_on_block (λ x. permuted x (places_in SHIFTED_ROWS 0)) (shift_times 0) (λ f. refl))
    (same_on_block (λ x. permuted x (places_in SHIFTED_ROWS 1)) (shift_times 1) (λ f. refl))
    (same_on_block (λ x. permuted x (places_in SHIFTED_ROWS 2)) (shift_times 2) (λ f. refl))
    (same_on_block (λ x. permuted x (places_in SHIFTED_ROWS 3)) (shift_times 3) (λ f. refl))

-- four ShiftRows change nothing: some after the others of four
shifted_back_is : (k : ℕ) → k < 4 → (x : List ℕ) → length x ≡ 16
    → shift_times k (permuted x (places_in SHIFTED_ROWS ((4 - k) % 4))) ≡ x
unfolding build state shift_rows shift_times
shifted_back_is = by_four
    (λ k. (x : List ℕ) → length x ≡ 16
    → shift_times k (permuted x (places_in SHIFTED_ROWS ((4 - k) % 4))) ≡ x)
    (same_on_block (λ x. shift_times 0 (permuted x (places_in SHIFTED_ROWS 0))) (λ x. x)
    (λ f. refl))
    (same_on_block (λ x. shift_times 1 (permuted x (places_in SHIFTED_ROWS 3))) (λ x. x)
    (λ f. refl))
    (same_on_block (λ x. shift_times 2 (permuted x (places_in SHIFTED_ROWS 2))) (λ x. x)
    (λ f. refl))
    (same_on_block (λ x. shift_times 3 (permuted x (places_in SHIFTED_ROWS 1))) (λ x. x)
    (λ f. refl))

-- a round key in the tower basis, shifted back, with the constant of the S-box, is one as it is
-- stored
pub stored_is : (n : ℕ) (x p : List ℕ) → length x ≡ 16
    → p ≡ permuted x (places_in SHIFTED_ROWS ((4 - n % 4) % 4))
    → shift_times (n % 4) (map key_untower (zip2 bit_xor p (replicate 16 0x6e))) ≡ map untower x
stored_is n x p l e =
    let k : ℕ = n % 4 in
    let m : ℕ = (4 - k) % 4 in
    let y : List ℕ = permuted x (places_in SHIFTED_ROWS m) in
    let long : length y ≡ 16 =
    ap length (shifted_is m (omega arith) x l) ∙ length-shift_times m x l in
    ap (shift_times k)
    (ap (λ p. map key_untower (zip2 bit_xor p (replicate 16 0x6e))) e ∙ inner_is y long)
    ∙ sym (times_map untower k y long) ∙ ap (map untower) (shifted_back_is k (omega arith) x l)

-- ---- a round

-- how many ShiftRows were left out before a round, by how many are after it
abbrev pub before : ℕ → ℕ
before k = (k + 3) % 4

-- with the deferred ShiftRows made up for, the round is one that defers none
abbrev pub MadeUp : ℕ → List ℕ → List ℕ → List ℕ → Type 0
MadeUp k o t key = (shift_times k (mixed_at k o t key)
    ≡ mixed_of (shift_times (before k) o) (shift_times (before k) t) (shift_times k key))
    × (length (mixed_at k o t key) ≡ 16)

-- `MadeUp` of blocks that are built of functions, by computing all lanes
made_up_on_lanes : (k : ℕ) → k < 4 → (f g h : ℕ → ℕ) → MadeUp k (build 16 f) (build 16 g) (build 16 h)
unfolding build state shift_rows shift_times
made_up_on_lanes = by_four (λ k. (f g h : ℕ → ℕ) → MadeUp k (build 16 f) (build 16 g) (build 16 h))
    (λ f g h. (refl, refl)) (λ f g h. (refl, refl)) (λ f g h. (refl, refl)) (λ f g h. (refl, refl))

-- any blocks have `MadeUp`, since each is built of its bytes
pub made_up : (k : ℕ) (o t key : List ℕ) → k < 4 → length o ≡ 16 → length t ≡ 16 → length key ≡ 16
    → MadeUp k o t key
made_up k o t key small l m n =
    subst (λ o. MadeUp k o t key) (build-get_or 16 o 0 l)
    (subst (λ t. MadeUp k (build 16 (λ i. get_or o i 0)) t key) (build-get_or 16 t 0 m)
    (subst (λ key. MadeUp k (build 16 (λ i. get_or o i 0)) (build 16 (λ i. get_or t i 0)) key)
    (build-get_or 16 key 0 n)
    (made_up_on_lanes k small (λ i. get_or o i 0) (λ i. get_or t i 0) (λ i. get_or key i 0))))

-- how many ShiftRows are left out before round n is how many are after round n - 1
pub deferred_before_round : (n : ℕ) → 1 ≤ n → before (n % 4) ≡ (n - 1) % 4
deferred_before_round n some = omega arith

-- a round is the standard's of what the bytes stand for in their places
pub deferred_is : (n : ℕ) (x key : List ℕ) {o t : List ℕ} → 1 ≤ n → IsBlock x → length key ≡ 16
    → o ≡ map by_1 x → t ≡ map by_2 x
    → shift_times (n % 4) (map untower (mixed_at (n % 4) o t key))
    ≡ add_round_key (mix_columns (shift_rows (sub_bytes
    (shift_times ((n - 1) % 4) (map untower x)))))
    (shift_times (n % 4) (map key_untower key))
deferred_is n x key some block long is_o is_t =
    let k : ℕ = n % 4 in
    let small : k < 4 = omega arith in
    let l : length x ≡ 16 = block.0 in
    let a : List ℕ = map by_1 x in
    let b : List ℕ = map by_2 x in
    let sum : List ℕ = mixed_at k a b key in
    let y : List ℕ = shift_times (before k) x in
    let made = made_up k a b key small (length-map x by_1 ∙ l) (length-map x by_2 ∙ l) long in
    (λ i. shift_times k (map untower (mixed_at k (is_o i) (is_t i) key)))
    ∙ sym (times_map untower k sum made.1)
    ∙ ap (map untower) (made.0
    ∙ (λ i. mixed_of (sym (times_map by_1 (before k) x l) i) (sym (times_map by_2 (before k) x l) i)
    (shift_times k key)))
    ∙ round_is y (shift_times k key) (times_block (before k) x block)
    (length-shift_times k key long) refl refl
    ∙ (λ i. add_round_key (mix_columns (shift_rows (sub_bytes
    ((times_map untower (before k) x l ∙ ap (λ m. shift_times m (map untower x)) (deferred_before_round n some))
    i)))) (times_map key_untower k key long i))

-- ---- the last round

-- the lanes of the last round are those of its own ShiftRows after all that were left out
made_up_last : (k : ℕ) → k < 4 → (p : List ℕ) → length p ≡ 16
    → permuted p (places_in SHIFTED_ROWS k) ≡ permuted (shift_times (before k) p) (places_in SHIFTED_ROWS 1)
unfolding build state shift_rows shift_times
made_up_last = by_four (λ k. (p : List ℕ) → length p ≡ 16
    → permuted p (places_in SHIFTED_ROWS k)
    ≡ permuted (shift_times (before k) p) (places_in SHIFTED_ROWS 1))
    (same_on_block (λ p. permuted p (places_in SHIFTED_ROWS 0))
    (λ p. permuted (shift_times 3 p) (places_in SHIFTED_ROWS 1)) (λ f. refl))
    (same_on_block (λ p. permuted p (places_in SHIFTED_ROWS 1))
    (λ p. permuted (shift_times 0 p) (places_in SHIFTED_ROWS 1)) (λ f. refl))
    (same_on_block (λ p. permuted p (places_in SHIFTED_ROWS 2))
    (λ p. permuted (shift_times 1 p) (places_in SHIFTED_ROWS 1)) (λ f. refl))
    (same_on_block (λ p. permuted p (places_in SHIFTED_ROWS 3))
    (λ p. permuted (shift_times 2 p) (places_in SHIFTED_ROWS 1)) (λ f. refl))

-- the last round is the standard's of what the bytes stand for in their places
pub deferred_last_is : (n : ℕ) (x key : List ℕ) {p : List ℕ} → 1 ≤ n → IsBlock x
    → length key ≡ 16
    → p ≡ map plain_sbox x → zip2 bit_xor (permuted p (places_in SHIFTED_ROWS (n % 4))) key
    ≡ add_round_key (shift_rows (sub_bytes (shift_times ((n - 1) % 4) (map untower x))))
    (map plus63 key)
deferred_last_is n x key some block long is_p =
    let k : ℕ = n % 4 in
    let l : length x ≡ 16 = block.0 in
    (λ i. zip2 bit_xor (permuted (is_p i) (places_in SHIFTED_ROWS k)) key)
    ∙ (λ i. zip2 bit_xor
    (made_up_last k (omega arith) (map plain_sbox x) (length-map x plain_sbox ∙ l) i) key)
    ∙ (λ i. last_sum_of (sym (times_map plain_sbox (before k) x l) i) key)
    ∙ last_round_is (shift_times (before k) x) key (times_block (before k) x block) long refl
    ∙ (λ i. add_round_key (shift_rows (sub_bytes
    ((times_map untower (before k) x l ∙ ap (λ m. shift_times m (map untower x)) (deferred_before_round n some))
    i))) (map plus63 key))
