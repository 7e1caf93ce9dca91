-- A round on a state whose ShiftRows are deferred, with 0x63 left out of the substitution and put
-- into the round keys.
use Rattle.std.proofs.Common.{◌≡◌, ℕ, zero, suc, ◌<◌, List, [], ◌∷◌, length, map, get_or, refl, ap}
use Rattle.std.proofs.Common.{sym, subst, ◌∙◌}
use Rattle.std.proofs.lemmas.List.{length-map}
use Rattle.std.specs.Int.Bits.{xor_assoc, xor_zero_r}
use Rattle.aes_planes.specs.Fips197.{field_add, field_mul, sbox, inv_sbox, byte_at, build, state}
use Rattle.aes_planes.specs.Fips197.{sub_bytes, inv_sub_bytes, shift_rows, inv_shift_rows}
use Rattle.aes_planes.specs.Fips197.{shift_times, inv_shift_times, mix_columns, inv_mix_columns}
use Rattle.aes_planes.specs.Fips197.{add_round_key}
use Rattle.aes_planes.specs.Planes.{plus63, between_shifts}
use Rattle.aes_planes.proofs.Bits.ByteCases.{by_four}
use Rattle.aes_planes.proofs.Lists.{build-get_or}
use Rattle.aes_planes.proofs.Mixing.MixColumns.{mix_block, inv_mix_block, mix_columns_add}
use Rattle.aes_planes.proofs.Mixing.MixColumns.{inv_mix_columns_add}
use Rattle.std.proofs.lemmas.Simd.{map-map}
use Rattle.aes_planes.proofs.Shifts.ColumnSwaps.{shifted_back_3}
use Rattle.aes_planes.proofs.Standard.FieldLaws.{add_swap, add_twice}
use Rattle.aes_planes.proofs.Standard.LinearSteps.{shift_map, inv_sub_shift}
use Rattle.aes_planes.proofs.Standard.Steps.{length-add_round_key, length-inv_shift_rows, length-shift_rows}
use Rattle.aes_planes.proofs.Standard.Steps.{shift_of_inv_shift, inv_shift_of_shift}
use Rattle.aes_planes.proofs.Standard.Steps.{length-shift_times}

-- ---- 0x63 added to each byte

-- 0x63 put back after the substitution
pub with63 : (s : List ℕ) → map plus63 (map (λ b. plus63 (sbox b)) s) ≡ sub_bytes s
unfolding sub_bytes
with63 [] = refl
with63 (b ∷ s) = λ i. add_twice (sbox b) 0x63 i ∷ with63 s i

-- 0x63 put back before the inverse substitution
pub without63 : (s : List ℕ) → map (λ b. inv_sbox (plus63 b)) (map plus63 s) ≡ inv_sub_bytes s
unfolding inv_sub_bytes
without63 [] = refl
without63 (b ∷ s) = λ i. inv_sbox (add_twice b 0x63 i) ∷ without63 s i

-- 0x63 added twice is nothing added
pub plus63_twice : (s : List ℕ) → map plus63 (map plus63 s) ≡ s
plus63_twice [] = refl
plus63_twice (b ∷ s) = λ i. add_twice b 0x63 i ∷ plus63_twice s i

-- the block with 0x63 in each byte
unfoldable all63 : List ℕ
all63 = state (λ r c. 0x63)

-- adding 0x63 to each byte is adding the block with 0x63 in each byte
plus63_sum : (s : List ℕ) → length s ≡ 16 → map plus63 s ≡ add_round_key s all63
unfolding all63 add_round_key
plus63_sum s l = subst (λ (v : List ℕ). map plus63 v ≡ add_round_key v all63) (build-get_or 16 s 0 l) refl

-- a step that is linear and keeps the block of 0x63 passes 0x63 on
passes63 : (step : List ℕ → List ℕ)
    → ((s t : List ℕ) → step (add_round_key s t) ≡ add_round_key (step s) (step t))
    → step all63 ≡ all63 → ((s : List ℕ) → length (step s) ≡ 16)
    → (s : List ℕ) → length s ≡ 16 → step (map plus63 s) ≡ map plus63 (step s)
passes63 step add keeps sized s l =
    ap step (plus63_sum s l) ∙ add s all63 ∙ ap (add_round_key (step s)) keeps
    ∙ sym (plus63_sum (step s) (sized s))

-- MixColumns passes 0x63 on: its rows sum to 1
mix_plus63 : (s : List ℕ) → length s ≡ 16 → mix_columns (map plus63 s) ≡ map plus63 (mix_columns s)
unfolding all63 mix_columns field_mul
mix_plus63 = passes63 mix_columns mix_columns_add refl (λ s. (mix_block s).0)

-- InvMixColumns passes 0x63 on: its rows sum to 1 too
inv_mix_plus63 : (s : List ℕ) → length s ≡ 16
    → inv_mix_columns (map plus63 s) ≡ map plus63 (inv_mix_columns s)
unfolding all63 inv_mix_columns field_mul
inv_mix_plus63 = passes63 inv_mix_columns inv_mix_columns_add refl (λ s. (inv_mix_block s).0)

-- the sum of blocks is associative
add_key_assoc : (s t u : List ℕ) → add_round_key s (add_round_key t u)
    ≡ add_round_key (add_round_key s t) u
unfolding add_round_key
add_key_assoc s t u =
    λ i. state (λ r c. sym (xor_assoc (byte_at s r c) (byte_at t r c) (byte_at u r c)) i)

-- 0x63 added to the bytes of one block of a sum is added to those of the sum
add_plus63 : (s t : List ℕ) → length t ≡ 16
    → add_round_key s (map plus63 t) ≡ map plus63 (add_round_key s t)
add_plus63 s t l =
    ap (add_round_key s) (plus63_sum t l) ∙ add_key_assoc s t all63
    ∙ sym (plus63_sum (add_round_key s t) (length-add_round_key s t))

-- the block of 0x63 added to both blocks of a sum falls out, since twice 0x63 is nothing
sum_of_both63 : (s t : List ℕ) → add_round_key (add_round_key s all63) (add_round_key t all63)
    ≡ add_round_key s t
unfolding all63 add_round_key
sum_of_both63 s t =
    λ i. state (λ r c. (add_swap (byte_at s r c) 0x63 (byte_at t r c) 0x63
    ∙ xor_zero_r (field_add (byte_at s r c) (byte_at t r c))) i)

-- 0x63 in a round key falls out with the 0x63 that the substitution leaves
add_both63 : (s t : List ℕ) → length s ≡ 16 → length t ≡ 16
    → add_round_key (map plus63 s) (map plus63 t) ≡ add_round_key s t
add_both63 s t l m = (λ i. add_round_key (plus63_sum s l i) (plus63_sum t m i)) ∙ sum_of_both63 s t

-- ---- shifts back

-- how many ShiftRows are deferred before a round, by how many are deferred after it
abbrev pub deferred_before : ℕ → ℕ
deferred_before zero = 3
deferred_before (suc k) = k

-- k + 1 shifts back are one shift back and then k
inv_shift_first : (k : ℕ) (s : List ℕ) → inv_shift_times (suc k) s
    ≡ inv_shift_times k (inv_shift_rows s)
unfolding inv_shift_times
inv_shift_first zero s = refl
inv_shift_first (suc k) s = ap inv_shift_rows (inv_shift_first k s)

-- k ShiftRows after k InvShiftRows leave a list of sixteen as it was
pub shift_times_of_inv_shift_times : (k : ℕ) (s : List ℕ) → length s ≡ 16
    → shift_times k (inv_shift_times k s) ≡ s
unfolding shift_times inv_shift_times
shift_times_of_inv_shift_times zero s l = refl
shift_times_of_inv_shift_times (suc k) s l =
    ap (λ v. shift_rows (shift_times k v)) (inv_shift_first k s)
    ∙ ap shift_rows (shift_times_of_inv_shift_times k (inv_shift_rows s) (length-inv_shift_rows s))
    ∙ shift_of_inv_shift s l

-- k InvShiftRows after k ShiftRows leave a list of sixteen as it was
pub inv_shift_times_of_shift_times : (k : ℕ) (s : List ℕ) → length s ≡ 16
    → inv_shift_times k (shift_times k s) ≡ s
unfolding shift_times inv_shift_times
inv_shift_times_of_shift_times zero s l = refl
inv_shift_times_of_shift_times (suc k) s l =
    inv_shift_first k (shift_rows (shift_times k s))
    ∙ ap (inv_shift_times k) (inv_shift_of_shift (shift_times k s) (length-shift_times k s l))
    ∙ inv_shift_times_of_shift_times k s l

-- two shifts forth where one is deferred: three are
pub two_more : (s : List ℕ) → length s ≡ 16
    → shift_times 2 (inv_shift_times 1 s) ≡ inv_shift_times 3 s
unfolding shift_times inv_shift_times
two_more s l = ap shift_rows (shift_of_inv_shift s l) ∙ shifted_back_3 s

-- ---- rounds move each byte to its place, whatever f, g and h make of it

module _ (f g h : ℕ → ℕ) where
  -- a round of the cipher with j deferred after it
  abbrev Forth : ℕ → List ℕ → List ℕ → Type 0
  Forth j s key =
      add_round_key (between_shifts j mix_columns (map f (inv_shift_times (deferred_before j) s)))
      (map g (inv_shift_times j key))
      ≡ inv_shift_times j (add_round_key (mix_columns (shift_rows (map f s))) (map g key))

  -- a round back, with k deferred before it
  abbrev Back : ℕ → List ℕ → List ℕ → Type 0
  Back k s key =
      map f (between_shifts (deferred_before k) inv_mix_columns
      (add_round_key (inv_shift_times k (map h s))
      (map g (inv_shift_times (deferred_before k) key))))
      ≡ inv_shift_times (deferred_before k)
      (map f (inv_mix_columns (add_round_key (map h (inv_shift_rows s)) (map g key))))

  -- what holds of lists of sixteen elements, for any elements
  of_sixteen : (P : List ℕ → List ℕ → Type 0)
      → ((v w : ℕ → ℕ) → P (build 16 v) (build 16 w)) → (s key : List ℕ) → length s ≡ 16
      → length key ≡ 16 → P s key
  of_sixteen P each s key l m = subst (λ (x : List ℕ). P x key) (build-get_or 16 s 0 l)
      (subst (λ (y : List ℕ). P (build 16 (λ i. get_or s i 0)) y) (build-get_or 16 key 0 m)
      (each (λ i. get_or s i 0) (λ i. get_or key i 0)))

  -- a round moves any sixteen elements alike, so one computation for each j suffices
  forth : (j : ℕ) → j < 4 → (s key : List ℕ) → length s ≡ 16 → length key ≡ 16 → Forth j s key
  unfolding mix_columns add_round_key shift_times shift_rows inv_shift_times inv_shift_rows build
  forth j few = of_sixteen (Forth j)
      (λ v w. by_four (λ j. Forth j (build 16 v) (build 16 w)) refl refl refl refl j few)

  -- a round back moves any sixteen elements alike, so one computation for each k suffices
  back : (k : ℕ) → k < 4 → (s key : List ℕ) → length s ≡ 16 → length key ≡ 16 → Back k s key
  unfolding inv_mix_columns add_round_key shift_times shift_rows inv_shift_times inv_shift_rows build
  back k few = of_sixteen (Back k)
      (λ v w. by_four (λ k. Back k (build 16 v) (build 16 w)) refl refl refl refl k few)

-- ---- rounds of the cipher

-- SubBytes without 0x63, as the circuit computes it, and then ShiftRows are the standard's two
-- without 0x63
substituted : (s : List ℕ) → length s ≡ 16
    → shift_rows (map (λ b. plus63 (sbox b)) s) ≡ map plus63 (shift_rows (sub_bytes s))
unfolding sub_bytes
substituted s l = ap shift_rows (sym (map-map plus63 sbox s))
    ∙ shift_map plus63 (map sbox s) (length-map s sbox ∙ l)

-- a round after which j shifts are deferred
pub round_deferred : (j : ℕ) → j < 4 → (s key : List ℕ) → length s ≡ 16 → length key ≡ 16
    → add_round_key
    (between_shifts j mix_columns
    (map (λ b. plus63 (sbox b)) (inv_shift_times (deferred_before j) s)))
    (map plus63 (inv_shift_times j key))
    ≡ inv_shift_times j (add_round_key (mix_columns (shift_rows (sub_bytes s))) key)
round_deferred j few s key l m =
    let x = shift_rows (sub_bytes s) in
    forth (λ b. plus63 (sbox b)) plus63 inv_sbox j few s key l m ∙ ap (inv_shift_times j)
    ((λ i. add_round_key (mix_columns (substituted s l i)) (map plus63 key))
    ∙ ap (λ v. add_round_key v (map plus63 key)) (mix_plus63 x (length-shift_rows (sub_bytes s)))
    ∙ add_both63 (mix_columns x) key (mix_block x).0 m)

-- the last round, on a state of which three shifts are deferred
pub last_deferred : (s key : List ℕ) → length s ≡ 16 → length key ≡ 16
    → add_round_key (map (λ b. plus63 (sbox b)) (inv_shift_times 3 s)) (map plus63 key)
    ≡ add_round_key (shift_rows (sub_bytes s)) key
unfolding shift_times
last_deferred s key l m =
    let f : ℕ → ℕ = λ b. plus63 (sbox b) in
    ap (λ v. add_round_key (map f v) (map plus63 key)) (sym (shifted_back_3 s))
    ∙ ap (λ v. add_round_key v (map plus63 key)) (sym (shift_map f s l) ∙ substituted s l)
    ∙ add_both63 (shift_rows (sub_bytes s)) key (length-shift_rows (sub_bytes s)) m

-- ---- rounds of the inverse cipher, whose substitution takes 0x63 out by itself

-- 0x63 added to the round key and again before the inverse S-box cancel: InvSubBytes of the sum is
-- left
pub inv_start_deferred : (s key : List ℕ) → length key ≡ 16
    → map (λ b. inv_sbox (plus63 b)) (add_round_key s (map plus63 key))
    ≡ inv_sub_bytes (add_round_key s key)
inv_start_deferred s key m = ap (map (λ b. inv_sbox (plus63 b))) (add_plus63 s key m)
    ∙ without63 (add_round_key s key)

-- a round back on a substituted state to which k shifts back are left
pub inv_round_deferred : (k : ℕ) → k < 4 → (s key : List ℕ) → length s ≡ 16 → length key ≡ 16
    → let j = deferred_before k in map (λ b. inv_sbox (plus63 b)) (between_shifts j inv_mix_columns
    (add_round_key (inv_shift_times k (inv_sub_bytes s)) (map plus63 (inv_shift_times j key))))
    ≡ inv_shift_times j
    (inv_sub_bytes (inv_mix_columns (add_round_key (inv_sub_bytes (inv_shift_rows s)) key)))
unfolding inv_sub_bytes
inv_round_deferred k few s key l m =
    let undo : ℕ → ℕ = λ b. inv_sbox (plus63 b) in
    let x : List ℕ = inv_sub_bytes (inv_shift_rows s) in
    back undo plus63 inv_sbox k few s key l m ∙ ap (inv_shift_times (deferred_before k))
    (ap (λ v. map undo (inv_mix_columns v)) (add_plus63 x key m)
    ∙ ap (map undo) (inv_mix_plus63 (add_round_key x key) (length-add_round_key x key))
    ∙ without63 (inv_mix_columns (add_round_key x key)))

-- the last inverse round, on a substituted state to which one shift back is left
pub inv_last_deferred : (s key : List ℕ) → length s ≡ 16
    → add_round_key (inv_shift_times 1 (inv_sub_bytes s)) key
    ≡ add_round_key (inv_sub_bytes (inv_shift_rows s)) key
unfolding inv_shift_times
inv_last_deferred s key l = ap (λ v. add_round_key v key) (inv_sub_shift s l)
