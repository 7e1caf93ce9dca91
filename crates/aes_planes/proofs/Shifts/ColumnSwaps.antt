-- Swaps of bits under a mask, column by column.
use Rattle.std.proofs.Common.{◌≡◌, ℕ, zero, suc, ◌+◌, ◌-◌, ◌*◌, ◌/◌, ◌%◌, ◌<◌, ◌≤◌, Bool, true}
use Rattle.std.proofs.Common.{false, cond, ◌&&◌, ◌||◌, not, nat_le, nat_lt, List, [], ◌∷◌, length}
use Rattle.std.proofs.Common.{get_or, map, refl, ap, sym, ◌∙◌, ◌⊎◌, inl, inr, arith}
use Rattle.std.proofs.Common.{mul-le-mul_right}
use Rattle.std.proofs.Math.Bool.{and-false}
use Rattle.std.proofs.lemmas.Bool.{cases_lt, le-leb, lt-leb, lt-ltb, ltb-true, and_parts, not-true}
use Rattle.std.proofs.lemmas.Bool.{false_from_ne_true, cond_both}
use Rattle.std.proofs.lemmas.Nat.{mul-add-lt}
use Rattle.aes_planes.specs.Bits.{at, bit, xor, IsShape, Places}
use Rattle.aes_planes.specs.Fips197.{state, build, shift_rows, inv_shift_rows, shift_times}
use Rattle.aes_planes.specs.Fips197.{inv_shift_times}
use Rattle.aes_planes.specs.Planes.{held, held_byte, place}
use Rattle.aes_planes.specs.Private.Swaps.{moved_bit, swapped_bit, source, is_swap_at}
use Rattle.aes_planes.specs.Private.Swaps.{columns_swapped}
use Rattle.aes_planes.proofs.Standard.States.{byte_at-state, state_same}
use Rattle.aes_planes.proofs.Bits.BitCases.{swapped}
use Rattle.aes_planes.proofs.Bits.ByteCases.{all_below, all_pairs_tell}
use Rattle.aes_planes.proofs.Planes.Held.{place_lt, column_of, stepped_held, held_byte_lt, held_bit}
use Rattle.aes_planes.proofs.Planes.Held.{held_is}
use Rattle.std.proofs.lemmas.Simd.{map-map}
use Rattle.aes_planes.proofs.Lists.{map-ext}
use lib.Arith.{digits_div}

-- ---- by rows and columns, where the mask has a nibble for each row

module _ {A : Type 0} {bits : A → List Bool} {n B R H Q N S : ℕ}
    (shape : IsShape bits n B R H Q N S) where
  -- a nibble for each row, read at a place
  pub row_mask : (r c k : ℕ) (nibbles : List ℕ) (mask : List Bool) → r < 4 → c < 4 → k < n
      → Places B mask (λ i. bit (get_or nibbles (i / R) 0) (i % R / Q))
      → at mask (place n r c k) ≡ bit (get_or nibbles r 0) c
  row_mask r c k nibbles mask h l kn reads =
      let x : c * n + k < 4 * n = omega (arith, mul-add-lt c n k 4 l kn) in
      let p = place n r c k in
      let b : p < B = omega (arith, shape.sixteen, place_lt n r c k h l kn) in
      let row : p / R ≡ r = ap (λ v. p / v) shape.four ∙ digits_div r x in
      let column : p % R / Q ≡ c = column_of n R Q r c k shape.four shape.one h l kn in
      reads p b ∙ (λ t. bit (get_or nibbles (row t) 0) (column t))

-- f of the number that two tests choose is the value that they choose
value_of_choice : (b q : Bool) (f : ℕ → Bool) (u v x : ℕ)
    → cond b (f u) (cond q (f v) (f x)) ≡ f (cond b u (cond q v x))
value_of_choice true q f u v x = refl
value_of_choice false true f u v x = refl
value_of_choice false false f u v x = refl

-- what a mask lets through, where two bits are the same under it
same_under_mask : (p q m : Bool) → (m ≡ true → p ≡ q) → (p && m) ≡ (q && m)
same_under_mask p q true e = ap (λ v. v && true) (e refl)
same_under_mask p q false e = and-false p ∙ sym (and-false q)

module _ (d : ℕ) (nibbles : List ℕ) (ok : (r c : ℕ) → r < 4 → c < 4
    → is_swap_at d nibbles r c ≡ true) where
  -- whether a column is named in a row
  abbrev is_named : ℕ → ℕ → Bool
  is_named r c = bit (get_or nibbles r 0) c

  -- a named column has one to swap with in its row
  partner_in_row : (r c : ℕ) → r < 4 → c < 4 → is_named r c ≡ true → c + d < 4
  partner_in_row r c h l e =
      let t : (not (is_named r c) || nat_lt (c + d) 4) ≡ true = (and_parts _ _ (ok r c h l)).0 in
      ltb-true (c + d) 4 (rw e at t)

  -- no column is named on both sides of a swap, so no bit moves twice
  named_once : (r c : ℕ) → r < 4 → c < 4 → (is_named r c && (nat_le d c && is_named r (c - d))) ≡ false
  named_once r c h l = not-true _ (and_parts _ _ (ok r c h l)).1

  -- a column below 4 is swapped with a column below 4
  source_lt : (r c : ℕ) → r < 4 → c < 4 → source d nibbles r c < 4
  source_lt r c h l = cond_both (is_named r c) _ _ (λ v. v < 4) (partner_in_row r c h l)
      (λ t. cond_both (nat_le d c && is_named r (c - d)) (c - d) c (λ v. v < 4)
      (λ u. omega arith) (λ u. l))

  -- the state of bytes read at swapped columns is the state of the bytes, with its columns swapped
  columns_swapped-state : (f : ℕ → ℕ → ℕ) → state (λ r c. f r (source d nibbles r c))
      ≡ columns_swapped d nibbles (state f)
  unfolding columns_swapped
  columns_swapped-state f =
      state_same _ _ (λ r c h l. sym
      (byte_at-state f r (source d nibbles r c) h (source_lt r c h l)))

  module _ (n k : ℕ) (a mask : List Bool) (kn : k < n)
      (masked : (r c : ℕ) → r < 4 → c < 4 → at mask (place n r c k) ≡ is_named r c) where
    own_bit : ℕ → ℕ → Bool
    own_bit r c = at a (place n r c k)

    moves_at : ℕ → Bool
    moves_at = moved_bit (16 * n) a mask (d * n)

    -- a named column and its partner differ where bits move
    moved_at : (r c : ℕ) → r < 4 → c < 4 → moves_at (place n r c k)
        ≡ (xor (own_bit r c) (own_bit r (c + d)) && is_named r c)
    unfolding moves_at own_bit
    moved_at r c h l =
        let up : Bool = nat_lt (place n r c k + d * n) (16 * n) && at a (place n r c k + d * n) in
        ap (λ m. xor (own_bit r c) up && m) (masked r c h l) ∙ same_under_mask _ _ (is_named r c) (λ t.
        let s = partner_in_row r c h l t in
        let p : place n r c k + d * n ≡ place n r (c + d) k = omega arith in
        ap (xor (own_bit r c)) (ap (λ v. nat_lt v (16 * n) && at a v) p
        ∙ ap (λ v. v && own_bit r (c + d)) (lt-ltb _ _ (place_lt n r (c + d) k h s kn))))

    -- no bit moves into a column below d
    none_below : (r c : ℕ) → r < 4 → c < d → d < 4
        → (nat_le (d * n) (place n r c k) && moves_at (place n r c k - d * n))
        ≡ false
    none_below zero c h l dl =
        let m : suc c * n ≤ d * n = mul-le-mul_right n l in
        ap (λ v. v && moves_at (place n 0 c k - d * n)) (lt-leb (d * n) (place n 0 c k) (omega arith))
    none_below (suc r) c h l dl =
        let e : ℕ = c + 4 - d in
        let p : (c + 4) * n ≡ (e + d) * n = ap (λ v. v * n) (omega arith) in
        let j : place n (suc r) c k - d * n ≡ place n r e k = omega arith in
        let f : is_named r e ≡ false = false_from_ne_true _
        (λ t. let s = partner_in_row r e (omega arith) (omega arith) t in omega arith) in
        ap (λ v. nat_le (d * n) (place n (suc r) c k) && v)
        (ap moves_at j ∙ moved_at r e (omega arith) (omega arith)
        ∙ ap (λ v. xor (own_bit r e) (own_bit r (e + d)) && v) f ∙ and-false _) ∙ and-false _

    -- the bits that move into a column from d on are those of the column d below
    moved_up : (r c : ℕ) → r < 4 → c < 4 → d < 4 → (c < d) ⊎ (d ≤ c)
        → (nat_le (d * n) (place n r c k) && moves_at (place n r c k - d * n))
        ≡ (xor (own_bit r (c - d)) (own_bit r c) && (nat_le d c && is_named r (c - d)))
    moved_up r c h l dl (inl lt) = none_below r c h lt dl
        ∙ sym (ap (λ v. xor (own_bit r (c - d)) (own_bit r c) && (v && is_named r (c - d))) (lt-leb d c lt)
        ∙ and-false _)
    moved_up r c h l dl (inr le) =
        let m : c * n ≡ (c - d + d) * n = ap (λ v. v * n) (omega arith) in
        let j : place n r c k - d * n ≡ place n r (c - d) k = omega arith in
        let e : c - d + d ≡ c = omega arith in
        (λ t. le-leb (d * n) (place n r c k) (omega arith) t
        && (ap moves_at j ∙ moved_at r (c - d) h (omega arith)
        ∙ ap (λ v. xor (own_bit r (c - d)) (own_bit r v) && is_named r (c - d)) e) t)
        ∙ ap (λ v. xor (own_bit r (c - d)) (own_bit r c) && (v && is_named r (c - d))) (sym (le-leb d c le))

    -- after a swap of bits under the mask each place has the bit of the column that its column is
    -- swapped with
    swapped_rc : (r c : ℕ) → r < 4 → c < 4 → d < 4
        → swapped_bit (16 * n) a mask (d * n) (place n r c k)
        ≡ at a (place n r (source d nibbles r c) k)
    unfolding moves_at own_bit
    swapped_rc r c h l dl =
        (λ t. xor (xor (own_bit r c) (moved_at r c h l t)) (moved_up r c h l dl (cases_lt c d) t))
        ∙ swapped (own_bit r c) (own_bit r (c + d)) (own_bit r (c - d)) (is_named r c) _ (named_once r c h l)
        ∙ value_of_choice (is_named r c) (nat_le d c && is_named r (c - d)) (own_bit r) (c + d) (c - d) c

-- ---- eight words

-- eight words swapped under the mask hold the old blocks with those columns swapped
pub swapped_held : {A : Type 0} {bits : A → List Bool} {n B R H Q N S s : ℕ} {xs ys : List A}
    (shape : IsShape bits n B R H Q N S) (mask : List Bool) (new : List A) (z : A) (d : ℕ)
    (nibbles : List ℕ) → d < 4
    → s ≡ d * n
    → ((r c : ℕ) → r < 4 → c < 4 → is_swap_at d nibbles r c ≡ true)
    → Places B mask (λ i. bit (get_or nibbles (i / R) 0) (i % R / Q)) → xs ≡ ys → length new ≡ 8
    → length ys ≡ 8
    → ((p : ℕ) → p < 8
    → Places B (bits (get_or new p z)) (swapped_bit B (bits (get_or ys p z)) mask s))
    → held n (map bits new) ≡ map (columns_swapped d nibbles) (held n (map bits xs))
swapped_held {bits = bits} {n = n} {B = B}
    {ys = ys} shape mask new z d nibbles dl es ok masked same ln ly swaps =
    stepped_held (columns_swapped d nibbles) (λ f r c. f r (source d nibbles r c)) n (map bits new)
    (map bits ys)
    (λ k. columns_swapped-state d nibbles ok (λ r c. held_byte (map bits ys) (place n r c k)))
    (λ r c k h m kn.
    let i = place n r c k in
    let read = λ (r c : ℕ) (h : r < 4) (m : c < 4). row_mask shape r c k nibbles mask h
    m kn masked in
    held_is bits new z i _ ln
    (held_byte_lt bits ys ly (place n r (source d nibbles r c) k)) (λ p hp.
    let x = bits (get_or ys p z) in
    swaps p hp i (omega (arith, shape.sixteen, place_lt n r c k h m kn))
    ∙ (λ t. swapped_bit (shape.sixteen t) x mask (es t) i)
    ∙ swapped_rc d nibbles ok n k x mask kn read r c h m dl ∙ sym (held_bit bits ys z ly _ p hp)))
    ∙ ap (λ ys. map (columns_swapped d nibbles) (held n (map bits ys))) (sym same)

-- ---- the swaps of the shifts

-- the columns that are exchanged with those two on, for one ShiftRows, as a nibble a row
abbrev pub two_apart_1 : List ℕ
two_apart_1 = 0 ∷ 1 ∷ 3 ∷ 2 ∷ []

-- the columns that are exchanged with those two on, for two ShiftRows, as a nibble a row
abbrev pub two_apart_2 : List ℕ
two_apart_2 = 0 ∷ 3 ∷ 0 ∷ 3 ∷ []

-- the columns that are exchanged with those two on, for three ShiftRows, as a nibble a row
abbrev pub two_apart_3 : List ℕ
two_apart_3 = 0 ∷ 2 ∷ 3 ∷ 1 ∷ []

-- the columns that are exchanged with their neighbours, for one ShiftRows and for three, as a
-- nibble a row
abbrev pub pairs : List ℕ
pairs = 0 ∷ 5 ∷ 0 ∷ 5 ∷ []

-- the partner of each column of `two_apart_1` is in its row and is not named itself
pub two_apart_1_swap : (r c : ℕ) → r < 4 → c < 4 → is_swap_at 2 two_apart_1 r c ≡ true
unfolding all_below bit
two_apart_1_swap = all_pairs_tell 4 4 (is_swap_at 2 two_apart_1) refl

-- the partner of each column of `two_apart_2` is in its row and is not named itself
pub two_apart_2_swap : (r c : ℕ) → r < 4 → c < 4 → is_swap_at 2 two_apart_2 r c ≡ true
unfolding all_below bit
two_apart_2_swap = all_pairs_tell 4 4 (is_swap_at 2 two_apart_2) refl

-- the partner of each column of `two_apart_3` is in its row and is not named itself
pub two_apart_3_swap : (r c : ℕ) → r < 4 → c < 4 → is_swap_at 2 two_apart_3 r c ≡ true
unfolding all_below bit
two_apart_3_swap = all_pairs_tell 4 4 (is_swap_at 2 two_apart_3) refl

-- the partner of each column of `pairs` is in its row and is not named itself
pub pairs_swap : (r c : ℕ) → r < 4 → c < 4 → is_swap_at 1 pairs r c ≡ true
unfolding all_below bit
pairs_swap = all_pairs_tell 4 4 (is_swap_at 1 pairs) refl

-- one ShiftRows of each block swaps columns two apart and then neighbours
pub shifted_1 : (bs : List (List ℕ))
    → map (shift_times 1) bs ≡ map (columns_swapped 1 pairs)
    (map (columns_swapped 2 two_apart_1) bs)
unfolding columns_swapped build shift_times shift_rows bit
shifted_1 bs = sym (map-map (columns_swapped 1 pairs) (columns_swapped 2 two_apart_1) bs
    ∙ map-ext _ _ bs (λ s. refl))

-- two ShiftRows of each block swap columns two apart
pub shifted_2 : (bs : List (List ℕ)) → map (shift_times 2) bs
    ≡ map (columns_swapped 2 two_apart_2) bs
unfolding columns_swapped build shift_times shift_rows bit
shifted_2 bs = map-ext _ _ bs (λ s. refl)

-- three ShiftRows of each block swap columns two apart and then neighbours
pub shifted_3 : (bs : List (List ℕ))
    → map (shift_times 3) bs ≡ map (columns_swapped 1 pairs)
    (map (columns_swapped 2 two_apart_3) bs)
unfolding columns_swapped build shift_times shift_rows bit
shifted_3 bs = sym (map-map (columns_swapped 1 pairs) (columns_swapped 2 two_apart_3) bs
    ∙ map-ext _ _ bs (λ s. refl))

-- three ShiftRows are one InvShiftRows
pub shifted_back_1 : (s : List ℕ) → shift_times 3 s ≡ inv_shift_times 1 s
unfolding shift_times shift_rows inv_shift_times inv_shift_rows build
shifted_back_1 s = refl

-- two ShiftRows are two InvShiftRows
pub shifted_back_2 : (s : List ℕ) → shift_times 2 s ≡ inv_shift_times 2 s
unfolding shift_times shift_rows inv_shift_times inv_shift_rows build
shifted_back_2 s = refl

-- one ShiftRows is three InvShiftRows
pub shifted_back_3 : (s : List ℕ) → shift_times 1 s ≡ inv_shift_times 3 s
unfolding shift_times shift_rows inv_shift_times inv_shift_rows build
shifted_back_3 s = refl
