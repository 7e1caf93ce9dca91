-- The columns of a round key, summed from left to right: in bits, in bytes and in blocks.
use Rattle.std.proofs.Common.{◌≡◌, ℕ, zero, suc, ◌+◌, ◌-◌, ◌*◌, ◌%◌, ◌<◌, ◌≤◌, ◌&&◌, ◌||◌, nat_le}
use Rattle.std.proofs.Common.{nat_lt, cond, Bool, true, false, List, [], ◌∷◌, length, get_or, map}
use Rattle.std.proofs.Common.{refl, ap, sym, ◌∙◌, arith}
use Rattle.aes_planes.proofs.Bits.BitCases.{xor_false}
use Rattle.std.proofs.Math.Bool.{or-false}
use Rattle.std.proofs.lemmas.Bool.{le-leb, lt-ltb, cond_both, cond-true, cond-false}
use Rattle.aes_planes.specs.Bits.{at, xor, bit, IsShape}
use Rattle.aes_planes.specs.Fips197.{field_add, byte_at, state}
use Rattle.aes_planes.specs.Planes.{held, held_byte, place, zip_with, words_at, fold_to}
use Rattle.aes_planes.specs.Planes.{columns_summed, columns_straddled}
use Rattle.aes_planes.proofs.Standard.States.{byte_at-state, state_same}
use Rattle.aes_planes.proofs.Bits.ByteCases.{by_four}
use Rattle.aes_planes.proofs.Planes.Held.{build-ext, zip_with-build, row_on, place_lt, held_byte_lt}
use Rattle.aes_planes.proofs.Planes.Held.{held_bit, held_is}
use Rattle.aes_planes.proofs.Bits.NumberBits.{bit_of_xor}
use Rattle.aes_planes.proofs.Standard.FieldLaws.{field_add_byte}
use Rattle.aes_planes.proofs.Planes.EightWords.{length-words_at, get_or-words_at}

-- ---- one plane

-- a bit that a shift to the left brings from below
brought_up : (rk : List Bool) (s p q : ℕ) → s ≤ p → p - s ≡ q
    → (nat_le s p && at rk (p - s)) ≡ at rk q
brought_up rk s p q h e = ap (λ v. v && at rk (p - s)) (le-leb s p h) ∙ ap (at rk) e

-- a bit that a shift to the right brings from above
brought_down : (x : List Bool) (p s q B : ℕ) → p + s ≡ q → q < B
    → (nat_lt (p + s) B && at x (p + s)) ≡ at x q
brought_down x p s q B e h = ap (λ v. nat_lt v B && at x v) e ∙ ap (λ v. v && at x q) (lt-ltb q B h)

-- the sum of bits is associative
xor_inward : (x y z : Bool) → xor (xor x y) z ≡ xor x (xor y z)
xor_inward true true true = refl
xor_inward true true false = refl
xor_inward true false z = refl
xor_inward false y z = refl

-- a word, plus what a mask lets through of it a column up, plus what another mask lets through of
-- that sum two columns up
module _ (n B ror r k : ℕ) (before here first pairs out : List Bool)
    (firsts : (c : ℕ) → c < 4 → at first (place n r c k)
    ≡ xor (at before (place n r c k)) (bit 1 c && at here ((place n r c k + ror) % B)))
    (seconds : (c : ℕ) → c < 4 → at pairs (place n r c k)
    ≡ xor (at first (place n r c k)) (bit 14 c
    && (nat_le n (place n r c k) && at first (place n r c k - n))))
    (outs : (c : ℕ) → c < 4 → at out (place n r c k) ≡ xor (at pairs (place n r c k))
    (bit 12 c && (nat_le (2 * n) (place n r c k) && at pairs (place n r c k - 2 * n)))) where
  -- the bit that comes out is the sum of the old bits of its row up to its column and of one bit of
  -- the other word
  pub bit_of_sums : (c : ℕ) → c < 4 → at out (place n r c k)
      ≡ fold_to xor (λ e. at before (place n r e k))
      (at here ((place n r 0 k + ror) % B)) c
  unfolding bit
  bit_of_sums c l =
      let p = λ (c : ℕ). place n r c k in
      let b = λ (c : ℕ). at before (p c) in
      let f0 = firsts 0 (omega arith) in
      let f1 = firsts 1 (omega arith) ∙ xor_false (b 1) in
      let f2 = firsts 2 (omega arith) ∙ xor_false (b 2) in
      let f3 = firsts 3 (omega arith) ∙ xor_false (b 3) in
      let up = brought_up first n in
      let p0 = seconds 0 (omega arith) ∙ xor_false (at first (p 0)) ∙ f0 in
      let p1 = seconds 1 (omega arith)
      ∙ (λ t. xor (f1 t) ((up (p 1) (p 0) (omega arith) (omega arith) ∙ f0) t)) in
      let p2 = seconds 2 (omega arith)
      ∙ (λ t. xor (f2 t) ((up (p 2) (p 1) (omega arith) (omega arith) ∙ f1) t)) in
      let p3 = seconds 3 (omega arith)
      ∙ (λ t. xor (f3 t) ((up (p 3) (p 2) (omega arith) (omega arith) ∙ f2) t)) in
      let up2 = brought_up pairs (2 * n) in
      by_four (λ c. at out (p c) ≡ fold_to xor b (at here ((p 0 + ror) % B)) c)
      (outs 0 (omega arith) ∙ xor_false (at pairs (p 0)) ∙ p0)
      (outs 1 (omega arith) ∙ xor_false (at pairs (p 1)) ∙ p1)
      (outs 2 (omega arith)
      ∙ (λ t. xor (p2 t) ((up2 (p 2) (p 0) (omega arith) (omega arith) ∙ p0) t))
      ∙ xor_inward (b 2) (b 1) _)
      (outs 3 (omega arith)
      ∙ (λ t. xor (p3 t) ((up2 (p 3) (p 1) (omega arith) (omega arith) ∙ p1) t))
      ∙ xor_inward (b 3) (b 2) _) c l

-- what two masks let through of one word two columns down and of another two columns up
pub straddled : (n B r k : ℕ) (left right : List Bool) → B ≡ 16 * n → r < 4 → k < n
    → (c : ℕ) → c < 4
    → ((bit 3 c && (nat_lt (place n r c k + 2 * n) B && at left (place n r c k + 2 * n)))
    || (bit 12 c && (nat_le (2 * n) (place n r c k) && at right (place n r c k - 2 * n))))
    ≡ cond (nat_lt c 2) (at left (place n r (c + 2) k)) (at right (place n r (c - 2) k))
unfolding bit
straddled n B r k left right eB h kn =
    let p = λ (c : ℕ). place n r c k in
    let most = λ (c : ℕ) (l : c < 4). place_lt n r c k h l kn in
    by_four _ (or-false _
    ∙ brought_down left (p 0) (2 * n) (p 2) B (omega arith) (omega (arith, most 2 (omega arith))))
    (or-false _ ∙ brought_down left (p 1) (2 * n) (p 3) B (omega arith)
    (omega (arith, most 3 (omega arith))))
    (brought_up right (2 * n) (p 2) (p 0) (omega arith) (omega arith))
    (brought_up right (2 * n) (p 3) (p 1) (omega arith) (omega arith))

-- ---- a byte of the planes

-- bit m of a sum of bytes is the sum of their bits m
bit_summed : (f : ℕ → ℕ) (y c m : ℕ) → bit (fold_to field_add f y c) m
    ≡ fold_to xor (λ e. bit (f e) m) (bit y m) c
bit_summed f y zero m = bit_of_xor (f 0) y m
bit_summed f y (suc c) m =
    bit_of_xor (f (suc c)) (fold_to field_add f y c) m
    ∙ ap (xor (bit (f (suc c)) m)) (bit_summed f y c m)

-- a sum of bytes is a byte
summed_byte : (f : ℕ → ℕ) (y c : ℕ) → ((e : ℕ) → f e < 256) → y < 256 → fold_to field_add f y c < 256
summed_byte f y zero h k = field_add_byte (f 0) y (h 0) k
summed_byte f y (suc c) h k =
    field_add_byte (f (suc c)) (fold_to field_add f y c) (h (suc c)) (summed_byte f y c h k)

-- sums of equal elements are equal
summed-ext : {A : Type 0} (op : A → A → A) (f g : ℕ → A) (y z : A) (c : ℕ)
    → ((e : ℕ) → e ≤ c → f e ≡ g e) → y ≡ z
    → fold_to op f y c ≡ fold_to op g z c
summed-ext op f g y z zero h e = (λ t. op (h 0 (omega arith) t) (e t))
summed-ext op f g y z (suc c) h e =
    (λ t. op (h (suc c) (omega arith) t) (summed-ext op f g y z c (λ d l. h d (omega arith)) e t))

-- ---- the columns of blocks

-- columns that are summed at every place of the planes are summed in every block
columns_held : (n rows cols : ℕ) (new x y : List (List Bool)) → cols < 4
    → ((r c k : ℕ) → r < 4 → c < 4 → k < n → held_byte new (place n r c k)
    ≡ fold_to field_add (λ e. held_byte x (place n r e k))
    (held_byte y (place n ((r + rows) % 4) cols k)) c)
    → held n new ≡ zip_with (columns_summed rows cols) (held n x) (held n y)
unfolding held columns_summed
columns_held n rows cols new x y lc h =
    build-ext n _ _ (λ k l. state_same _ _ (λ r c i j. h r c k i j l
    ∙ summed-ext field_add _ _ _ _ c
    (λ e le. sym (byte_at-state (λ r c. held_byte x (place n r c k)) r e i
    (omega arith))) (sym
    (byte_at-state (λ r c. held_byte y (place n r c k)) ((r + rows) % 4) cols (omega arith)
    lc))))
    ∙ sym (zip_with-build (columns_summed rows cols) n _ _)

-- a list with an element has a first one: any default will do for what is read inside
first_element : {A : Type 0} (xs : List A) → 0 < length xs → A
first_element [] h = absurd (omega arith)
first_element (x ∷ xs) h = x

-- the last columns of a state and the first of another have the bytes that the states are built of
straddled_bytes : (f g : ℕ → ℕ → ℕ) (r c : ℕ) → r < 4 → c < 4 → cond (nat_lt c 2) (f r (c + 2)) (g r (c - 2))
    ≡ cond (nat_lt c 2) (byte_at (state f) r (c + 2)) (byte_at (state g) r (c - 2))
straddled_bytes f g r c h = by_four (λ c. cond (nat_lt c 2) (f r (c + 2)) (g r (c - 2)) ≡ cond (nat_lt c 2)
    (byte_at (state f) r (c + 2)) (byte_at (state g) r (c - 2)))
    (sym (byte_at-state f r 2 h (omega arith))) (sym (byte_at-state f r 3 h (omega arith)))
    (sym (byte_at-state g r 0 h (omega arith))) (sym (byte_at-state g r 1 h (omega arith))) c

module _ {A : Type 0} {bits : A → List Bool} {n B R H Q N S : ℕ}
    (shape : IsShape bits n B R H Q N S)
    (new x y : List A) (ln : length new ≡ 8) (lx : length x ≡ 8) (ly : length y ≡ 8) where
  -- eight words that are sums of columns, word by word
  pub columns_of_eight : (ror rows cols : ℕ) → rows < 4 → cols < 4 → ror ≡ rows * (4 * n) + cols * n
      → ((m : ℕ) (d : A) (r c k : ℕ) → m < 8 → r < 4 → c < 4 → k < n
      → at (bits (get_or new m d)) (place n r c k)
      ≡ fold_to xor (λ e. at (bits (get_or x m d)) (place n r e k))
      (at (bits (get_or y m d)) ((place n r 0 k + ror) % B)) c)
      → held n (map bits new) ≡ zip_with (columns_summed rows cols) (held n (map bits x))
      (held n (map bits y))
  columns_of_eight ror rows cols hr hc er h =
      let d = first_element new (omega arith) in
      columns_held n rows cols _ _ _ hc (λ r c k i j l.
      let p = place n r c k in
      let q = place n ((r + rows) % 4) cols k in
      let turn : (place n r 0 k + ror) % B ≡ q =
      let e : place n r 0 k + ror ≡ place n r cols k + rows * (4 * n) = omega (arith, er) in
      (λ t. e t % shape.sixteen t) ∙ row_on n r cols k rows i hc l hr in
      held_is bits new d p _ ln (summed_byte _ _ c (λ e. held_byte_lt bits x lx (place n r e k))
      (held_byte_lt bits y ly q)) (λ m lm.
      h m d r c k lm i j l
      ∙ summed-ext xor _ _ _ _ c (λ e le. sym (held_bit bits x d lx (place n r e k) m lm))
      (ap (at (bits (get_or y m d))) turn ∙ sym (held_bit bits y d ly q m lm))
      ∙ sym (bit_summed (λ e. held_byte (map bits x) (place n r e k))
      (held_byte (map bits y) q) c m)))

-- eight words that are the last columns of x and the first of y, word by word
module _ {A : Type 0} (bits : A → List Bool) (n : ℕ) (new x y : List A) (ln : length new ≡ 8)
    (lx : length x ≡ 8)
    (ly : length y ≡ 8) (h : (m : ℕ) (d : A) (r c k : ℕ) → m < 8 → r < 4 → c < 4 → k < n
    → at (bits (get_or new m d)) (place n r c k)
    ≡ cond (nat_lt c 2) (at (bits (get_or x m d)) (place n r (c + 2) k))
    (at (bits (get_or y m d)) (place n r (c - 2) k))) where
  -- what straddles two words in every bit does so in every byte
  straddled_byte : (r c k : ℕ) → r < 4 → c < 4 → k < n
      → held_byte (map bits new) (place n r c k)
      ≡ cond (nat_lt c 2) (held_byte (map bits x) (place n r (c + 2) k))
      (held_byte (map bits y) (place n r (c - 2) k))
  straddled_byte r c k i j l =
      let d = first_element new (omega arith) in
      cond_both (nat_lt c 2) _ _ (λ v. held_byte (map bits new) (place n r c k) ≡ v)
      (λ t. held_is bits new d _ _ ln (held_byte_lt bits x lx _)
      (λ m lt. h m d r c k lt i j l ∙ cond-true _ _ _ t
      ∙ sym (held_bit bits x d lx _ m lt)))
      (λ t. held_is bits new d _ _ ln (held_byte_lt bits y ly _)
      (λ m lt. h m d r c k lt i j l ∙ cond-false _ _ _ t
      ∙ sym (held_bit bits y d ly _ m lt)))

  -- eight words that straddle x and y, bit by bit, hold the last two columns of x's blocks and the
  -- first two of y's
  pub straddled_of_eight : held n (map bits new) ≡ zip_with columns_straddled (held n (map bits x))
      (held n (map bits y))
  unfolding held columns_straddled
  straddled_of_eight = build-ext n _ _ (λ k l. state_same _ _ (λ r c i j. straddled_byte r c k i j l
      ∙ straddled_bytes (λ r c. held_byte (map bits x) (place n r c k))
      (λ r c. held_byte (map bits y) (place n r c k)) r c i j))
      ∙ sym (zip_with-build columns_straddled n _ _)

-- eight words of a list that are sums of columns, word by word
pub columns_of_words : {A : Type 0} {bits : A → List Bool} {n B R H Q N S : ℕ}
    (shape : IsShape bits n B R H Q N S)
    (ror rows cols o back : ℕ) (new old : List A) → length new ≡ length old → o + 8 ≤ length old
    → back ≤ o → rows < 4
    → cols < 4 → ror ≡ rows * (4 * n) + cols * n
    → ((m : ℕ) (d : A) (r c k : ℕ) → m < 8 → r < 4 → c < 4 → k < n
    → at (bits (get_or new (o + m) d)) (place n r c k)
    ≡ fold_to xor (λ e. at (bits (get_or old (o + m - back) d)) (place n r e k))
    (at (bits (get_or old (o + m) d)) ((place n r 0 k + ror) % B)) c)
    → held n (map bits (words_at new o)) ≡ zip_with (columns_summed rows cols)
    (held n (map bits (words_at old (o - back)))) (held n (map bits (words_at old o)))
columns_of_words {bits = bits} {n = n} {B = B} shape ror rows cols o back new old len room
    le hr hc er h =
    columns_of_eight shape (words_at new o) (words_at old (o - back)) (words_at old o)
    (length-words_at new o (omega arith)) (length-words_at old (o - back) (omega arith))
    (length-words_at old o room)
    ror rows cols hr hc er (λ m d r c k lm i j l.
    let s : o + m - back ≡ o - back + m = omega arith in
    ap (λ w. at (bits w) (place n r c k)) (get_or-words_at new o m d lm) ∙ h m d r c k lm i j l
    ∙ summed-ext xor _ _ _ _ c (λ e le. ap (λ v. at (bits (get_or old v d)) (place n r e k)) s
    ∙ ap (λ w. at (bits w) (place n r e k)) (sym (get_or-words_at old (o - back) m d lm)))
    (ap (λ w. at (bits w) ((place n r 0 k + ror) % B)) (sym (get_or-words_at old o m d lm))))
