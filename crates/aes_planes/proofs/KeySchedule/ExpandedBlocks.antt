-- The key schedule four words at a time, and the bytes of a key in its first round keys.
use Rattle.std.proofs.Common.{◌≡◌, ◌≢◌, ◌⊎◌, inl, inr, ℕ, zero, suc, ◌+◌, ◌-◌, ◌*◌, ◌/◌, ◌%◌, ◌<◌}
use Rattle.std.proofs.Common.{◌≤◌, nat_lt, List, [], ◌∷◌, ◌++◌, length, take, drop, get_or}
use Rattle.std.proofs.Common.{slice_index, refl, ap, sym, subst, ◌∙◌, arith, length-append}
use Rattle.std.proofs.Common.{length-take, length-drop, get_or-take, get_or-drop}
use Rattle.std.proofs.Math.Nat.{mod-lt}
use Rattle.std.proofs.lemmas.Bool.{le-ltb, lt-ltb, cases_lt, cond_both, ltb-true, ltb-false}
use Rattle.std.proofs.lemmas.Grind.{same_number_lists}
use Rattle.std.proofs.lemmas.List.{get_or_append_left, get_or-append_right, length-take-le}
use Rattle.std.proofs.lemmas.Nat.{mod-mul-add, div-mul-add}
use Rattle.aes_planes.specs.Fips197.{sbox, field_add, byte_at, state, word, add_words, sub_word}
use Rattle.aes_planes.specs.Fips197.{rot_word, sub_bytes, add_round_key, power_of_x, round_constant}
use Rattle.aes_planes.specs.Fips197.{added_word, expanded_word, key_words, key_expansion, rounds}
use Rattle.aes_planes.specs.Fips197.{round_key}
use Rattle.aes_planes.specs.Planes.{constant_block, fold_to, columns_summed, columns_straddled}
use Rattle.aes_planes.proofs.Bits.ByteCases.{by_four}
use Rattle.aes_planes.proofs.KeySchedule.AddedWords.{added_word_constant, added_word_same}
use Rattle.aes_planes.proofs.KeySchedule.AddedWords.{added_word_substituted}
use Rattle.aes_planes.proofs.KeySchedule.ExpandedWords.{expanded_word_key, expanded_word_next}
use Rattle.aes_planes.proofs.KeySchedule.ExpandedWords.{round_key_words}
use Rattle.aes_planes.proofs.Lists.{build-get_or}
use Rattle.aes_planes.proofs.Standard.States.{byte_at-state, state_is, state_same, length-state}

-- ---- blocks of four words

-- the block of the words f 0 to f 3
abbrev pub of_words : (ℕ → List ℕ) → List ℕ
of_words f = state (λ r c. slice_index (f c) r)

-- byte r of the word f 0, .., f 3 is f r
slice_index-word : (f : ℕ → ℕ) (r : ℕ) → r < 4 → slice_index (word f) r ≡ f r
slice_index-word f = by_four (λ r. slice_index (word f) r ≡ f r) refl refl refl refl

-- each word of g is the sum of the word of f there and the word of g before it, and the first takes
-- in a column of y
module _ (rows cols : ℕ) (f g : ℕ → List ℕ) (y : List ℕ)
    (first : g 0 ≡ add_words (f 0) (word (λ r. byte_at y ((r + rows) % 4) cols)))
    (later : (c : ℕ) → c < 3 → g (suc c) ≡ add_words (f (suc c)) (g c)) where
  -- the byte that starts the sums of row r
  start : ℕ → ℕ
  start r = byte_at y ((r + rows) % 4) cols

  -- the sum of columns 0 to c is the word of g there, column by column, each from the one before it
  columns : (r c : ℕ) → r < 4 → c < 4 → fold_to field_add (byte_at (of_words f) r) (start r) c
      ≡ slice_index (g c) r
  unfolding start
  columns r zero h k =
      (λ i. field_add (byte_at-state (λ r c. slice_index (f c) r) r 0 h k i)
      (sym (slice_index-word start r h) i))
      ∙ sym (slice_index-word
      (λ r. field_add (slice_index (f 0) r) (slice_index (word start) r)) r h)
      ∙ ap (λ v. slice_index v r) (sym first)
  columns r (suc c) h k =
      (λ i. field_add (byte_at-state (λ r c. slice_index (f c) r) r (suc c) h k i)
      (columns r c h (omega arith) i))
      ∙ sym (slice_index-word
      (λ r. field_add (slice_index (f (suc c)) r) (slice_index (g c) r)) r h)
      ∙ ap (λ v. slice_index v r) (sym (later c (omega arith)))

  -- the running sums of four words and of a word of y, as blocks, are the sum of columns
  summed_words : columns_summed rows cols (of_words f) y ≡ of_words g
  unfolding columns_summed start
  summed_words = state_same _ _ columns

-- ---- the words of the key expansion

module _ (key : List ℕ) (nk : ℕ) (own : key_words key ≡ nk) (some : 0 < nk) (i b p : ℕ)
    (back : i ≡ b + nk)
    (before : i ≡ suc p) where
  -- the recursion of the key expansion, with the places of both earlier words by name
  word_by_recursion : expanded_word key i ≡ add_words (expanded_word key b)
      (added_word nk i (expanded_word key p))
  word_by_recursion =
      let less : i - key_words key ≡ b = omega (arith, own, back) in
      let one : i - 1 ≡ p = omega (arith, before) in
      expanded_word_next key i (le-ltb i (key_words key) (omega (arith, own, back)))
      (omega (arith, own, some))
      (omega (arith, before))
      ∙ (λ t. add_words (expanded_word key (less t))
      (added_word (own t) i (expanded_word key (one t))))

  -- word j * Nk is the one Nk words before, SubWord of RotWord of the word before and a round
  -- constant, summed
  pub first_word : (j : ℕ) → i ≡ j * nk → expanded_word key i
      ≡ add_words (expanded_word key b)
      (add_words (sub_word (rot_word (expanded_word key p))) (round_constant j))
  first_word j e =
      let at : i ≡ j * nk + 0 = omega arith in
      let none : i % nk ≡ 0 = ap (λ v. v % nk) at ∙ mod-mul-add j nk 0 some in
      let whole : i / nk ≡ j = ap (λ v. v / nk) at ∙ div-mul-add j nk 0 some in
      let w : List ℕ = expanded_word key p in
      word_by_recursion ∙ ap (add_words (expanded_word key b))
      (added_word_constant nk i w none
      ∙ ap (λ v. add_words (sub_word (rot_word w)) (round_constant v)) whole)

-- a word of the key expansion has four bytes
length-expanded_word : (key : List ℕ) (i : ℕ) → 0 < key_words key
    → length (expanded_word key i) ≡ 4
length-expanded_word key i some = elim (cases_lt i (key_words key)) [
  | inl lt ↦ ap length (expanded_word_key key i (lt-ltb i (key_words key) lt))
  | inr ge ↦ ap length (expanded_word_next key i (le-ltb i (key_words key) ge) some (omega arith))
]

-- ---- blocks of four words, of which the first may be any

-- the four words from word o on
abbrev pub words_from : List ℕ → ℕ → List ℕ
words_from key o = of_words (λ c. expanded_word key (o + c))

-- round key j of a key is the four words from word 4 j on
pub round_key_at : (key : List ℕ) (j o : ℕ) → o ≡ 4 * j → j < rounds key + 1
    → round_key (key_expansion key) j
    ≡ words_from key o
round_key_at key j o e lt = round_key_words key j lt ∙ ap (words_from key) (sym e)

-- the last two of four words and the first two of the next four are the four words from the third
-- on
pub straddled_at : (key : List ℕ) (o p m : ℕ) → p ≡ o + 4 → m ≡ o + 2
    → columns_straddled (words_from key o)
    (words_from key p) ≡ words_from key m
unfolding columns_straddled
straddled_at key o p m ep em = state_same _ _ (λ r c h l. cond_both (nat_lt c 2) _ _
    (λ v. v ≡ slice_index (expanded_word key (m + c)) r)
    (λ t. let lt : c < 2 = ltb-true c 2 t in there r (c + 2) h (omega arith) o c (omega arith))
    (λ t. let le : 2 ≤ c = ltb-false c 2 t in there r (c - 2) h (omega arith) p c (omega arith)))
  where
    there : (r c : ℕ) → r < 4 → c < 4 → (q d : ℕ) → q + c ≡ m + d → byte_at (words_from key q) r c
        ≡ slice_index (expanded_word key (m + d)) r
    there r c h l q d e = byte_at-state (λ r c. slice_index (expanded_word key (q + c)) r) r c h l
        ∙ ap (λ v. slice_index (expanded_word key v) r) e

-- ---- sums of columns from a column on

-- with the constant block added, the last column after SubBytes, a row on, is SubWord of RotWord of
-- the last word, and the constant
substituted_column : (f : ℕ → List ℕ) (x : ℕ)
    → word (λ r. byte_at (add_round_key (sub_bytes (of_words f)) (constant_block x))
    ((r + 1) % 4) 3)
    ≡ add_words (sub_word (rot_word (f 3))) (x ∷ 0 ∷ 0 ∷ 0 ∷ [])
unfolding sub_bytes add_round_key constant_block
substituted_column f x = refl

-- column 3 after SubBytes is SubWord of the last word
substituted_plain : (f : ℕ → List ℕ) → length (f 3) ≡ 4
    → word (λ r. byte_at (sub_bytes (of_words f)) ((r + 0) % 4) 3)
    ≡ sub_word (f 3)
unfolding sub_bytes state sbox
substituted_plain f l =
    subst (λ (v : List ℕ). word (λ r. sbox (slice_index (f 3) r)) ≡ sub_word v) (build-get_or 4 (f 3) 0 l)
    refl

-- column 1 as it is, without SubBytes
plain_column : (f : ℕ → List ℕ) (v : List ℕ)
    → add_words v (word (λ r. byte_at (of_words f) ((r + 0) % 4) 1))
    ≡ add_words v (f 1)
unfolding state
plain_column f v = refl

module _ (key : List ℕ) (nk : ℕ) (own : key_words key ≡ nk) (four : 4 ≤ nk) where
  -- a word that needs no substitution; e is its place after a multiple of Nk
  plain_word : (i b p q e : ℕ) → i ≡ q * nk + e → 0 < e → e < nk → (nk ≤ 6) ⊎ (e ≢ 4)
      → i ≡ b + nk → i ≡ suc p
      → expanded_word key i ≡ add_words (expanded_word key b) (expanded_word key p)
  plain_word i b p q e at some lt which back before =
      let left : i % nk ≡ e = ap (λ v. v % nk) at ∙ mod-mul-add q nk e lt in
      word_by_recursion key nk own (omega arith) i b p back before
      ∙ ap (add_words (expanded_word key b))
      (added_word_same nk i (expanded_word key p) (λ z. absurd (omega (arith, left, z, some)))
      (elim which [
        | inl le ↦ inl le
        | inr ne ↦ inr (λ z. ne (sym left ∙ z))
      ]))

  -- four words of which the first is at place e after a multiple of Nk, where the others need no
  -- substitution
  sums_at : (rows cols o m q e : ℕ) (y : List ℕ) → m ≡ o + nk → m ≡ q * nk + e
      → e + 4 ≤ nk → (nk ≤ 6)
      ⊎ ((e ≡ 0) ⊎ (e ≡ 4))
      → expanded_word key m ≡ add_words (expanded_word key o)
      (word (λ r. byte_at y ((r + rows) % 4) cols))
      → columns_summed rows cols (words_from key o) y ≡ words_from key m
  sums_at rows cols o m q e y back at fits which first =
      let o0 : o ≡ o + 0 = omega arith in
      let m0 : m + 0 ≡ m = omega arith in
      summed_words rows cols (λ c. expanded_word key (o + c)) (λ c. expanded_word key (m + c)) y
      (ap (expanded_word key) m0 ∙ first
      ∙ ap (λ v. add_words (expanded_word key v) (word (λ r. byte_at y ((r + rows) % 4) cols))) o0)
      (λ c h. plain_word (m + suc c) (o + suc c) (m + c) q (e + suc c) (omega (arith, at))
      (omega arith) (omega arith)
      (elim which [
        | inl le ↦ inl le
        | inr w ↦ inr (λ z. elim w [
          | inl none ↦ absurd (omega (arith, none, z, h))
          | inr is ↦ absurd
              (omega (arith, is, z))
        ])
      ]) (omega (arith, back)) (omega arith))

  -- the four words from a multiple of Nk on are sums of the four Nk words before and of the last
  -- four, substituted and rotated
  pub first_block : (j o p m : ℕ) → o ≡ j * nk → m ≡ o + nk → m ≡ p + 4
      → columns_summed 1 3 (words_from key o)
      (add_round_key (sub_bytes (words_from key p)) (constant_block (power_of_x j)))
      ≡ words_from key m
  unfolding round_constant
  first_block j o p m at back before =
      let one : suc j - 1 ≡ j = omega arith in
      let next : m ≡ suc j * nk = omega (arith, at, back) in
      let none : m ≡ suc j * nk + 0 = omega (arith, next) in
      sums_at 1 3 o m (suc j) 0 _ back none (omega arith) (inr (inl refl))
      (first_word key nk own (omega arith) m o (p + 3) back (omega arith) (suc j) next
      ∙ ap (add_words (expanded_word key o))
      (ap (λ v. add_words (sub_word (rot_word (expanded_word key (p + 3))))
      (power_of_x v ∷ 0 ∷ 0 ∷ 0 ∷ [])) one
      ∙ sym (substituted_column (λ c. expanded_word key (p + c)) (power_of_x j))))

  -- the four words after the four at a multiple of Nk, where Nk is 8
  pub second_block : (j o p m : ℕ) → nk ≡ 8 → o ≡ j * nk + 4 → m ≡ o + nk → m ≡ p + 4
      → columns_summed 0 3 (words_from key o) (sub_bytes (words_from key p)) ≡ words_from key m
  second_block j o p m eight at back before =
      let spot : m ≡ suc j * nk + 4 = omega (arith, at, back) in
      let left : m % nk ≡ 4 = ap (λ v. v % nk) spot ∙ mod-mul-add (suc j) nk 4 (omega arith) in
      let w : List ℕ = expanded_word key (p + 3) in
      sums_at 0 3 o m (suc j) 4 _ back spot (omega arith) (inr (inr refl))
      (word_by_recursion key nk own (omega arith) m o (p + 3) back (omega arith)
      ∙ ap (add_words (expanded_word key o))
      (added_word_substituted nk m w (λ z. absurd (omega (arith, left, z))) (omega arith) left
      ∙ sym (substituted_plain (λ c. expanded_word key (p + c))
      (length-expanded_word key (p + 3) (omega (arith, own))))))

  -- the four words two after a multiple of Nk, where Nk is 6
  pub last_block : (j o p m : ℕ) → nk ≡ 6 → o ≡ j * nk + 2 → m ≡ o + nk → m ≡ p + 2
      → columns_summed 0 1 (words_from key o) (words_from key p) ≡ words_from key m
  last_block j o p m six at back before =
      let next : m ≡ suc j * nk + 2 = omega (arith, at, back) in
      sums_at 0 1 o m (suc j) 2 _ back next (omega arith) (inl (omega arith))
      (plain_word m o (p + 1) (suc j) 2 next (omega arith) (omega arith) (inl (omega arith)) back
      (omega arith)
      ∙ sym (plain_column (λ c. expanded_word key (p + c)) (expanded_word key o)))

  -- four of the first Nk words are sixteen bytes of the key
  pub key_block : (o p : ℕ) → p ≡ 4 * o → o + 4 ≤ nk → length key ≡ 4 * nk
      → words_from key o ≡ take 16 (drop p key)
  key_block o p at room l =
      let long : length (take 16 (drop p key)) ≡ 16 =
      simp (length-take, length-drop) (omega arith) in
      state_is _ _ long (λ r c h k.
      let place : 4 * (o + c) + r ≡ p + (r + 4 * c) = omega arith in
      ap (λ v. slice_index v r) (expanded_word_key key (o + c)
      (lt-ltb (o + c) (key_words key) (omega (arith, own, k, room))))
      ∙ slice_index-word (λ r. slice_index key (4 * (o + c) + r)) r h
      ∙ ap (slice_index key) place
      ∙ sym (get_or-take 16 (drop p key) (r + 4 * c) 0 (omega arith)
      ∙ get_or-drop p key (r + 4 * c) 0))

-- ---- the bytes of a key in its first round keys

-- each round key of a key has sixteen bytes
pub length-round_key : (key : List ℕ) (i : ℕ) → i < rounds key + 1
    → length (round_key (key_expansion key) i) ≡ 16
length-round_key key i lt = ap length (round_key_words key i lt) ∙ length-state _

module _ (key : List ℕ) (nk : ℕ) (own : key_words key ≡ nk) where
  -- the first nk words are the key's own bytes, so a byte of a round key among them is the key's
  -- byte there
  key_byte : (j i p : ℕ) → j < rounds key + 1 → i < 16 → 4 * j + i / 4 < nk → p ≡ 16 * j + i
      → get_or (round_key (key_expansion key) j) i 0 ≡ get_or key p 0
  key_byte j i p lt h k e =
      let r : ℕ = i % 4 in
      let c : ℕ = i / 4 in
      let four : r < 4 = mod-lt i (omega arith) in
      let place : r + 4 * c ≡ i = omega arith in
      let whole : 4 * (4 * j + c) + r ≡ p = omega (arith, place, e) in
      ap (λ s. get_or s i 0) (round_key_words key j lt)
      ∙ ap (λ v. get_or (of_words (λ c. expanded_word key (4 * j + c))) v 0) (sym place)
      ∙ byte_at-state (λ r c. slice_index (expanded_word key (4 * j + c)) r) r c four
      (omega (arith, h))
      ∙ ap (λ v. slice_index v r) (expanded_word_key key (4 * j + c)
      (lt-ltb (4 * j + c) (key_words key) (omega (arith, own, k))))
      ∙ slice_index-word (λ r. slice_index key (4 * (4 * j + c) + r)) r four
      ∙ ap (λ v. get_or key v 0) whole

  -- a key of at most two blocks stands at the head of its first two round keys
  pub first_bytes : (size : ℕ) → size ≡ 4 * nk → length key ≡ size → 4 ≤ nk → nk ≤ 8
      → take size (round_key (key_expansion key) 0 ++ round_key (key_expansion key) 1) ≡ key
  first_bytes size e l low high =
      let x : List ℕ = round_key (key_expansion key) 0 in
      let y : List ℕ = round_key (key_expansion key) 1 in
      let lx : length x ≡ 16 = length-round_key key 0 (omega arith) in
      let ly : length y ≡ 16 = length-round_key key 1 (omega arith) in
      let sized : length (take size (x ++ y)) ≡ size =
      length-take-le size (x ++ y) (simp length-append (omega arith))
      in
      same_number_lists (take size (x ++ y)) key (sized ∙ sym l) (λ i h.
      let lt : i < size = omega (arith, h, sized) in
      get_or-take size (x ++ y) i 0 lt ∙ elim (cases_lt i 16) [
        | inl low ↦ get_or_append_left x y 0 i (omega (arith, low, lx))
            ∙ key_byte 0 i i (omega arith) low (omega (arith, lt, e)) (omega arith)
        | inr ge ↦
            get_or-append_right x y 16 i 0 lx ge
            ∙ key_byte 1 (i - 16) i (omega arith) (omega (arith, lt, e, high))
            (omega (arith, lt, e, ge))
            (omega (arith, ge))
      ])
