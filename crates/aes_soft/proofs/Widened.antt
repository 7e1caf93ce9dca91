-- Words of one block whose bits stand in every slot of wider words.
use Rattle.std.proofs.Common.{◌≡◌, ℕ, suc, ◌+◌, ◌*◌, ◌/◌, ◌%◌, ◌<◌, Bool, List, [], ◌∷◌, ◌++◌}
use Rattle.std.proofs.Common.{length, map, take, get_or, slice_index, replicate, set, refl, ap, sym}
use Rattle.std.proofs.Common.{subst, ◌∙◌, arith, inl, inr}
use Rattle.std.proofs.lemmas.Bool.{cases_lt}
use Rattle.std.proofs.lemmas.List.{get_or-replicate, length-replicate, get_or-set_same}
use Rattle.std.proofs.lemmas.List.{get_or-set_other}
use Rattle.std.proofs.lemmas.Nat.{mul-add-lt}
use lib.Arith.{digits_div}
use Rattle.aes_planes.specs.Bits.{at, bit, number, IsShape, Places}
use Rattle.aes_planes.specs.Words.{word_bits}
use Rattle.aes_planes.specs.Fips197 as fips
use Rattle.aes_planes.specs.Planes.{held, held_byte, place, plus63, words_at}
use Rattle.aes_planes.proofs.Lists.{build_is, get_or-build}
use Rattle.aes_planes.proofs.Planes.Held.{column_of, place_lt}
use Rattle.std.proofs.lemmas.Simd.{map-map}
use Rattle.aes_planes.proofs.Planes.EightWords.{words_at-map}
use Rattle.aes_planes.proofs.Standard.States.{state_same}
use Rattle.aes_soft.specs.Stored.{HoldsBlocks, first_slot, key_of, IsKeyed}

-- a map of a list and another of numbers are the same if they agree at each place
same_maps : {A C : Type 0} (f : A → C) (g : ℕ → C) (ys : List A) (xs : List ℕ)
    → length ys ≡ length xs
    → ((m : ℕ) (d : A) → m < length xs → f (get_or ys m d) ≡ g (slice_index xs m))
    → map f ys ≡ map g xs
same_maps f g [] [] l h = refl
same_maps f g [] (x ∷ xs) l h = absurd (omega arith)
same_maps f g (y ∷ ys) [] l h = absurd (omega arith)
same_maps f g (y ∷ ys) (x ∷ xs) l h =
    (λ t. h 0 y (omega arith) t ∷ same_maps f g ys xs (omega arith)
    (λ m d lt. h (suc m) d (omega arith)) t)

-- one more member of a list is put, and what holds of it
pub put_more : {A : Type 0} (P : ℕ → A → Type 0) (ys : List A) (i : ℕ) (y : A) → i < length ys
    → ((m : ℕ) (d : A) → m < i → P m (get_or ys m d)) → P i y
    → (m : ℕ) (d : A) → m < i + 1 → P m (get_or (set ys i y) m d)
put_more P ys i y room before here m d lt = elim (cases_lt m i) [
  | inl low ↦ subst (P m) (sym (get_or-set_other ys i m y d (λ e. absurd (omega (arith, e, low)))))
      (before m d low)
  | inr ge ↦ let e : i ≡ m = omega arith in subst (λ m. P m (get_or (set ys i y) m d)) e
      (subst (P i) (sym (get_or-set_same ys i y d room)) here)
]

-- which of sixteen bits stands at a place, where a row has R bits and a column Q
bit_of_place : (n R Q r c k : ℕ) → R ≡ 4 * n → Q ≡ n → r < 4 → c < 4 → k < n
    → 4 * (place n r c k / R) + place n r c
    k % R / Q ≡ r * 4 + c
bit_of_place n R Q r c k eR eQ hr hc hk =
    let x : c * n + k < 4 * n = omega (arith, mul-add-lt c n k 4 hc hk) in
    let row : place n r c k / R ≡ r = ap (λ v. place n r c k / v) eR ∙ digits_div r x in
    omega (arith, row, column_of n R Q r c k eR eQ hr hc hk)

module _ {A : Type 0} (bits : A → List Bool) (w R Q : ℕ) (xs : List ℕ) where
  -- the bits of member m of xs stand in every slot of the word y
  abbrev pub InEverySlot : ℕ → A → Type 0
  InEverySlot m y = Places w (bits y) (λ i. bit (slice_index xs m) (4 * (i / R) + i % R / Q))

  module _ (n h b s : ℕ) (shape : IsShape bits n w R h Q b s) (ys : List A)
      (same_length : length ys ≡ length xs)
      (spread : (m : ℕ) (d : A) → m < length xs → InEverySlot m (get_or ys m d)) where
    abbrev widened : List (List Bool)
    widened = map bits ys

    abbrev narrow : List (List Bool)
    narrow = map (word_bits 16) xs

    -- the block of the one slot
    block : ℕ → List ℕ
    block o = fips.state (λ r c. held_byte (words_at narrow o) (place 1 r c 0))

    same_byte : (o r c k : ℕ) → r < 4 → c < 4 → k < n
        → held_byte (words_at widened o) (place n r c k)
        ≡ held_byte (words_at narrow o) (place 1 r c 0)
    same_byte o r c k hr hc hk =
        let p : ℕ = place n r c k in
        let q : ℕ = place 1 r c 0 in
        let spot : r * 4 + c ≡ q = omega arith in
        ap number
        (sym (words_at-map (λ w. at w p) widened o)
        ∙ ap (λ v. words_at v o)
        (map-map (λ w. at w p) bits ys
        ∙ same_maps (λ y. at (bits y) p) (λ x. at (word_bits 16 x) q) ys xs same_length
        (λ m d lt.
        (spread m d lt) p (omega (arith, shape.sixteen, place_lt n r c k hr hc hk))
        ∙ ap (bit (slice_index xs m))
        (bit_of_place n R Q r c k shape.four shape.one hr hc hk ∙ spot)
        ∙ sym (get_or-build 16 q (bit (slice_index xs m)) _ (omega arith)))
        ∙ sym (map-map (λ w. at w q) (word_bits 16) xs))
        ∙ words_at-map (λ w. at w q) narrow o)

    in_every_slot : (o : ℕ) → held n (words_at widened o) ≡ replicate n (block o)
    unfolding held block
    in_every_slot o = build_is n _ (replicate n (block o)) []
        (length-replicate n (block o)) (λ k lt.
        state_same _ _ (λ r c hr hc. same_byte o r c k hr hc lt)
        ∙ sym (get_or-replicate n k (block o) [] lt))

    in_one_slot : (o : ℕ) → held 1 (words_at narrow o) ≡ block o ∷ []
    unfolding held fips.build fips.build_from block
    in_one_slot o = refl

    same_first_slot : (i : ℕ) → first_slot n widened i ≡ first_slot 1 narrow i
    unfolding first_slot
    same_first_slot i =
        ap (λ v. get_or v 0 []) (in_every_slot (8 * i))
        ∙ get_or-replicate n 0 (block (8 * i)) [] shape.some_block
        ∙ sym (ap (λ v. get_or v 0 []) (in_one_slot (8 * i)))

    -- words with one block in every slot are read as the key that the words of that one block are
    -- read as
    pub same_key : (size : ℕ) (layout : ℕ → ℕ)
        → key_of size n layout widened ≡ key_of size 1 layout narrow
    unfolding key_of
    same_key size layout = λ t. take size
        (same_first_slot 0 t ++ fips.shift_times (layout 1) (map plus63 (same_first_slot 1 t)))

    same_blocks : (count : ℕ) (f : ℕ → List ℕ) → HoldsBlocks 1 count f narrow
        → HoldsBlocks n count f widened
    same_blocks count f holds i lt =
        in_every_slot (8 * i)
        ∙ ap (replicate n) (ap (λ v. get_or v 0 []) (sym (in_one_slot (8 * i)) ∙ holds i lt))

    -- words with one block in every slot are the schedule of the key that they are read as, if the
    -- words of that one block are
    pub widened_keyed : (size : ℕ) (layout : ℕ → ℕ) → IsKeyed size 1 layout narrow
        → IsKeyed size n layout widened
    widened_keyed size layout keyed = rw (same_key size layout) (same_blocks _ _ keyed)
