-- The words of the key schedule: their recursion, and the round keys that they make.
use Rattle.std.proofs.Common.{◌≡◌, ℕ, zero, suc, ◌+◌, ◌-◌, ◌*◌, ◌<◌, nat_lt, true, false, List, []}
use Rattle.std.proofs.Common.{◌∷◌, length, get_or, slice_index, refl, ap, sym, ◌∙◌, length-append}
use Rattle.std.proofs.Common.{arith}
use Rattle.std.proofs.Math.ListN.{get_or-append}
use Rattle.std.proofs.Math.Seq.{get_or-append_seam}
use Rattle.aes_planes.specs.Fips197.{state, key_expansion, rounds, key_words, added_word}
use Rattle.aes_planes.specs.Fips197.{next_word_if, expanded_words, expanded_word, blocks_of_words}
use Rattle.aes_planes.specs.Fips197.{round_key, key_word, add_words}
use Rattle.aes_planes.proofs.Lists.{get_or-build}
use Rattle.aes_planes.proofs.Standard.States.{state_same}

module _ (key : List ℕ) where
  -- the expansion to n words has n
  length-expanded_words : (n : ℕ) → length (expanded_words key n) ≡ n
  unfolding expanded_words
  length-expanded_words zero = refl
  length-expanded_words (suc n) =
      let l = length-expanded_words n in
      omega (
        arith,
        length-append (expanded_words key n)
            (next_word_if (nat_lt n (key_words key)) key (expanded_words key n) n ∷ []),
      )

  -- word i is the same in every longer list
  word_kept : (d i : ℕ) → get_or (expanded_words key (suc i + d)) i [] ≡ expanded_word key i
  unfolding expanded_words expanded_word
  word_kept zero i = let e : suc i + 0 ≡ i + 1 = omega arith in
      ap (λ v. get_or (expanded_words key v) i []) e
  word_kept (suc d) i =
      let e : suc i + suc d ≡ suc (suc i + d) = omega arith in
      ap (λ v. get_or (expanded_words key v) i []) e
      ∙ get_or-append (expanded_words key (suc i + d))
      (next_word_if (nat_lt (suc i + d) (key_words key)) key
      (expanded_words key (suc i + d)) (suc i + d) ∷ []) [] i
      (let l = length-expanded_words (suc i + d) in omega arith)
      ∙ word_kept d i

  -- word i is the same however many words further the key schedule has come
  expanded_at : (n i : ℕ) → i < n → get_or (expanded_words key n) i [] ≡ expanded_word key i
  expanded_at n i lt =
      let e : n ≡ suc i + (n - suc i) = omega arith in
      ap (λ v. get_or (expanded_words key v) i []) e
      ∙ word_kept (n - suc i) i

  -- word i as the recursion makes it of those before
  word_is : (i : ℕ) → expanded_word key i ≡ next_word_if (nat_lt i (key_words key)) key
      (expanded_words key i) i
  unfolding expanded_word expanded_words
  word_is i = let e : i + 1 ≡ suc i = omega arith in
      ap (λ v. get_or (expanded_words key v) i []) e
      ∙ ap (λ v. get_or (expanded_words key (suc i)) v []) (sym (length-expanded_words i))
      ∙ get_or-append_seam (expanded_words key i)
      (next_word_if (nat_lt i (key_words key)) key (expanded_words key i) i)
      [] []

  -- from word Nk on, a word is the one Nk words before and what 5.2 adds of the word before
  pub expanded_word_next : (i : ℕ) → nat_lt i (key_words key) ≡ false → 0 < key_words key → 0 < i
      → expanded_word key i ≡ add_words (expanded_word key (i - key_words key))
      (added_word (key_words key) i (expanded_word key (i - 1)))
  unfolding next_word_if
  expanded_word_next i late p q =
      word_is i ∙ ap (λ v. next_word_if v key (expanded_words key i) i) late
      ∙ (λ j. add_words (expanded_at i (i - key_words key) (omega arith) j)
      (added_word (key_words key) i (expanded_at i (i - 1) (omega arith) j)))

  -- the first Nk words are those of the key
  pub expanded_word_key : (i : ℕ) → nat_lt i (key_words key) ≡ true
      → expanded_word key i ≡ key_word key i
  unfolding next_word_if
  expanded_word_key i early = word_is i
      ∙ ap (λ v. next_word_if v key (expanded_words key i) i) early

  -- round key j is words 4 j to 4 j + 3
  pub round_key_words : (j : ℕ) → j < rounds key + 1
      → round_key (key_expansion key) j ≡ state
      (λ r c. slice_index (expanded_word key (4 * j + c)) r)
  unfolding key_expansion blocks_of_words
  round_key_words j lt =
      get_or-build (rounds key + 1) j _ [] lt
      ∙ state_same _ _ (λ r c h k. ap (λ v. slice_index v r)
      (expanded_at (4 * (rounds key + 1)) (4 * j + c) (omega (arith, lt, k))))
