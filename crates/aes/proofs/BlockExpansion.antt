-- Four words of the key schedule as one block: each step gives the round key of the standard.
use Rattle.std.proofs.Common.{◌≡◌, ℕ, ◌+◌, ◌≤◌, List, [], ◌∷◌, length, replicate, slice_index, ap}
use Rattle.std.proofs.Common.{◌∙◌, arith}
use Rattle.std.proofs.lemmas.List.{ext_get_or}
use Rattle.aes_planes.specs.Fips197 as fips
use Rattle.aes_planes.specs.Planes.{constant_block, fold_to, columns_summed, columns_straddled}
use Rattle.aes.proofs.SingleRounds.{mixing_undone}
use Rattle.aes_planes.proofs.KeySchedule.ExpansionLength.{length-key_expansion}

-- round keys are those of a key, if each is
pub same_round_keys : (key : List ℕ) (keys : List (List ℕ)) (last : ℕ) → last ≡ fips.rounds key
    → length keys ≡ last + 1
    → ((i : ℕ) → i ≤ last → fips.round_key keys i ≡ fips.round_key (fips.key_expansion key) i)
    → keys ≡ fips.key_expansion key
same_round_keys key keys last e l each =
    ext_get_or [] keys (fips.key_expansion key) (omega (arith, l, e, length-key_expansion key))
    (λ i lt. each i (omega (arith, l, lt)))

-- the sums of the columns of a block and of a word
abbrev pub summed_from : List ℕ → List ℕ → List ℕ
summed_from x s = fips.state (λ r c. fold_to fips.field_add (fips.byte_at x r) (slice_index s r) c)

-- the four bytes of a block from one on
abbrev pub word_at : List ℕ → ℕ → List ℕ
word_at x p = slice_index x p ∷ slice_index x (p + 1) ∷ slice_index x (p + 2)
    ∷ slice_index x (p + 3) ∷ []

-- the sixteen bytes of four words
abbrev pub four_words : List ℕ → List ℕ → List ℕ → List ℕ → List ℕ
four_words a b c d = slice_index a 0 ∷ slice_index a 1 ∷ slice_index a 2 ∷ slice_index a 3
    ∷ slice_index b 0
    ∷ slice_index b 1 ∷ slice_index b 2 ∷ slice_index b 3 ∷ slice_index c 0 ∷ slice_index c 1
    ∷ slice_index c 2
    ∷ slice_index c 3 ∷ slice_index d 0 ∷ slice_index d 1 ∷ slice_index d 2 ∷ slice_index d 3 ∷ []

-- four words, each the sum of a block's word and the one made before, are the sums of the block's
-- columns
pub summed_words_are : (x s a b c d : List ℕ) → a ≡ fips.add_words (word_at x 0) s
    → b ≡ fips.add_words (word_at x 4) a
    → c ≡ fips.add_words (word_at x 8) b → d ≡ fips.add_words (word_at x 12) c
    → four_words a b c d ≡ summed_from x s
unfolding fips.state fips.build fips.build_from
summed_words_are x s a b c d ea eb ec ed =
    let fb = eb ∙ ap (fips.add_words (word_at x 4)) ea in
    let fc = ec ∙ ap (fips.add_words (word_at x 8)) fb in
    let fd = ed ∙ ap (fips.add_words (word_at x 12)) fc in
    λ i. four_words (ea i) (fb i) (fc i) (fd i)

-- the last word of a block, after SubBytes, from a round under the zero key whose mixing is taken
-- back
pub last_word_substituted : (x a b : List ℕ)
    → a ≡ fips.add_round_key (fips.mix_columns (fips.shift_rows (fips.sub_bytes x)))
    (replicate 16 0)
    → b ≡ fips.inv_mix_columns a
    → slice_index b 12 ∷ slice_index b 9 ∷ slice_index b 6 ∷ slice_index b 3 ∷ []
    ≡ fips.word (λ r. fips.byte_at (fips.sub_bytes x) r 3)
unfolding fips.shift_rows fips.state fips.build fips.build_from
last_word_substituted x a b e f =
    ap (λ b. slice_index b 12 ∷ slice_index b 9 ∷ slice_index b 6 ∷ slice_index b 3 ∷ [])
    (f ∙ ap fips.inv_mix_columns e ∙ mixing_undone x)

module _ (x y z u v : List ℕ) (hx : u ≡ x) (hy : v ≡ y) where
  -- SubWord of RotWord of the last column and a round constant, summed onto the columns of a block,
  -- are `columns_summed` with the constant block
  pub rotated_is : (w s : List ℕ) (k : ℕ) → z ≡ summed_from u s
      → s ≡ fips.add_words
      (slice_index w 1 ∷ slice_index w 2 ∷ slice_index w 3 ∷ slice_index w 0 ∷ [])
      (k ∷ 0 ∷ 0 ∷ 0 ∷ []) → w ≡ fips.word (λ r. fips.byte_at (fips.sub_bytes v) r 3)
      → z ≡ columns_summed 1 3 x (fips.add_round_key (fips.sub_bytes y) (constant_block k))
  unfolding fips.state fips.build fips.build_from columns_summed fips.add_round_key constant_block
  rotated_is w s k e f h = e ∙ ap (summed_from u) (f ∙ ap (λ w. fips.add_words
      (slice_index w 1 ∷ slice_index w 2 ∷ slice_index w 3 ∷ slice_index w 0 ∷ [])
      (k ∷ 0 ∷ 0 ∷ 0 ∷ [])) h)
      ∙ (λ i. columns_summed 1 3 (hx i)
      (fips.add_round_key (fips.sub_bytes (hy i)) (constant_block k)))

  -- SubWord of the last column, summed onto the columns of a block, is `columns_summed`
  pub substituted_is : (w : List ℕ) → z ≡ summed_from u w
      → w ≡ fips.word (λ r. fips.byte_at (fips.sub_bytes v) r 3)
      → z ≡ columns_summed 0 3 x (fips.sub_bytes y)
  unfolding fips.state fips.build fips.build_from columns_summed
  substituted_is w e h = e ∙ ap (summed_from u) h
      ∙ (λ i. columns_summed 0 3 (hx i) (fips.sub_bytes (hy i)))

  -- the second column as it is, summed onto the columns of a block
  pub plain_is : z ≡ summed_from u (word_at v 4) → z ≡ columns_summed 0 1 x y
  unfolding fips.state fips.build fips.build_from columns_summed
  plain_is e = e ∙ (λ i. columns_summed 0 1 (hx i) (hy i))

-- the last eight bytes of one block and the first eight of the next are the block that straddles
-- them
pub straddled_is : (x y u v : List ℕ) → u ≡ x → v ≡ y
    → slice_index u 8 ∷ slice_index u 9 ∷ slice_index u 10
    ∷ slice_index u 11 ∷ slice_index u 12 ∷ slice_index u 13 ∷ slice_index u 14 ∷ slice_index u 15
    ∷ slice_index v 0
    ∷ slice_index v 1 ∷ slice_index v 2 ∷ slice_index v 3 ∷ slice_index v 4 ∷ slice_index v 5
    ∷ slice_index v 6
    ∷ slice_index v 7 ∷ [] ≡ columns_straddled x y
unfolding fips.state fips.build fips.build_from columns_straddled
straddled_is x y u v hx hy = λ i. columns_straddled (hx i) (hy i)
