-- The word that a step of the key expansion adds: by its place, and with the powers of x as a list.
use Rattle.std.proofs.Common.{◌≡◌, ◌≢◌, ◌⊎◌, inl, inr, ℕ, ◌/◌, ◌%◌, ◌<◌, ◌≤◌, ◌==◌, ◌&&◌, nat_lt}
use Rattle.std.proofs.Common.{Bool, true, false, List, [], ◌∷◌, slice_index, refl, ap, ◌∙◌}
use Rattle.std.proofs.Math.Bool.{and-false}
use Rattle.std.proofs.lemmas.Bool.{eqb-true, eq-eqb, lt-ltb, le-ltb, ne_eqb}
use Rattle.aes_planes.specs.Fips197.{xtime, power_of_x, sub_word, rot_word, add_words}
use Rattle.aes_planes.specs.Fips197.{round_constant, added_word_if, added_word}
use Rattle.aes_planes.proofs.Bits.ByteCases.{all_below, all_below_tells}

-- the powers of x that the key expansion adds, from x to the power 0
abbrev pub listed_powers : List ℕ
listed_powers = 0x01 ∷ 0x02 ∷ 0x04 ∷ 0x08 ∷ 0x10 ∷ 0x20 ∷ 0x40 ∷ 0x80 ∷ 0x1b ∷ 0x36 ∷ []

-- each of the listed powers is x to the power of its place
pub listed_power : (i : ℕ) → i < 10 → slice_index listed_powers i ≡ power_of_x i
unfolding all_below power_of_x xtime
listed_power i h =
    eqb-true _ _ (all_below_tells 10 (λ i. slice_index listed_powers i == power_of_x i) refl i h)

module _ (nk i : ℕ) (w : List ℕ) where
  -- where Nk divides i, the word is rotated and substituted, and the round constant is added
  pub added_word_constant : i % nk ≡ 0 → added_word nk i w
      ≡ add_words (sub_word (rot_word w)) (round_constant (i / nk))
  unfolding added_word_if
  added_word_constant e =
      ap (λ v. added_word_if v (nat_lt 6 nk && (i % nk == 4)) (i / nk) w) (eq-eqb (i % nk) 0 e)

  -- where Nk does not divide i, the second test says whether the word is substituted
  added_word_later : (again : Bool) → i % nk ≢ 0 → (nat_lt 6 nk && (i % nk == 4)) ≡ again
      → added_word nk i w ≡ added_word_if false again (i / nk) w
  added_word_later again n e =
      ap (λ v. added_word_if v (nat_lt 6 nk && (i % nk == 4)) (i / nk) w) (ne_eqb (i % nk) 0 n)
      ∙ ap (λ v. added_word_if false v (i / nk) w) e

  -- where Nk > 6 and i mod Nk is 4, the word is substituted
  pub added_word_substituted : i % nk ≢ 0 → 6 < nk → i % nk ≡ 4 → added_word nk i w ≡ sub_word w
  unfolding added_word_if
  added_word_substituted n lt e =
      added_word_later true n (ap (λ v. v && (i % nk == 4)) (lt-ltb 6 nk lt) ∙ eq-eqb (i % nk) 4 e)

  -- where Nk does not divide i, and Nk ≤ 6 or i mod Nk isn't 4, the word stays as it is
  pub added_word_same : i % nk ≢ 0 → (nk ≤ 6) ⊎ (i % nk ≢ 4) → added_word nk i w ≡ w
  unfolding added_word_if
  added_word_same n (inl le) =
      added_word_later false n (ap (λ v. v && (i % nk == 4)) (le-ltb 6 nk le))
  added_word_same n (inr ne) =
      added_word_later false n (ap (λ v. nat_lt 6 nk && v) (ne_eqb (i % nk) 4 ne)
      ∙ and-false (nat_lt 6 nk))
