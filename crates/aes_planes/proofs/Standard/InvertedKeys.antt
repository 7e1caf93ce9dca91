-- The round keys of EqInvCipher, place by place.
use Rattle.std.proofs.Common.{◌≡◌, ◌≢◌, ◌⊎◌, inl, inr, ℕ, ◌-◌, ◌<◌, ◌==◌, ◌||◌, if◌then◌else◌, Bool}
use Rattle.std.proofs.Common.{true, List, [], length, slice_index_or, ap, sym, ◌∙◌}
use Rattle.std.proofs.Math.Bool.{or-true}
use Rattle.std.proofs.lemmas.Bool.{eq-eqb, ne_eqb}
use Rattle.aes_planes.specs.Fips197 as fips
use Rattle.aes_planes.proofs.Lists.{get_or-build, length-build}

-- the inverted round keys are as many as the round keys
pub inverted_length : (w : List (List ℕ)) → length (fips.inverted_keys w) ≡ length w
unfolding fips.inverted_keys
inverted_length w = length-build (length w) _

module _ (w : List (List ℕ)) (i : ℕ) (lt : i < length w) where
  -- the key at place i, by whether it stays as it is
  key_if : Bool → List ℕ
  key_if same =
      if same then fips.round_key w (fips.last_round w - i) else fips.inv_mix_columns
      (fips.round_key w (fips.last_round w - i))

  -- place i of the inverted round keys has the key that the test for the ends chooses
  inverted_at : slice_index_or (fips.inverted_keys w) i []
      ≡ key_if ((i == 0) || (i == fips.last_round w))
  unfolding fips.inverted_keys key_if
  inverted_at = get_or-build (length w) i _ [] lt

  -- the test for the first and the last place is passed there
  end_passes : (i ≡ 0) ⊎ (i ≡ fips.last_round w) → ((i == 0) || (i == fips.last_round w)) ≡ true
  end_passes (inl e) = ap (λ v. v || (i == fips.last_round w)) (eq-eqb i 0 e)
  end_passes (inr e) = ap (λ v. (i == 0) || v) (eq-eqb i (fips.last_round w) e) ∙ or-true (i == 0)

  -- the first and the last round key stay as they are
  pub inverted_end : (i ≡ 0) ⊎ (i ≡ fips.last_round w) → fips.round_key w (fips.last_round w - i)
      ≡ slice_index_or (fips.inverted_keys w) i []
  unfolding key_if
  inverted_end e = sym (inverted_at ∙ ap key_if (end_passes e))

  -- the round keys between the first and the last are mixed back
  pub inverted_middle : i ≢ 0 → i ≢ fips.last_round w
      → fips.inv_mix_columns (fips.round_key w (fips.last_round w - i))
      ≡ slice_index_or (fips.inverted_keys w) i []
  unfolding key_if
  inverted_middle p q =
      sym (inverted_at ∙ ap key_if (λ j. ne_eqb i 0 p j || ne_eqb i (fips.last_round w) q j))
