-- The key that stored round keys are read as.
use Rattle.std.proofs.Common.{◌≡◌, inl, inr, ℕ, ◌+◌, ◌/◌, ◌≤◌, List, length}
use Rattle.std.proofs.Common.{refl, ap, sym, subst, ◌∙◌, arith}
use Rattle.aes_planes.specs.Fips197 as fips
use Rattle.aes_planes.specs.Rounds.{all_rounds}
use Rattle.aes_planes.proofs.KeySchedule.ExpandedBlocks.{first_bytes}
use Rattle.aes_planes.proofs.KeySchedule.ExpansionLength.{length-key_expansion}
use Rattle.aes_planes.proofs.Standard.CipherLaws.{two_expanded}
use Rattle.aes_cipher.specs.KeySizes.{IsKeySize}
use Rattle.aes_permute.specs.Keys.{encrypting, cipher_form, key_of_lanes, leading_key}
use Rattle.aes_permute.specs.Keys.{lane_key_size, IsCipherSchedule}
use Rattle.aes_permute.specs.Stored.{round_keys_of, LaneForm}
use Rattle.aes_permute.proofs.StoredStates.{length-round_keys_of}

-- the key that begins its own schedule
begins_with_key : (size : ℕ) (key : List ℕ) → IsKeySize size → length key ≡ size
    → leading_key size (fips.key_expansion key)
    ≡ key
begins_with_key size key one l =
    first_bytes key (size / 4) (ap (λ v. v / 4) l) size (omega (arith, one)) l (omega (arith, one))
    (omega (arith, one))

module _ (stored : List (List ℕ)) (key : List ℕ) (one : IsKeySize (length key))
    (sized : length stored ≡ length key / 4 + 7) (b : fips.IsBytes key)
    (e : encrypting stored ≡ fips.key_expansion key) where
  -- the number of stored round keys says the size of their key
  own_size : lane_key_size stored ≡ length key
  own_size = omega (arith, sized, one)

  -- round keys of a key are read as that key
  pub read_as : key_of_lanes stored ≡ key
  unfolding key_of_lanes
  read_as = (λ j. leading_key (own_size j) (e j)) ∙ begins_with_key (length key) key one refl

  -- stored round keys of a key are those of the key that they are read as
  pub schedule_read : IsCipherSchedule stored
  schedule_read = record {
    one_of_three = elim one [
      | inl k ↦ inl (omega (arith, sized, k))
      | inr other ↦ inr (elim other [
        | inl k ↦ inl (omega (arith, sized, k))
        | inr k ↦ inr
            (omega (arith, sized, k))
      ])
    ];
    sized = ap length read_as ∙ sym own_size;
    bytes = subst fips.IsBytes (sym read_as) b;
    keys = e ∙ ap fips.key_expansion (sym read_as);
  }

-- the key that stored round keys are read as has the size that their number says
pub stored_size : (size : ℕ) (stored : List (List ℕ)) → IsKeySize size
    → length stored ≡ size / 4 + 7 → IsCipherSchedule stored → length (key_of_lanes stored) ≡ size
stored_size size stored one l s = s.sized ∙ omega (arith, one, l)

-- stored round keys of a key are two or more
pub two_stored : (form : LaneForm) → ((w : List (List ℕ)) → length (form.direction_keys w) ≡ length w)
    → (stored : List (List ℕ)) (key : List ℕ)
    → round_keys_of form stored ≡ form.direction_keys (fips.key_expansion key)
    → 2 ≤ length stored
two_stored form same stored key e =
    omega (arith, length-round_keys_of form stored, ap length e, same (fips.key_expansion key), two_expanded key)

-- all rounds under stored round keys of a key are what the direction does under the key
pub direction_rounds : (step last_step : List ℕ → List ℕ) {processed : List (List ℕ) → List ℕ → List ℕ}
    (form : LaneForm)
    → ((w : List (List ℕ)) (b : List ℕ) → 2 ≤ length w
    → all_rounds step last_step (form.direction_keys w) b ≡ processed w b)
    → (stored : List (List ℕ)) (key : List ℕ)
    → round_keys_of form stored ≡ form.direction_keys (fips.key_expansion key)
    → (b : List ℕ) → all_rounds step last_step (round_keys_of form stored) b
    ≡ processed (fips.key_expansion key) b
direction_rounds step last_step form follow stored key e b =
    ap (λ w. all_rounds step last_step w b) e ∙ follow (fips.key_expansion key) b (two_expanded key)

-- stored round keys that stand for the expansion of a key of 16, 24 or 32 bytes are those of the
-- key that they are read as
pub expansion_read : (stored : List (List ℕ)) (key : List ℕ) → IsKeySize (length key)
    → fips.IsBytes key
    → encrypting stored ≡ fips.key_expansion key → IsCipherSchedule stored
expansion_read stored key one b e =
    schedule_read stored key one
    (omega (arith, length-round_keys_of cipher_form stored, ap length e, length-key_expansion key)) b e
