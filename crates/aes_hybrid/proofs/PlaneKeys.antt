-- Round keys of vector permutations, as planes store them.
use Rattle.std.proofs.Common.{◌≡◌, ◌⊎◌, inl, inr, ℕ, ◌+◌, ◌-◌, ◌*◌, ◌%◌, ◌<◌, ◌≤◌, Bool, List}
use Rattle.std.proofs.Common.{length, map, map-id, replicate, refl, ap, subst, sym, ◌∙◌, arith}
use Rattle.std.proofs.lemmas.List.{length-map}
use Rattle.std.proofs.lemmas.Bool.{cases_lt}
use Rattle.aes_planes.specs.Fips197 as fips
use Rattle.aes_planes.specs.Planes.{held, plus63, words_at}
use Rattle.aes_planes.proofs.Shifts.Deferred.{inv_shift_times_of_shift_times, plus63_twice}
use Rattle.aes_soft.specs.Stored.{full, key_of_planes, rounds_of, size_of, stored_key}
use Rattle.aes_soft.specs.Stored.{IsFullSchedule, IsSchedule, HoldsBlocks}
use Rattle.aes_soft.proofs.KeyOfPlanes.{key_of-schedule}
use Rattle.aes_soft.proofs.StoredRoundKeys.{deferred_below, deferred_last, stored_first}
use Rattle.aes_soft.proofs.StoredRoundKeys.{stored_later}
use Rattle.aes_soft.proofs.WordsInPlace.{held_at, key_kept, HoldsAt}
use Rattle.aes_permute.specs.Keys.{encrypting, cipher_form, key_of_lanes, IsCipherSchedule}
use Rattle.aes_permute.specs.Stored.{untower, key_untower}
use Rattle.aes_permute.proofs.ExpandedLanes.{last_key_is}
use Rattle.aes_permute.proofs.StoredStates.{length-round_keys_of, first_key, inner_key, last_key}

module _ (stored : List (List ℕ)) (two : 2 ≤ length stored) where
  -- how many rounds the stored round keys serve
  abbrev pub rounds_made : ℕ
  rounds_made = length stored - 1

  -- what planes store for round key i
  abbrev pub wanted : ℕ → List ℕ
  wanted i = stored_key (full rounds_made) (encrypting stored) i

  -- the first stored round key is as planes store it
  pub first_wanted : fips.round_key stored 0 ≡ wanted 0
  first_wanted =
      sym (stored_first (full rounds_made) (encrypting stored)
      (deferred_below rounds_made 4 0 0 (omega arith) refl)
      ∙ first_key cipher_form stored (omega (arith, two)) ∙ map-id (fips.round_key stored 0))

  -- a stored round key between the first and the last is as planes store it, once it is taken out
  -- of the tower basis: it is shifted back already
  pub inner_wanted : (i : ℕ) → 1 ≤ i → i < rounds_made → length (fips.round_key stored i) ≡ 16
      → map untower (fips.round_key stored i) ≡ wanted i
  inner_wanted i some below sized =
      let s = fips.round_key stored i in
      let long : length (map key_untower s) ≡ 16 = length-map s key_untower ∙ sized in
      sym (stored_later (full rounds_made) (encrypting stored) i (i % 4) (omega (arith, some))
      (deferred_below rounds_made 4 i (i % 4) below refl)
      ∙ ap (λ v. map plus63 (fips.inv_shift_times (i % 4) v))
      (inner_key cipher_form stored i some below)
      ∙ ap (map plus63) (inv_shift_times_of_shift_times (i % 4) (map key_untower s) long)
      ∙ last_key_is s)

  -- the last stored round key is as planes store it
  last_wanted : (i : ℕ) → i ≡ rounds_made → fips.round_key stored i ≡ wanted i
  unfolding fips.inv_shift_times
  last_wanted i e =
      sym (stored_later (full rounds_made) (encrypting stored) i 0 (omega (arith, e, two))
      (deferred_last rounds_made 4 i e)
      ∙ ap (map plus63) (last_key cipher_form stored i two e)
      ∙ plus63_twice (fips.round_key stored i))

-- planes that hold a block in every slot are put at a round key's place
pub put_at : {A : Type 0} (bits : A → List Bool) (n : ℕ) (rk : List A) (o p : ℕ)
    (x y : List ℕ) → p ≡ o
    → held n (map bits (words_at rk o)) ≡ replicate n x → x ≡ y → HoldsAt bits n rk p y
put_at bits n rk o p x y at h e =
    held_at bits n rk (words_at rk o) o p y at refl (h ∙ ap (replicate n) e)

-- all round keys stand in their places, once all but the last do, and the last is put
pub all_put : {A : Type 0} (bits : A → List Bool) (n : ℕ) (stored : List (List ℕ))
    (two : 2 ≤ length stored)
    (before after : List A)
    → (done : (j : ℕ) → j < length stored - 1 → HoldsAt bits n before (8 * j) (wanted stored two j))
    → (others : (o : ℕ) → (o + 8 ≤ 8 * (length stored - 1)) ⊎ (8 * (length stored - 1) + 8 ≤ o)
    → words_at after o ≡ words_at before o)
    → (put : held n (map bits (words_at after (8 * (length stored - 1))))
    ≡ replicate n (fips.round_key stored (length stored - 1)))
    → HoldsBlocks n (length stored) (wanted stored two) (map bits after)
all_put bits n stored two before after done others put j below =
    let last : ℕ = length stored - 1 in
    elim (cases_lt j last) [
      | inl low ↦ key_kept bits n before after (8 * last) (8 * j) _ others
          (inl (omega (arith, low))) (done j low)
      | inr ge ↦
          let same : last ≡ j = omega (arith, ge, below) in
          put_at bits n after (8 * last) (8 * j) _ _ (omega (arith, same)) put
          (last_wanted stored two last refl ∙ ap (wanted stored two) same)
    ]

-- stored round keys of a key are two or more
pub two_or_more : (stored : List (List ℕ)) → IsCipherSchedule stored → 2 ≤ length stored
two_or_more stored lanes = omega (arith, lanes.one_of_three)

-- words that hold all stored round keys
module _ {A : Type 0} (bits : A → List Bool) (n : ℕ) (some : 1 ≤ n) (words : List A)
    (stored : List (List ℕ))
    (lanes : IsCipherSchedule stored) (sized : length words ≡ 8 * length stored)
    (holds : HoldsBlocks n (length stored)
    (stored_key (full (length stored - 1)) (encrypting stored)) (map bits words)) where
  -- how many rounds the words serve
  abbrev rounds : ℕ
  rounds = rounds_of (length words)

  -- stored round keys are eleven at least
  least : 11 ≤ length stored
  least = omega (arith, lanes.one_of_three)

  -- stored round keys are fifteen at most
  most : length stored ≤ 15
  most = omega (arith, lanes.one_of_three)

  -- the planes hold the schedule of the key that the stored round keys are read as
  is_schedule : IsSchedule n (full rounds) (key_of_lanes stored) (map bits words)
  is_schedule i lt =
      let w : encrypting stored ≡ fips.key_expansion (key_of_lanes stored) = lanes.keys in
      let r : length stored - 1 ≡ rounds = omega (arith, sized) in
      let below : i < length stored =
      omega (arith, lt, ap length w, length-round_keys_of cipher_form stored) in
      holds i below ∙ (λ j. replicate n (stored_key (full (r j)) (w j) i))

  -- the key that the stored round keys are read as has the size that the number of words says
  same_size : length (key_of_lanes stored) ≡ size_of (length words)
  same_size = lanes.sized ∙ omega (arith, sized)

  -- planes that hold the stored round keys in the full layout are read as the key that those are
  -- read as
  pub planes_key : key_of_planes bits n words ≡ key_of_lanes stored
  planes_key =
      key_of-schedule n (full rounds) some
      (deferred_below rounds 4 0 0 (omega (arith, sized, least)) refl)
      (map bits words) (size_of (length words)) (rounds - 6) (key_of_lanes stored) refl same_size
      (omega (arith, sized, least)) (omega (arith, sized, most)) is_schedule

  -- planes that hold the stored round keys in the full layout are the schedule of the key that they
  -- are read as
  pub planes_keyed : IsFullSchedule bits n words
  planes_keyed = record {
    one_of_three = elim lanes.one_of_three [
      | inl k ↦ inl (omega (arith, sized, k))
      | inr other ↦ inr (elim other [
        | inl k ↦ inl (omega (arith, sized, k))
        | inr k ↦ inr
            (omega (arith, sized, k))
      ])
    ];
    keyed = subst (λ key. IsSchedule n (full rounds) key (map bits words))
        (sym planes_key) is_schedule;
  }
