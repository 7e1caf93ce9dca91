-- States round by round, under stored round keys.
use Rattle.std.proofs.Common.{◌≡◌, inl, inr, ℕ, ◌+◌, ◌-◌, ◌<◌, ◌≤◌, if◌then◌else◌, List, [], length}
use Rattle.std.proofs.Common.{map, refl, ap, sym, subst, ◌∙◌, arith}
use Rattle.std.proofs.lemmas.Bool.{cases_lt, eq-eqb, ne_eqb}
use Rattle.std.proofs.lemmas.List.{ext_get_or}
use Rattle.aes_planes.specs.Fips197 as fips
use Rattle.aes_planes.specs.Rounds.{rounds_after, all_rounds}
use Rattle.aes_planes.proofs.Lists.{get_or-build, length-build}
use Rattle.aes_planes.proofs.Standard.AllRounds.{rounds_more}
use Rattle.aes_permute.specs.Stored.{key_of, round_keys_of, LaneForm}

module _ (form : LaneForm) (stored : List (List ℕ)) where
  -- stored round keys are as many as those that they stand for
  pub length-round_keys_of : length (round_keys_of form stored) ≡ length stored
  unfolding round_keys_of
  length-round_keys_of = length-build (length stored)
      (λ i. key_of form (fips.last_round stored) i (fips.round_key stored i))

  -- the last stored round key has the number of the last one that they stand for
  last_is_last : fips.last_round (round_keys_of form stored) ≡ fips.last_round stored
  last_is_last = ap (λ v. v - 1) length-round_keys_of

  -- round key i, as the form stands for it
  key_at : (i : ℕ) → i < length stored
      → fips.round_key (round_keys_of form stored) i
      ≡ key_of form (fips.last_round stored) i (fips.round_key stored i)
  unfolding round_keys_of
  key_at i lt = get_or-build (length stored) i
      (λ i. key_of form (fips.last_round stored) i (fips.round_key stored i)) [] lt

  -- the first stored round key stands for the bytes that `first_byte` makes of it
  pub first_key : 1 ≤ length stored → fips.round_key (round_keys_of form stored) 0
      ≡ map form.first_byte (fips.round_key stored 0)
  first_key some = key_at 0 (omega arith)

  -- a round key between the first and the last stands for what `inner_byte` makes of it, in its
  -- place
  pub inner_key : (i : ℕ) → 1 ≤ i → i < fips.last_round stored
      → fips.round_key (round_keys_of form stored) i
      ≡ form.placed i (map form.inner_byte (fips.round_key stored i))
  inner_key i some before =
      let key = fips.round_key stored i in
      key_at i (omega arith)
      ∙ (λ j. if ne_eqb i 0 (omega arith) j then map form.first_byte key else
      if ne_eqb i (fips.last_round stored) (omega arith) j then map form.last_byte key
      else form.placed i (map form.inner_byte key))

  -- the last stored round key stands for what `last_byte` makes of it
  pub last_key : (i : ℕ) → 2 ≤ length stored → i ≡ fips.last_round stored
      → fips.round_key (round_keys_of form stored) i ≡ map form.last_byte (fips.round_key stored i)
  last_key i two e =
      let key = fips.round_key stored i in
      key_at i (omega arith)
      ∙ (λ j. if ne_eqb i 0 (omega arith) j then map form.first_byte key else
      if eq-eqb i (fips.last_round stored) e j then map form.last_byte key
      else form.placed i (map form.inner_byte key))

  -- ---- the three kinds of rounds, on what a state stands for

  -- a block plus the first round key is the state before any round
  pub first_state : (step : List ℕ → List ℕ) (state : ℕ → ℕ) (b x : List ℕ) {key : List ℕ}
      → 1 ≤ length stored
      → form.placed 0 (map state x) ≡ fips.add_round_key b (map form.first_byte key)
      → key ≡ fips.round_key stored 0
      → form.placed 0 (map state x) ≡ rounds_after step (round_keys_of form stored) b 0
  unfolding rounds_after
  first_state step state b x some e k =
      e ∙ ap (fips.add_round_key b) (ap (map form.first_byte) k ∙ sym (first_key some))

  -- a step and an inner round key lead from the state before round i to the state after it
  pub next_state : (step : List ℕ → List ℕ) (state : ℕ → ℕ) (b x y : List ℕ) {key : List ℕ}
      (i : ℕ) → 1 ≤ i
      → i < fips.last_round stored
      → form.placed i (map state y) ≡ fips.add_round_key (step (form.placed (i - 1) (map state x)))
      (form.placed i (map form.inner_byte key))
      → key ≡ fips.round_key stored i
      → form.placed (i - 1) (map state x) ≡ rounds_after step (round_keys_of form stored) b (i - 1)
      → form.placed (i + 1 - 1) (map state y)
      ≡ rounds_after step (round_keys_of form stored) b (i + 1 - 1)
  next_state step state b x y i some before e k h =
      let n : i ≡ i + 1 - 1 = omega arith in
      subst (λ m. form.placed m (map state y)
      ≡ rounds_after step (round_keys_of form stored) b m) n
      (e ∙ (λ j. fips.add_round_key (step (h j))
      ((ap (λ k. form.placed i (map form.inner_byte k)) k ∙ sym (inner_key i some before)) j))
      ∙ rounds_more step (round_keys_of form stored) b i some)

  -- the last step and the last round key lead from the state before them to the end of all rounds
  pub last_state : (step last_step : List ℕ → List ℕ) (state : ℕ → ℕ) (b x y : List ℕ)
      {key : List ℕ} (i : ℕ)
      → 2 ≤ length stored → i ≡ fips.last_round stored
      → y ≡ fips.add_round_key
      (last_step (form.placed (fips.last_round stored - 1) (map state x))) (map form.last_byte key)
      → key ≡ fips.round_key stored (fips.last_round stored)
      → form.placed (i - 1) (map state x) ≡ rounds_after step (round_keys_of form stored) b (i - 1)
      → y ≡ all_rounds step last_step (round_keys_of form stored) b
  unfolding all_rounds
  last_state step last_step state b x y {key = key} i two n e k h =
      let m : i ≡ fips.last_round (round_keys_of form stored) = n ∙ sym last_is_last in
      let last : map form.last_byte key ≡ fips.round_key (round_keys_of form stored)
      (fips.last_round stored) =
      ap (map form.last_byte) k ∙ sym (last_key (fips.last_round stored) two refl) in
      e ∙ (λ j. fips.add_round_key (last_step (form.placed (sym n j - 1) (map state x))) (last j))
      ∙ (λ j. fips.add_round_key (last_step (h j))
      (fips.round_key (round_keys_of form stored) (fips.last_round stored)))
      ∙ (λ j. fips.add_round_key
      (last_step (rounds_after step (round_keys_of form stored) b (m j - 1)))
      (fips.round_key (round_keys_of form stored) (sym last_is_last j)))

-- stored round keys stand for those of a list, if each does
pub stored_are : (form : LaneForm) (stored v : List (List ℕ)) → 2 ≤ length v
    → length stored ≡ length v
    → map form.first_byte (fips.round_key stored 0) ≡ fips.round_key v 0
    → ((i : ℕ) → 1 ≤ i → i < fips.last_round v
    → form.placed i (map form.inner_byte (fips.round_key stored i)) ≡ fips.round_key v i)
    → map form.last_byte (fips.round_key stored (fips.last_round v))
    ≡ fips.round_key v (fips.last_round v)
    → round_keys_of form stored ≡ v
stored_are form stored v two l at_first between at_last =
    let keys = round_keys_of form stored in
    let same : fips.last_round v ≡ fips.last_round stored = ap (λ n. n - 1) (sym l) in
    ext_get_or [] keys v (length-round_keys_of form stored ∙ l) (λ i lt.
    let some : i < length v = omega (arith, lt, length-round_keys_of form stored, l) in
    elim (cases_lt 0 i) [
      | inl above ↦ elim (cases_lt i (fips.last_round v)) [
        | inl below ↦ inner_key form stored i (omega (arith, above)) (omega (arith, below, same))
            ∙ between i (omega (arith, above)) below
        | inr ge ↦
            let at : i ≡ fips.last_round v = omega (arith, ge, some) in
            ap (fips.round_key keys) at
            ∙ last_key form stored _ (omega (arith, two, l)) same ∙ at_last
            ∙ ap (fips.round_key v) (sym at)
      ]
      | inr ge ↦
          let none : i ≡ 0 = omega (arith, ge) in
          ap (fips.round_key keys) none ∙ first_key form stored (omega (arith, two, l)) ∙ at_first
          ∙ ap (fips.round_key v) (sym none)
    ])
