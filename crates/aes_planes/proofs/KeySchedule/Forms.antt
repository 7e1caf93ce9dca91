-- Round keys of a key, stored one by one, in any form.
use Rattle.std.proofs.Common.{◌≡◌, ◌≢◌, inl, inr, ℕ, ◌+◌, ◌*◌, ◌<◌, ◌≤◌, List, length, take, drop}
use Rattle.std.proofs.Common.{slice_index, refl, ap, sym, ◌∙◌, subst, arith}
use Rattle.std.proofs.Math.Nat.{suc-mul}
use Rattle.std.proofs.lemmas.Bool.{cases_lt}
use Rattle.aes_planes.specs.Fips197.{sub_bytes, add_round_key, key_words, key_expansion, round_key}
use Rattle.aes_planes.specs.Planes.{constant_block, columns_summed, columns_straddled}
use Rattle.aes_planes.proofs.KeySchedule.AddedWords.{listed_powers, listed_power}
use Rattle.aes_planes.proofs.KeySchedule.ExpandedBlocks.{words_from, key_block, round_key_at}
use Rattle.aes_planes.proofs.KeySchedule.ExpandedBlocks.{straddled_at, first_block, second_block}
use Rattle.aes_planes.proofs.KeySchedule.ExpandedBlocks.{last_block}

-- the layers after a step that runs one substitution of n layers
pub layers_counted : (a b c i n : ℕ) → b ≡ a + i * n → c ≡ b + n → c ≡ a + (i + 1) * n
layers_counted a b c i n e f =
    let next : (i + 1) * n ≡ i * n + n = ap (λ v. v * n) (omega arith) ∙ suc-mul i n in
    omega (arith, e, f, next)

-- the layers after a step that runs two substitutions of n layers
pub layers_counted_twice : (a b c d i n : ℕ) → b ≡ a + 2 * i * n → c ≡ b + n → d ≡ c + n
    → d ≡ a + 2 * (i + 1) * n
layers_counted_twice a b c d i n e f h =
    let two : 2 * (i + 1) ≡ 2 * i + 1 + 1 = omega arith in
    layers_counted a c d (2 * i + 1) n (layers_counted a b c (2 * i) n e f) h
    ∙ ap (λ v. a + v * n) (sym two)

-- round keys 0 to m - 1 of a key, where `IsStored` says that one is stored for a block
abbrev pub AreStored : (ℕ → List ℕ → Type 0) → List ℕ → ℕ → Type 0
AreStored IsStored key m = (j : ℕ) → j < m → IsStored j (words_from key (4 * j))

-- a key of nk words, and what says that four words are those of a block
pub record Form (V : Type 0) : Type 1 where
  -- whether a value is the four words of a block
  pub AreWords : V → List ℕ → Type 0
  -- the key's bytes
  pub key : List ℕ
  -- the number of the key's words
  pub nk : ℕ
  -- a key has four words or more
  pub four : 4 ≤ nk
  -- a key has four bytes in each word
  pub sized : length key ≡ 4 * nk

-- the record of a key of nk words and of what says that a value is the four words of a block
abbrev pub form : {V : Type 0} → (V → List ℕ → Type 0) → (key : List ℕ) (nk : ℕ) → 4 ≤ nk
    → length key ≡ 4 * nk → Form V
form AreWords key nk four sized = record { AreWords = AreWords; key = key; nk = nk; four = four; sized = sized }

module _ {V : Type 0} (s : Form V) where
  open s use {AreWords, key, nk, four, sized}

  -- the standard's Nk is the number of the key's words
  key_words_are : key_words key ≡ nk
  key_words_are = omega (arith, sized)

  -- at the start no round key has to be stored
  pub none_stored : (IsStored : ℕ → List ℕ → Type 0) → AreStored IsStored key 0
  none_stored IsStored j lt = absurd (omega arith)

  -- one of the round keys that are stored
  pub stored_at : (IsStored : ℕ → List ℕ → Type 0) (m j o : ℕ) → AreStored IsStored key m
      → j < m → o ≡ 4 * j
      → IsStored j (words_from key o)
  stored_at IsStored m j o done lt at = subst (λ v. IsStored j (words_from key v)) (sym at) (done j lt)

  -- one round key more is stored, and those before it stay
  pub one_more_stored : {old new : ℕ → List ℕ → Type 0} {last m o : ℕ} (k : ℕ) → AreStored old key m
      → m ≤ last
      → ((j : ℕ) (x : List ℕ) → j ≤ last → j ≢ m → old j x → new j x) → new m (words_from key o)
      → o ≡ 4 * m → k ≡ m + 1 → AreStored new key k
  one_more_stored {old} {new} {last} {m} {o} k done fits stay is at next j lt =
      elim (cases_lt j m) [
        | inl low ↦ stay j (words_from key (4 * j)) (omega arith) (omega arith) (done j low)
        | inr ge ↦
            let e : m ≡ j = omega (arith, ge, lt, next) in
            let f : o ≡ 4 * j = omega (arith, at, e) in
            subst (λ v. new v (words_from key (4 * j))) e (subst (λ v. new m (words_from key v)) f is)
      ]

  -- all round keys of a key are stored
  pub all_stored : (IsStored : ℕ → List ℕ → Type 0) (m last : ℕ) → AreStored IsStored key m
      → m ≡ last + 1
      → last ≡ nk + 6
      → (i : ℕ) → i ≤ last → IsStored i (round_key (key_expansion key) i)
  all_stored IsStored m last done whole rounds i le =
      subst (IsStored i) (sym (round_key_at key i (4 * i) refl (omega (arith, key_words_are))))
      (done i (omega arith))

  module _ (w : V) where
    -- sixteen bytes of the key are four words of the expansion
    pub loaded : (o p : ℕ) → AreWords w (take 16 (drop p key)) → p ≡ 4 * o → o + 4 ≤ nk
        → AreWords w (words_from key o)
    loaded o p is at room =
        subst (AreWords w) (sym (key_block key nk key_words_are four o p at room sized)) is

    -- the last two of four words and the first two of the next four are four words of the expansion
    pub straddled : (o p m : ℕ) → AreWords w (columns_straddled (words_from key o) (words_from key p))
        → p ≡ o + 4 → m ≡ o + 2
        → AreWords w (words_from key m)
    straddled o p m is next at = subst (AreWords w) (straddled_at key o p m next at) is

    -- sums with a round constant are the four words from a multiple of nk on
    pub rotated : (j o p m : ℕ) → AreWords w (columns_summed 1 3 (words_from key o)
        (add_round_key (sub_bytes (words_from key p)) (constant_block (slice_index listed_powers j))))
        → j < 10
        → o ≡ j * nk → m ≡ o + nk → m ≡ p + 4 → AreWords w (words_from key m)
    rotated j o p m is lt at back before =
        subst (AreWords w) (ap (λ v. columns_summed 1 3 (words_from key o)
        (add_round_key (sub_bytes (words_from key p)) (constant_block v))) (listed_power j lt)
        ∙ first_block key nk key_words_are four j o p m at back before) is

    -- the four words after the four at a multiple of nk, where nk is 8
    pub substituted : (j o p m : ℕ)
        → AreWords w (columns_summed 0 3 (words_from key o) (sub_bytes (words_from key p)))
        → nk ≡ 8 → o ≡ j * nk + 4 → m ≡ o + nk → m ≡ p + 4 → AreWords w (words_from key m)
    substituted j o p m is eight at back before =
        subst (AreWords w) (second_block key nk key_words_are four j o p m eight at back before) is

    -- the four words two after a multiple of nk, where nk is 6
    pub plain : (j o p m : ℕ) → AreWords w (columns_summed 0 1 (words_from key o) (words_from key p))
        → nk ≡ 6 → o ≡ j * nk + 2 → m ≡ o + nk → m ≡ p + 2 → AreWords w (words_from key m)
    plain j o p m is six at back before =
        subst (AreWords w) (last_block key nk key_words_are four j o p m six at back before) is
