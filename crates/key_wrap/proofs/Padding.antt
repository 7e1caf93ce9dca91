-- Keys with padding: the semiblocks that a key fills, and the comparisons that show whether it was
-- padded.
use Rattle.std.proofs.Common.{◌≡◌, ℕ, suc, ◌+◌, ◌-◌, ◌*◌, ◌/◌, ◌%◌, ◌^◌, ◌<◌, ◌≤◌, ◌↔◌, List}
use Rattle.std.proofs.Common.{[], ◌∷◌, ◌++◌, length, get_or, set, take, drop, replicate, ap}
use Rattle.std.proofs.Common.{sym, inl, inr, ◌∙◌, arith, bit_and, bit_or, if◌then◌else◌}
use Rattle.std.proofs.lemmas.Bool.{cases_lt, ne_eqb}
use Rattle.std.proofs.lemmas.List.{append-nil, drop-append-le, length-drop, length-take}
use Rattle.std.proofs.lemmas.List.{take-append-drop, take-append-le, take-replicate, take_all}
use Rattle.std.proofs.lemmas.List.{take_more_set}
use Rattle.std.proofs.lemmas.Nat.{and_mask, be_bytes_4, le_or_l, le_or_r}
use Rattle.std.proofs.Math.Seq.{take-append-add}
use Rattle.aes_planes.proofs.Standard.States.{drop_bytes, take_bytes}
use Rattle.std.specs.Int.{w32, to_be_bytes, from_be_bytes}
use Rattle.std.specs.List.{concat, slice_range}
use Rattle.aes_planes.specs.Fips197.{IsBytes}
use Rattle.key_wrap.specs.Padded.{block_or_steps, semiblock_count, heading, length_in, padded, padded_check}
use Rattle.key_wrap.specs.Padded.{semiblocks, IsPadded}

-- ---- the semiblocks of a padded key

-- a semiblock of a key, with the zeros that the key leaves in it
pub semiblock_is : (key : List ℕ) (i : ℕ) → i < semiblock_count (length key)
    → take 8 (drop (8 * i) key) ++ replicate (8 * i + 8 - length key) 0
    ≡ slice_range (padded key) (8 * i) (8 * i + 8)
unfolding semiblock_count padded
semiblock_is key i lt =
    let rest : List ℕ = drop (8 * i) key in
    let count : ℕ = 8 * semiblock_count (length key) - length key in
    let zeros : List ℕ = replicate count 0 in
    let long : length rest ≡ length key - 8 * i = length-drop (8 * i) key in
    let size : 8 * i + 8 - 8 * i ≡ 8 = omega arith in
    let whole : slice_range (padded key) (8 * i) (8 * i + 8) ≡ take 8 (rest ++ zeros) =
    ap (λ n. take n (drop (8 * i) (padded key))) size
    ∙ ap (take 8) (drop-append-le (8 * i) key zeros (omega (arith, lt))) in
    elim (cases_lt (length rest) 8) [
      | inl few ↦
          let n : ℕ = 8 - length rest in
          let eight : 8 ≡ length rest + n = omega (arith, few) in
          let same : 8 * i + 8 - length key ≡ n = omega (arith, few, long, lt) in
          (λ j. take_all 8 rest (omega (arith, few)) j ++ replicate (same j) 0)
          ∙ sym (whole ∙ ap (λ m. take m (rest ++ zeros)) eight ∙ take-append-add rest zeros n
          ∙ ap (λ l. rest ++ l) (take-replicate n count 0 (omega (arith, few, long, lt))))
      | inr enough ↦
          let none : 8 * i + 8 - length key ≡ 0 = omega (arith, enough, long) in
          ap (λ m. take 8 rest ++ replicate m 0) none ∙ append-nil (take 8 rest)
          ∙ sym (whole ∙ take-append-le 8 rest zeros enough)
    ]

-- once semiblock i is written, the first i + 1 are those of the padded key
pub semiblock_more : (key : List ℕ) (others : List (List ℕ)) (i : ℕ) (half : List ℕ)
    → i < length others
    → length others ≡ semiblock_count (length key)
    → half ≡ take 8 (drop (8 * i) key) ++ replicate (8 * i + 8 - length key) 0
    → take i others ≡ semiblocks (padded key) i
    → take (i + 1) (set others i half) ≡ semiblocks (padded key) (i + 1)
unfolding semiblocks
semiblock_more key others i half lt sized is before =
    let more : suc i ≡ i + 1 = omega arith in
    take_more_set others i half lt
    ∙ (λ j. before j ++ (is ∙ semiblock_is key i (omega (arith, lt, sized))) j ∷ [])
    ∙ ap (semiblocks (padded key)) more

-- ---- a string that is a block, and a longer one

module _ (f : List ℕ → List ℕ) (steps : List (List ℕ) → ℕ → List (List ℕ)) where
  -- the halves of f of a block are what is written for a string of two semiblocks
  pub two_semiblocks_as_block : (a : List ℕ) (others : List (List ℕ)) (a_new r_new : List ℕ) → length others ≡ 1
      → a_new ≡ take 8 (f (a ++ get_or others 0 [])) → r_new ≡ drop 8 (f (a ++ get_or others 0 []))
      → a_new ∷ set others 0 r_new ≡ block_or_steps f steps (a ∷ others)
  unfolding block_or_steps
  two_semiblocks_as_block a [] a_new r_new one is_a is_r = absurd (omega arith)
  two_semiblocks_as_block a (r ∷ []) a_new r_new one is_a is_r =
      (λ j. is_a j ∷ is_r j ∷ [])
      ∙ (λ j. let b = f (a ++ sym (append-nil r) j) in take 8 b ∷ drop 8 b ∷ [])
  two_semiblocks_as_block a (r ∷ s ∷ rs) a_new r_new one is_a is_r = absurd (omega arith)

  -- all steps of a string that isn't one
  pub other_strings_as_steps : (s : List (List ℕ)) (n : ℕ) → n ≡ length s - 1 → (length s ≡ 2 → ⊥)
      → steps s (6 * n) ≡ block_or_steps f steps s
  unfolding block_or_steps
  other_strings_as_steps s n is other =
      let b : List ℕ = f (concat s) in
      ap (λ m. steps s (6 * m)) is
      ∙ ap (λ t. if t then take 8 b ∷ drop 8 b ∷ [] else steps s (6 * (length s - 1)))
      (sym (ne_eqb (length s) 2 other))

-- ---- the comparisons

module _ (check : List ℕ) (long : length check ≡ 8) (small : IsBytes check) where
  -- the first part of the first semiblock has four bytes
  front : length (take 4 check) ≡ 4
  front = omega (arith, length-take 4 check, long)

  -- the second part of the first semiblock has four bytes
  rest : length (drop 4 check) ≡ 4
  rest = omega (arith, length-drop 4 check, long)

  -- the first semiblock is made of what it shows
  pub heading_back : (bytes : ℕ) → take 4 check ≡ padded_check
      → bytes ≡ from_be_bytes w32 (drop 4 check)
      → heading bytes ≡ check
  unfolding heading
  heading_back bytes right is =
      (λ j. sym right j ++ be_bytes_4 (drop 4 check) bytes rest (drop_bytes 4 check small) is j)
      ∙ take-append-drop 4 check

  -- what is compared is 0 in each part exactly if it is 0 together
  pub compared : (others : List (List ℕ)) (first bytes padding low : ℕ)
      → first ≡ from_be_bytes w32 (take 4 check) → bytes ≡ from_be_bytes w32 (drop 4 check)
      → 1 ≤ length others → length others ≤ 2 ^ 29
      → padding ≡ (8 * length others + (2 ^ 64 - bytes)) % 2 ^ 64
      → (low ≡ 0) ↔ (drop (8 - bit_and padding 7) (get_or others (length others - 1) [])
      ≡ replicate (bit_and padding 7) 0)
      → (bit_or (bit_or ((first + (2 ^ 32 - 0xa65959a6)) % 2 ^ 32) (padding / 8)) low ≡ 0)
      ↔ IsPadded (check ∷ others)
  unfolding length_in
  compared others first bytes padding low is_first is_bytes some few is_padding is_low =
      let x : ℕ = (first + (2 ^ 32 - 0xa65959a6)) % 2 ^ 32 in
      let y : ℕ = padding / 8 in
      let f = take_bytes 4 check small in
      let g = drop_bytes 4 check small in
      let first_small : first < 2 ^ 32 = omega (arith, is_first, f 0, f 1, f 2, f 3) in
      let bytes_small : bytes < 2 ^ 32 = omega (arith, is_bytes, g 0, g 1, g 2, g 3) in
      let at : length (check ∷ others) - 1 ≡ suc (length others - 1) = omega (arith, some) in
      let last = ap (λ k. get_or (check ∷ others) k []) at in
      let masked : bit_and padding 7 ≡ padding % 8 = and_mask padding 3 in (
        λ none.
            let both : bit_or x y ≡ 0 = omega (arith, le_or_l (bit_or x y) low, none) in
            let equal : first ≡ 0xa65959a6 = omega (arith, le_or_l x y, both, first_small) in
            let short : y ≡ 0 = omega (arith, le_or_r x y, both) in
            let same : bit_and padding 7 ≡ 8 * (length (check ∷ others) - 1) - from_be_bytes w32
            (drop 4 check) =
            omega (arith, masked, short, is_padding, is_bytes, bytes_small, few) in
            record {
              check = sym (be_bytes_4 (take 4 check) first front f is_first)
                  ∙ ap (to_be_bytes w32) equal;
              least = omega (arith, short, is_padding, is_bytes, bytes_small, few);
              most = omega (arith, short, is_padding, is_bytes, bytes_small, few);
              zeros = (λ j. drop (8 - sym same j) (last j))
                  ∙ is_low.0 (omega (arith, le_or_r (bit_or x y) low, none))
                  ∙ ap (λ m. replicate m 0) same;
            },
        λ right.
            let equal : first ≡ 0xa65959a6 = is_first ∙ ap (from_be_bytes w32) right.check in
            let none : x ≡ 0 = omega (arith, equal) in
            let short : y ≡ 0 =
            omega (arith, right.least, right.most, is_padding, is_bytes, bytes_small, few) in
            let same : bit_and padding 7 ≡ 8 * (length (check ∷ others) - 1) - from_be_bytes w32
            (drop 4 check) =
            omega (arith, masked, short, is_padding, is_bytes, bytes_small, few, right.least) in
            let zeros = (λ j. drop (8 - same j) (sym last j)) ∙ right.zeros
            ∙ ap (λ m. replicate m 0) (sym same) in
            (λ j. bit_or (bit_or (none j) (short j)) (is_low.1 zeros j)),
      )
