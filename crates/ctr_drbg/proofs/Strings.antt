-- Strings of a seed: padding, and sums.
use Rattle.std.proofs.Common.{◌≡◌, ℕ, ◌+◌, ◌-◌, ◌<◌, ◌≤◌, List, [], ◌++◌, length, get_or, take}
use Rattle.std.proofs.Common.{drop, set, ◌≢◌, inl, inr, replicate, bit_xor, sym, ap, ◌∙◌, refl}
use Rattle.std.proofs.Common.{arith}
use Rattle.std.proofs.lemmas.Bool.{cases_eq, cases_lt}
use Rattle.std.proofs.lemmas.Grind.{get_or-set_at}
use Rattle.std.proofs.lemmas.List.{drop-replicate, get_or-set_other}
use Rattle.std.proofs.lemmas.List.{get_or_append_left, get_or-append_right, get_or-replicate}
use Rattle.std.proofs.lemmas.List.{get_or-take, get_or_past, take_all, length-take, length-set}
use Rattle.std.specs.Int.Bits.{xor_zero_r}
use Rattle.aes_planes.proofs.Lists.{build_is, length-build, get_or-build}
use Rattle.ctr_drbg.specs.CtrDrbg.{seed_padded, exclusive_or}

-- a string that is written over zeros is padded
pub written_over : (x : List ℕ) → x ++ drop (length x) (replicate 48 0) ≡ seed_padded x
unfolding seed_padded
written_over x = ap (λ zeros. x ++ zeros) (drop-replicate (length x) 48 0)

-- a sum has the length of the first string
pub length-sum : (x y : List ℕ) → length (exclusive_or x y) ≡ length x
unfolding exclusive_or
length-sum x y = length-build (length x) _

-- byte i of a sum is the sum of both bytes i
pub get_or-sum : (x y : List ℕ) (i : ℕ) → i < length x
    → get_or (exclusive_or x y) i 0 ≡ bit_xor (get_or x i 0) (get_or y i 0)
unfolding exclusive_or
get_or-sum x y i h = get_or-build (length x) i _ 0 h

-- a list whose bytes are sums of both bytes is the sum
pub sum_is : (x y s : List ℕ) → length s ≡ length x
    → ((i : ℕ) → i < length x → bit_xor (get_or x i 0) (get_or y i 0) ≡ get_or s i 0)
    → exclusive_or x y ≡ s
unfolding exclusive_or
sum_is x y s l h = build_is (length x) _ s 0 l h

-- a string plus no bytes is the string
pub sum-nil : (x : List ℕ) → exclusive_or x [] ≡ x
sum-nil x = sum_is x [] x refl (λ i h. xor_zero_r (get_or x i 0))

-- a byte other than i is the same in the first i bytes and in one more
take_more_other : (y : List ℕ) (i j : ℕ) → j ≢ i
    → get_or (take (i + 1) y) j 0 ≡ get_or (take i y) j 0
take_more_other y i j other = elim (cases_lt j i) [
  | inl below ↦ get_or-take (i + 1) y j 0 (omega (arith, below)) ∙ sym (get_or-take i y j 0 below)
  | inr past ↦
      let above : i < j = omega (arith, past, other) in
      get_or_past (take (i + 1) y) j 0 (omega (arith, above, length-take (i + 1) y))
      ∙ sym (get_or_past (take i y) j 0 (omega (arith, above, length-take i y)))
]

-- a sum to which one more byte is added, in its place, is the sum with one more byte
pub summed_one : (x y s : List ℕ) (i v : ℕ) → s ≡ exclusive_or x (take i y) → i < length y
    → i < length x
    → v ≡ bit_xor (get_or s i 0) (get_or y i 0) → set s i v ≡ exclusive_or x (take (i + 1) y)
summed_one x y s i v is inside fits added =
    sym (sum_is x (take (i + 1) y) (set s i v) (length-set s i v ∙ sized) bytes)
  where
    sized : length s ≡ length x
    sized = ap length is ∙ length-sum x (take i y)

    was : (j : ℕ) → j < length x → get_or s j 0 ≡ bit_xor (get_or x j 0) (get_or (take i y) j 0)
    was j h = ap (λ l. get_or l j 0) is ∙ get_or-sum x (take i y) j h

    here : get_or s i 0 ≡ get_or x i 0
    here = was i fits ∙ ap (bit_xor (get_or x i 0))
        (get_or_past (take i y) i 0 (omega (arith, length-take i y)))
        ∙ xor_zero_r (get_or x i 0)

    bytes : (j : ℕ) → j < length x → bit_xor (get_or x j 0) (get_or (take (i + 1) y) j 0)
        ≡ get_or (set s i v) j 0
    bytes j h = elim (cases_eq j i) [
      | inl same ↦
          ap (λ k. bit_xor (get_or x k 0) (get_or (take (i + 1) y) k 0)) same
          ∙ ap (bit_xor (get_or x i 0)) (get_or-take (i + 1) y i 0 (omega arith))
          ∙ sym (added ∙ ap (λ b. bit_xor b (get_or y i 0)) here)
          ∙ sym (get_or-set_at s i j v 0 same (omega (arith, same, sized, fits)))
      | inr other ↦ ap (bit_xor (get_or x j 0)) (take_more_other y i j other) ∙ sym (was j h)
          ∙ sym (get_or-set_other s i j v 0 other)
    ]

-- a padded string has the bytes of the string, and zeros
get_or-padded : (y : List ℕ) (i : ℕ) → length y ≤ 48 → i < 48 → get_or (seed_padded y) i 0 ≡ get_or y i 0
unfolding seed_padded
get_or-padded y i fits h = elim (cases_lt i (length y)) [
  | inl below ↦ get_or_append_left y (replicate (48 - length y) 0) 0 i below
  | inr past ↦ get_or-append_right y (replicate (48 - length y) 0) (length y) i 0 refl past
      ∙ get_or-replicate (48 - length y) (i - length y) 0 0 (omega (arith, past, h, fits))
      ∙ sym (get_or_past y i 0 past)
]

-- padding adds nothing to a sum
pub sum-padded : (x y : List ℕ) (i : ℕ) → length x ≡ 48 → length y ≤ 48 → length y ≤ i
    → exclusive_or x (take i y) ≡ exclusive_or x (seed_padded y)
sum-padded x y i sized fits all =
    ap (exclusive_or x) (take_all i y all)
    ∙ sum_is x y (exclusive_or x (seed_padded y)) (length-sum x (seed_padded y))
    (λ j h. sym (get_or-sum x (seed_padded y) j h
    ∙ ap (bit_xor (get_or x j 0)) (get_or-padded y j fits (omega (arith, h, sized)))))

-- what the loop uses that adds a string to a seed
pub ruleset added = (sum-nil, summed_one, sum-padded)
