-- Claims on a few bits by all cases, and lists of eight and of sixteen by their elements.
use Rattle.std.proofs.Common.{◌≡◌, ℕ, zero, suc, Bool, true, false, not, cond, ◌&&◌, ◌||◌, List, []}
use Rattle.std.proofs.Common.{◌∷◌, length, get_or, refl, sym, arith, inl, inr}
use Rattle.std.proofs.lemmas.Bool.{and_parts, or_cases, both_ways}
use Rattle.std.proofs.lemmas.List.{get_or_default}
use Rattle.aes_planes.specs.Bits.{at, xor}
use Rattle.aes_planes.specs.Fips197.{build}
use Rattle.aes_planes.proofs.Lists.{build_is}

-- whether two bits are the same
unfoldable pub same : Bool → Bool → Bool
same true b = b
same false b = not b

-- bits that test the same are the same
pub same_tells : (a b : Bool) → same a b ≡ true → a ≡ b
unfolding same
same_tells true b h = sym h
same_tells false true h = grind arith
same_tells false false h = refl

-- the exclusive or with 0 changes nothing
pub xor_false : (a : Bool) → xor a false ≡ a
xor_false true = refl
xor_false false = refl

-- the exclusive or with 1 turns a bit over
pub xor_true : (a : Bool) → xor a true ≡ not a
xor_true true = refl
xor_true false = refl

-- whether p holds of every list of n bits
unfoldable pub all_bools : ℕ → (List Bool → Bool) → Bool
all_bools zero p = p []
all_bools (suc n) p = all_bools n (λ bs. p (true ∷ bs)) && all_bools n (λ bs. p (false ∷ bs))

-- a test that holds of every list of n bits holds of each
pub all_bools_tells : (n : ℕ) (p : List Bool → Bool) → all_bools n p ≡ true → (bs : List Bool)
    → length bs ≡ n
    → p bs ≡ true
unfolding all_bools
all_bools_tells zero p h [] e = h
all_bools_tells zero p h (b ∷ bs) e = absurd (omega arith)
all_bools_tells (suc n) p h [] e = absurd (omega arith)
all_bools_tells (suc n) p h (true ∷ bs) e =
    all_bools_tells n (λ bs. p (true ∷ bs)) (and_parts _ _ h).0 bs (omega arith)
all_bools_tells (suc n) p h (false ∷ bs) e =
    all_bools_tells n (λ bs. p (false ∷ bs)) (and_parts _ _ h).1 bs
    (omega arith)

-- ---- swaps

-- the test of all 32 cases of `swapped`
swap_test : List Bool → Bool
swap_test b = (at b 3 && at b 4) || same (xor (xor (at b 0) (xor (at b 0) (at b 1) && at b 3))
    (xor (at b 2) (at b 0) && at b 4)) (cond (at b 3) (at b 1) (cond (at b 4) (at b 2) (at b 0)))

-- the bit that a swap by sums leaves: y under its own mask, z under its partner's, else x
pub swapped : (x y z own partner : Bool) → (own && partner) ≡ false
    → xor (xor x (xor x y && own)) (xor z x && partner) ≡ cond own y (cond partner z x)
unfolding all_bools swap_test same
swapped x y z own partner e =
    elim (or_cases (own && partner) _
    (all_bools_tells 5 swap_test refl (x ∷ y ∷ z ∷ own ∷ partner ∷ []) refl)) [
      | inl both ↦ absurd (both_ways _ e both)
      | inr t ↦ same_tells _ _ t
    ]

-- ---- lists

-- a list of eight is the list of its elements
pub list_of_eight : {A : Type 0} (xs : List A) (a b c d e f g h : A) → length xs ≡ 8
    → xs ≡ get_or xs 0 a ∷ get_or xs 1 b ∷ get_or xs 2 c ∷ get_or xs 3 d ∷ get_or xs 4 e
    ∷ get_or xs 5 f ∷ get_or xs 6 g
    ∷ get_or xs 7 h ∷ []
unfolding build
list_of_eight xs a b c d e f g h l =
    sym (build_is 8 (λ i. get_or xs i (get_or (a ∷ b ∷ c ∷ d ∷ e ∷ f ∷ g ∷ h ∷ []) i a)) xs a l
    (λ i lt. get_or_default xs i _ a (omega arith)))
