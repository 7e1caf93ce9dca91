-- The first elements of a list, each made f of what it was; each of the others is that too, or what
-- it was.
use Rattle.std.proofs.Common.{◌≡◌, ◌⊎◌, inl, inr, ℕ, ◌-◌, ◌<◌, ◌≤◌, List, [], ◌∷◌, map, take, set}
use Rattle.std.proofs.Common.{get_or, length, sym, ap, ◌∙◌, arith, get_or-set_other}
use Rattle.std.proofs.lemmas.Bool.{cases_eq, cases_lt}
use Rattle.std.proofs.lemmas.Grind.{get_or-set_at}
use Rattle.std.proofs.lemmas.List.{get_or-drop, get_or-map, get_or-take, get_or_append_left}
use Rattle.std.proofs.lemmas.List.{get_or-append_right, length-map, length-take, take-map}
use borrow.Rule.Slice.PartMut.{put_mid}

-- the first elements of a list are made f of what they were, if each element is
pub firsts_if_each : {X : Type 0} (f : X → X) (n : ℕ) (xs ys : List X) → ys ≡ map f xs
    → take n ys ≡ map f (take n xs)
firsts_if_each f n xs ys e = ap (take n) e ∙ take-map f n xs

-- the first element of a list is made f of what it was, if that one alone is
pub first_if_one : {X : Type 0} (f : X → X) (n : ℕ) (xs : List X) (d : X) → n ≡ 1 → 0 < length xs
    → take n (set xs 0 (f (get_or xs 0 d))) ≡ map f (take n xs)
first_if_one f n [] d e some = absurd (omega (arith, some))
first_if_one f n (x ∷ xs) d e some = ap (λ m. take m (f x ∷ xs)) e
    ∙ sym (ap (λ m. map f (take m (x ∷ xs))) e)

-- one of the first elements of a list is made f of what it was, if the first ones are
pub one_of_firsts : {X : Type 0} (f : X → X) (n i : ℕ) (xs ys : List X) (d : X)
    → take n ys ≡ map f (take n xs) → i < n
    → n ≤ length xs → get_or ys i d ≡ f (get_or xs i d)
one_of_firsts f n i xs ys d firsts lt fits =
    sym (get_or-take n ys i d lt) ∙ ap (λ l. get_or l i d) firsts
    ∙ get_or-map f (take n xs) i d d (omega (arith, lt, fits, length-take n xs))
    ∙ ap f (get_or-take n xs i d lt)

-- any element of a list is made f of what it was, if each is
pub any_if_each : {X : Type 0} (f : X → X) (i : ℕ) (xs ys : List X) (d : X) → ys ≡ map f xs
    → i < length xs
    → (get_or ys i d ≡ f (get_or xs i d)) ⊎ (get_or ys i d ≡ get_or xs i d)
any_if_each f i xs ys d e lt = inl (ap (λ l. get_or l i d) e ∙ get_or-map f xs i d d lt)

-- any element of a list is made f of what it was, or is unchanged, if one element is made f of what
-- it was
pub any_if_one : {X : Type 0} (f : X → X) (i k : ℕ) (xs : List X) (d : X) → i < length xs
    → (get_or (set xs k (f (get_or xs k d))) i d ≡ f (get_or xs i d))
    ⊎ (get_or (set xs k (f (get_or xs k d))) i d ≡ get_or xs i d)
any_if_one f i k xs d lt = elim (cases_eq i k) [
  | inl same ↦ inl (get_or-set_at xs k i (f (get_or xs k d)) d same (omega (arith, same, lt))
      ∙ ap (λ m. f (get_or xs m d)) (sym same))
  | inr other ↦ inr (get_or-set_other xs k i (f (get_or xs k d)) d other)
]

-- any element of a list is made f of what it was, or is unchanged, if the first n are made f of
-- what they were
pub any_if_firsts : {X : Type 0} (f : X → X) (i n : ℕ) (xs zs : List X) (d : X)
    → zs ≡ map f (take n xs) → n ≤ length xs
    → i < length xs
    → (get_or (put_mid 0 n xs zs) i d ≡ f (get_or xs i d))
    ⊎ (get_or (put_mid 0 n xs zs) i d ≡ get_or xs i d)
any_if_firsts f i n xs zs d is fits lt =
    let long : length zs ≡ n = ap length is ∙ length-map (take n xs) f
    ∙ omega (arith, fits, length-take n xs) in
    elim (cases_lt i n) [
      | inl below ↦ inl (get_or_append_left zs _ d i (omega (arith, long, below))
          ∙ ap (λ l. get_or l i d) is
          ∙ get_or-map f (take n xs) i d d (omega (arith, below, fits, length-take n xs))
          ∙ ap f (get_or-take n xs i d below))
      | inr past ↦ inr (get_or-append_right zs _ n i d long past ∙ get_or-drop n xs (i - n) d
          ∙ ap (λ m. get_or xs m d) (omega (arith, past)))
    ]

-- what a call on the first blocks of a batch uses
pub ruleset first_blocks = (firsts_if_each, first_if_one, any_if_each, any_if_one, any_if_firsts)
