-- Two lists, place by place.
use Rattle.std.proofs.Common.{◌≡◌, ℕ, zero, suc, ◌+◌, ◌<◌, List, [], ◌∷◌, ◌++◌, length, map, take}
use Rattle.std.proofs.Common.{drop, get_or, set, refl, ap, ◌∙◌, arith}
use Rattle.aes_planes.specs.Planes.{zip_with}

-- what a loop that has come to place i leaves in the end: the elements before it, and f of both
-- from it on
abbrev pub zipped_from : {X : Type 0} → (X → X → X) → ℕ → List X → List X → List X
zipped_from f i xs ys = take i xs ++ zip_with f (drop i xs) (drop i ys)

-- a step on the elements of the first list can be taken where f meets both
pub zip_with-map : {X : Type 0} (f : X → X → X) (step : X → X) (xs ys : List X)
    → zip_with f (map step xs) ys
    ≡ zip_with (λ x y. f (step x) y) xs ys
zip_with-map f step [] ys = refl
zip_with-map f step (x ∷ xs) [] = refl
zip_with-map f step (x ∷ xs) (y ∷ ys) = ap (λ zs. f (step x) y ∷ zs) (zip_with-map f step xs ys)

-- a step of a loop that leaves f of both lists' elements, place by place
zipped_next : {X : Type 0} (f : X → X → X) (i : ℕ) (xs ys : List X) (d : X) → i < length xs
    → i < length ys
    → zipped_from f (suc i) (set xs i (f (get_or xs i d) (get_or ys i d))) ys
    ≡ zipped_from f i xs ys
zipped_next f i [] ys d lt le = absurd (omega arith)
zipped_next f i (x ∷ xs) [] d lt le = absurd (omega arith)
zipped_next f zero (x ∷ xs) (y ∷ ys) d lt le = refl
zipped_next f (suc i) (x ∷ xs) (y ∷ ys) d lt le =
    ap (λ zs. x ∷ zs) (zipped_next f i xs ys d (omega arith) (omega arith))

-- once place i has f of both elements there, the loop leaves the same from place i + 1 on as it did
-- from i
pub zipped_step : (f : List ℕ → List ℕ → List ℕ) (i : ℕ) (xs ys : List (List ℕ)) (x : List ℕ)
    → i < length xs
    → i < length ys → x ≡ f (get_or xs i []) (get_or ys i [])
    → zipped_from f (i + 1) (set xs i x) ys ≡ zipped_from f i xs ys
zipped_step f i xs ys x lt le e =
    let next : i + 1 ≡ suc i = omega arith in
    (λ t. zipped_from f (next t) (set xs i (e t)) ys) ∙ zipped_next f i xs ys [] lt le
