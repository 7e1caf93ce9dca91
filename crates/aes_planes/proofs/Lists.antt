-- Lists that are built of a function, and lists with the same elements.
use Rattle.std.proofs.Common.{◌≡◌, ℕ, zero, suc, ◌+◌, ◌<◌, List, [], ◌∷◌, length, get_or, map, take}
use Rattle.std.proofs.Common.{drop, ◌++◌, refl, ap, sym, subst, ◌∙◌, arith}
use lib.Lanes.{zip2}
use Rattle.aes_planes.specs.Fips197.{build, build_from}
pub use Rattle.aes_planes.specs.Private.BuiltLength.{length-build}

-- an element of a list that is built from any start, by recursion
get_or-build_from : {A : Type 0} (a n i : ℕ) (f : ℕ → A) (d : A) → i < n
    → get_or (build_from a n f) i d ≡ f (a + i)
unfolding build_from
get_or-build_from a zero i f d h = absurd (omega arith)
get_or-build_from a (suc n) zero f d h = ap f (omega arith)
get_or-build_from a (suc n) (suc i) f d h = get_or-build_from (a + 1) n i f d (omega arith)
    ∙ ap f (omega arith)

-- element i of the list built of f is f i
pub get_or-build : {A : Type 0} (n i : ℕ) (f : ℕ → A) (d : A) → i < n → get_or (build n f) i d ≡ f i
unfolding build
get_or-build n i f d h = get_or-build_from 0 n i f d h ∙ ap f (omega arith)

-- what holds of each of f's values, and of what stands past the end, holds in each place
build_from_each : {A : Type 0} (P : A → Type 0) (d : A) → P d → (a n : ℕ) (f : ℕ → A)
    → ((i : ℕ) → P (f i)) → (i : ℕ)
    → P (get_or (build_from a n f) i d)
unfolding build_from
build_from_each P d past a zero f h i = past
build_from_each P d past a (suc n) f h zero = h a
build_from_each P d past a (suc n) f h (suc i) = build_from_each P d past (a + 1) n f h i

-- what holds of each f i, and of what stands past the end, holds at every place of the list built
-- of f
pub build_each : {A : Type 0} (P : A → Type 0) (d : A) → P d → (n : ℕ) (f : ℕ → A)
    → ((i : ℕ) → P (f i)) → (i : ℕ)
    → P (get_or (build n f) i d)
unfolding build
build_each P d past = build_from_each P d past 0

-- a list that has f's values is the list built of f
build_from_is : {A : Type 0} (a n : ℕ) (f : ℕ → A) (xs : List A) (d : A) → length xs ≡ n
    → ((i : ℕ) → i < n → f (a + i) ≡ get_or xs i d) → build_from a n f ≡ xs
unfolding build_from
build_from_is a zero f [] d l h = refl
build_from_is a zero f (x ∷ xs) d l h = absurd (omega arith)
build_from_is a (suc n) f [] d l h = absurd (omega arith)
build_from_is a (suc n) f (x ∷ xs) d l h =
    let e : a ≡ a + 0 = omega arith in
    let t : build_from (a + 1) n f ≡ xs = build_from_is (a + 1) n f xs d (omega arith)
    (λ i lt. let s : a + 1 + i ≡ a + suc i = omega arith in ap f s ∙ h (suc i) (omega arith)) in
    (λ j. (ap f e ∙ h 0 (omega arith)) j ∷ t j)

-- a list that has f's values from place 0 on is the list built of f
pub build_is : {A : Type 0} (n : ℕ) (f : ℕ → A) (xs : List A) (d : A) → length xs ≡ n
    → ((i : ℕ) → i < n → f i ≡ get_or xs i d) → build n f ≡ xs
unfolding build
build_is n f xs d l h =
    build_from_is 0 n f xs d l (λ i lt. let s : 0 + i ≡ i = omega arith in ap f s ∙ h i lt)

-- a list is built of its elements
pub build-get_or : {A : Type 0} (n : ℕ) (xs : List A) (d : A) → length xs ≡ n
    → build n (λ i. get_or xs i d) ≡ xs
build-get_or n xs d l = build_is n (λ i. get_or xs i d) xs d l (λ i lt. refl)

-- ---- lists of sixteen elements

-- what is the same of blocks that are built of functions is the same of all
pub same_on_blocks : (F G : List ℕ → List ℕ → List ℕ)
    → ((f g : ℕ → ℕ) → F (build 16 f) (build 16 g) ≡ G (build 16 f) (build 16 g))
    → (x k : List ℕ) → length x ≡ 16 → length k ≡ 16 → F x k ≡ G x k
same_on_blocks F G h x k l m =
    subst (λ v. F v k ≡ G v k) (build-get_or 16 x 0 l) (subst (λ w. F (build 16 (λ i. get_or x i 0)) w
    ≡ G (build 16 (λ i. get_or x i 0)) w) (build-get_or 16 k 0 m)
    (h (λ i. get_or x i 0) (λ i. get_or k i 0)))

-- what is the same of a block that is built of a function is the same of all
pub same_on_block : (F G : List ℕ → List ℕ) → ((f : ℕ → ℕ) → F (build 16 f) ≡ G (build 16 f))
    → (x : List ℕ)
    → length x ≡ 16 → F x ≡ G x
same_on_block F G h x l = subst (λ v. F v ≡ G v) (build-get_or 16 x 0 l) (h (λ i. get_or x i 0))

-- ---- what a function makes of lists

-- two functions with the same values leave the same of each element
pub map-ext : {A B : Type 0} (f g : A → B) (xs : List A) → ((x : A) → f x ≡ g x)
    → map f xs ≡ map g xs
map-ext f g [] e = refl
map-ext f g (x ∷ xs) e = (λ t. e x t ∷ map-ext f g xs e t)

-- ---- what a function makes of two lists, place by place

-- nothing is made of a list and an empty one
zip2_nil : (f : ℕ → ℕ → ℕ) (xs : List ℕ) → zip2 f xs [] ≡ []
zip2_nil f [] = refl
zip2_nil f (x ∷ xs) = refl

-- the first elements of what is made of two lists are made of the first of both
pub zip2_take : (f : ℕ → ℕ → ℕ) (n : ℕ) (xs ys : List ℕ)
    → take n (zip2 f xs ys) ≡ zip2 f (take n xs) (take n ys)
zip2_take f zero xs ys = refl
zip2_take f (suc n) [] ys = refl
zip2_take f (suc n) (x ∷ xs) [] = refl
zip2_take f (suc n) (x ∷ xs) (y ∷ ys) = ap (λ l. f x y ∷ l) (zip2_take f n xs ys)

-- what is made of two lists, but for the first elements, is made of both without their first
pub zip2_drop : (f : ℕ → ℕ → ℕ) (n : ℕ) (xs ys : List ℕ)
    → drop n (zip2 f xs ys) ≡ zip2 f (drop n xs) (drop n ys)
zip2_drop f zero xs ys = refl
zip2_drop f (suc n) [] ys = refl
zip2_drop f (suc n) (x ∷ xs) [] = sym (zip2_nil f (drop n xs))
zip2_drop f (suc n) (x ∷ xs) (y ∷ ys) = zip2_drop f n xs ys

-- f of two lists of two parts each, element by element, is f of each part
pub zip2_append : (f : ℕ → ℕ → ℕ) (a b c d : List ℕ) → length a ≡ length c
    → zip2 f (a ++ b) (c ++ d) ≡ zip2 f a c ++ zip2 f b d
zip2_append f [] b [] d same = refl
zip2_append f [] b (y ∷ c) d same = absurd (omega (arith, same))
zip2_append f (x ∷ a) b [] d same = absurd (omega (arith, same))
zip2_append f (x ∷ a) b (y ∷ c) d same =
    ap (λ l. f x y ∷ l) (zip2_append f a b c d (omega (arith, same)))
