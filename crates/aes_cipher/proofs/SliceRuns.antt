-- Loops that leave f of every element of a slice, a run of elements at a time or one: what stays
-- the same while they run.
use Rattle.std.proofs.Common.{◌≡◌, ℕ, ◌+◌, ◌≤◌, ◌<◌, List, [], ◌∷◌, ◌++◌, map, take, drop, set}
use Rattle.std.proofs.Common.{get_or, length, sym, ap, ◌∙◌, ◌-◌, arith, append_assoc, refl}
use Rattle.std.proofs.lemmas.List.{map-append, drop-drop, take-append-drop, take_more_set}
use Rattle.std.proofs.lemmas.List.{drop_more, length-map, length-take, length-drop, drop-set-lt}
use Rattle.std.proofs.lemmas.List.{take_all, drop_all, append-nil}
use Rattle.std.proofs.lemmas.Slice.{take-put_mid, drop-put_mid}
use borrow.Rule.Slice.PartMut.{put_mid, same_len_mid}

-- what a loop that has come to place i leaves in the end: the elements before it, and f of each
-- from it on
abbrev pub finished : {X : Type 0} → (X → X) → ℕ → List X → List X
finished f i xs = take i xs ++ map f (drop i xs)

-- where nothing is left, every element is finished
all_finished : {X : Type 0} (f : X → X) (n : ℕ) (xs : List X) → length xs ≤ n
    → finished f n xs ≡ xs
all_finished f n xs le = ap (λ l. take n xs ++ map f l) (drop_all n xs le) ∙ append-nil (take n xs)
    ∙ take_all n xs le

-- writing f of a run of n elements from place i on in their places keeps what the loop leaves in
-- the end
pub finished_run : {X : Type 0} (f : X → X) (i n k : ℕ) (xs ys : List X) → k ≡ n
    → i + n ≤ length xs → ys
    ≡ map f (take k (drop i xs)) → finished f (i + n) (put_mid i k xs ys) ≡ finished f i xs
finished_run f i n k xs ys same fits is =
    let long : length ys ≡ n = ap length is ∙ length-map (take k (drop i xs)) f
    ∙ omega (arith, length-take k (drop i xs), length-drop i xs) in
    let front : take (i + n) (put_mid i k xs ys) ≡ take i xs ++ ys =
    take-put_mid i k xs ys (i + n) (omega arith)
    (omega arith) in
    let back : drop (i + n) (put_mid i k xs ys) ≡ drop (i + n) xs =
    drop-put_mid i k xs ys (i + n) (omega arith)
    (omega arith) (omega arith) in
    let split : drop (i + n) xs ≡ drop k (drop i xs) = ap (λ m. drop (i + m) xs) (sym same)
    ∙ sym (drop-drop k i xs) in
    let rest : ys ++ map f (drop k (drop i xs)) ≡ map f (drop i xs) =
    ap (λ l. l ++ map f (drop k (drop i xs))) is
    ∙ sym (map-append f (take k (drop i xs)) (drop k (drop i xs)))
    ∙ ap (map f) (take-append-drop k (drop i xs)) in
    ap (λ l. l ++ map f (drop (i + n) (put_mid i k xs ys))) front
    ∙ ap (λ l. (take i xs ++ ys) ++ map f l)
    (back ∙ split) ∙ append_assoc (take i xs) ys _ ∙ ap (λ l. take i xs ++ l) rest

-- writing f of the element at place i in its place keeps what the loop leaves in the end
pub finished_one : {X : Type 0} (f : X → X) (i : ℕ) (xs : List X) (d : X) → i < length xs
    → finished f (i + 1) (set xs i (f (get_or xs i d))) ≡ finished f i xs
finished_one f i xs d fits =
    let y = f (get_or xs i d) in
    ap (λ l. l ++ map f (drop (i + 1) (set xs i y))) (take_more_set xs i y fits)
    ∙ ap (λ l. (take i xs ++ y ∷ []) ++ map f l) (drop-set-lt (i + 1) xs i y (omega arith))
    ∙ append_assoc (take i xs) (y ∷ []) _
    ∙ ap (λ l. take i xs ++ map f l) (sym (drop_more xs i d fits))

-- writing f of all elements from place n on in their places makes what the loop leaves in the end
pub end_finished : {X : Type 0} (f : X → X) (n k : ℕ) (ys zs : List X) → n ≤ length ys
    → k ≡ length ys - n
    → zs ≡ map f (take k (drop n ys)) → put_mid n k ys zs ≡ finished f n ys
end_finished f n k ys zs within rest is =
    let sized : length (put_mid n k ys zs) ≡ length ys =
    same_len_mid n k ys zs (ap length is ∙ length-map (take k (drop n ys)) f) in
    let long : length (put_mid n k ys zs) ≤ n + k = omega (arith, sized, rest, within) in
    sym (all_finished f (n + k) (put_mid n k ys zs) long)
    ∙ finished_run f n k k ys zs refl (omega (arith, rest, within)) is
