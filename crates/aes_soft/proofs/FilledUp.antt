-- Blocks that are processed as the first of a batch, which copies of one fill up.
use Rattle.std.proofs.Common.{◌≡◌, ℕ, ◌-◌, List, ◌++◌, length, map, take, drop, replicate, ap, sym}
use Rattle.std.proofs.Common.{◌∙◌, arith}
use lib.Seq.{take-length}
use Rattle.std.proofs.Math.Seq.{take-append_seam}
use Rattle.std.proofs.lemmas.List.{take_all, take-map, take-append-drop, drop-replicate}

-- elements written one by one over the first of copies of one are those elements, and then copies
pub filled : {X : Type 0} (k m : ℕ) (x : X) (xs ys : List X) → k ≡ length xs
    → take k ys ≡ take k xs → drop k ys ≡ drop k (replicate m x)
    → ys ≡ xs ++ replicate (m - length xs) x
filled k m x xs ys end first others =
    sym (take-append-drop k ys) ∙ (λ i. first i ++ others i)
    ∙ (λ i. take (end i) xs ++ drop (end i) (replicate m x))
    ∙ (λ i. take-length xs i ++ drop-replicate (length xs) m x i)

-- elements that were all copied from the front of others are the first of those
pub all_copied : {X : Type 0} (k n : ℕ) (xs ys : List X) → k ≡ n → length xs ≡ n
    → take k xs ≡ take k ys → xs ≡ take n ys
all_copied k n xs ys e l p =
    sym (take_all k xs (omega (arith, e, l))) ∙ p ∙ ap (λ m. take m ys) e

-- the first of a batch that is processed, whose first blocks are those that it was filled up from
pub first_processed : {X : Type 0} (f : X → X) (xs more bs zs ws : List X)
    → ws ≡ take (length xs) zs → zs ≡ map f bs → bs ≡ xs ++ more → ws ≡ map f xs
first_processed f xs more bs zs ws e1 e2 e3 =
    e1 ∙ ap (take (length xs)) (e2 ∙ ap (map f) e3)
    ∙ take-map f (length xs) (xs ++ more) ∙ ap (map f) (take-append_seam xs more)
