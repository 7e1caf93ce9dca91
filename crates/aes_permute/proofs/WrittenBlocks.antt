-- Slices processed some blocks at a time.
use Rattle.std.proofs.Common.{◌≡◌, ◌≢◌, ℕ, zero, suc, ◌+◌, ◌*◌, ◌<◌, ◌≤◌, List, [], length, set}
use Rattle.std.proofs.Common.{get_or, ap, sym, ◌∙◌, arith, refl, get_or-set_other}
use Rattle.std.proofs.lemmas.List.{length-set}
use Rattle.aes_cipher.proofs.SliceRuns.{finished, finished_one}
use Rattle.aes_permute.specs.Vectors.{written}

-- once place i has f of its element, what is left to finish from place i + 1 on is as it was from i
finished_is : {X : Type 0} (f : X → X) (i : ℕ) (xs : List X) (y d : X) → i < length xs
    → y ≡ f (get_or xs i d)
    → finished f (i + 1) (set xs i y) ≡ finished f i xs
finished_is f i xs y d fits e = ap (λ v. finished f (i + 1) (set xs i v)) e
    ∙ finished_one f i xs d fits

-- writing blocks doesn't change a slice's length
pub length-written : (b : ℕ → List ℕ) (n i : ℕ) (xs : List (List ℕ))
    → length (written b n i xs) ≡ length xs
unfolding written
length-written b zero i xs = refl
length-written b (suc n) i xs = length-set (written b n i xs) (i + n) (b n)
    ∙ length-written b n i xs

-- writing blocks changes nothing after them
written_after : (b : ℕ → List ℕ) (n i k : ℕ) (xs : List (List ℕ)) → i + n ≤ k
    → get_or (written b n i xs) k [] ≡ get_or xs k []
unfolding written
written_after b zero i k xs after = refl
written_after b (suc n) i k xs after =
    let other : k ≢ i + n = omega (arith, after) in
    get_or-set_other (written b n i xs) (i + n) k (b n) [] other
    ∙ written_after b n i k xs (omega (arith, after))

-- writing f of n blocks from place i on in their places keeps what the loop leaves in the end
pub finished_written : (f : List ℕ → List ℕ) (b : ℕ → List ℕ) (n i : ℕ) (xs : List (List ℕ))
    → i + n ≤ length xs
    → ((k : ℕ) → k < n → b k ≡ f (get_or xs (i + k) []))
    → finished f (i + n) (written b n i xs) ≡ finished f i xs
unfolding written
finished_written f b zero i xs fits is =
    let e : i + 0 ≡ i = omega arith in
    ap (λ m. finished f m xs) e
finished_written f b (suc n) i xs fits is =
    let front = written b n i xs in
    let next : i + suc n ≡ i + n + 1 = omega arith in
    ap (λ m. finished f m (set front (i + n) (b n))) next
    ∙ finished_is f (i + n) front (b n) [] (omega (arith, fits, length-written b n i xs))
    (is n (omega arith) ∙ ap f (sym (written_after b n i (i + n) xs (omega arith))))
    ∙ finished_written f b n i xs (omega (arith, fits)) (λ k below. is k (omega (arith, below)))

-- writing f of 2 n blocks from place i on, those of two vectors, keeps what the loop leaves in the
-- end
pub finished_two : (f : List ℕ → List ℕ) (b c : ℕ → List ℕ) (n i : ℕ) (xs : List (List ℕ))
    → i + 2 * n ≤ length xs
    → ((k : ℕ) → k < n → b k ≡ f (get_or xs (i + k) []))
    → ((k : ℕ) → k < n → c k ≡ f (get_or xs (i + n + k) []))
    → finished f (i + 2 * n) (written c n (i + n) (written b n i xs)) ≡ finished f i xs
finished_two f b c n i xs fits is_b is_c =
    let front = written b n i xs in
    let two : i + 2 * n ≡ i + n + n = omega arith in
    ap (λ m. finished f m (written c n (i + n) front)) two
    ∙ finished_written f c n (i + n) front (omega (arith, fits, length-written b n i xs))
    (λ k below. is_c k below ∙ ap f (sym (written_after b n i (i + n + k) xs (omega arith))))
    ∙ finished_written f b n i xs (omega (arith, fits)) is_b
