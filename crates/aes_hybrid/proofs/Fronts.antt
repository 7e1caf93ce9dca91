-- Slices of which whole batches are processed, and what is left as a part of one batch more.
use Rattle.std.proofs.Common.{◌≡◌, ℕ, ◌-◌, ◌*◌, ◌/◌, ◌%◌, ◌≤◌, List, ◌++◌, length, map, take, drop}
use Rattle.std.proofs.Common.{ap, sym, ◌∙◌, arith}
use Rattle.std.proofs.Math.Nat.{div-add-mod, mul-mod_right}
use borrow.Rule.Slice.PartMut.{put_mid}
use Rattle.std.proofs.lemmas.List.{length-take-le, map-append, take-append-drop}
use Rattle.aes_cipher.proofs.SliceRuns.{end_finished}

-- elements of a slice, but for what is left of them after batches of s, are whole batches
pub whole_batches : {X : Type 0} (xs : List X) (s k : ℕ) → k ≡ s
    → length (take (length xs - length xs % k) xs) % s ≡ 0
whole_batches xs s k same =
    let m : ℕ = length xs in
    let parts = div-add-mod m k in
    let sized : length (take (m - m % k) xs) ≡ m - m % k =
    length-take-le (m - m % k) xs (omega arith) in
    let product : length (take (m - m % k) xs) ≡ k * (m / k) = omega (arith, sized, parts) in
    (λ i. product i % sym same i) ∙ mul-mod_right k (m / k)

-- all elements of a list are f of what they were, once f of the first n is written in their places,
-- and then of those from place n on
pub first_then_others : {X : Type 0} (f : X → X) (n k : ℕ) (xs ys zs : List X) → n ≤ length xs
    → length ys ≡ length xs
    → k ≡ length ys - n → take n ys ≡ map f (take n xs) → drop n ys ≡ drop n xs
    → zs ≡ map f (take k (drop n ys)) → put_mid n k ys zs ≡ map f xs
first_then_others f n k xs ys zs within sized rest first others is =
    end_finished f n k ys zs (omega (arith, within, sized)) rest is
    ∙ (λ i. first i ++ map f (others i))
    ∙ sym (map-append f (take n xs) (drop n xs)) ∙ ap (map f) (take-append-drop n xs)
