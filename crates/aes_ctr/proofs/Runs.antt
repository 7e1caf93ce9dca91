-- Loops that add a stream to a list, a run of bytes at a time or one: what stays the same while
-- they run.
use Rattle.std.proofs.Common.{◌≡◌, ℕ, ◌+◌, ◌≤◌, ◌<◌, List, [], ◌∷◌, ◌++◌, take, drop, set, get_or}
use Rattle.std.proofs.Common.{length, bit_xor, sym, ap, subst, refl, ◌∙◌, arith, append_assoc}
use Rattle.std.proofs.lemmas.List.{append-nil, drop-drop, take-append-drop, take_more_set}
use Rattle.std.proofs.lemmas.List.{drop_more, take_all, drop_all, length-take, length-drop}
use Rattle.std.proofs.lemmas.List.{drop-set-lt}
use Rattle.std.proofs.lemmas.Slice.{take-put_mid, drop-put_mid}
use Rattle.aes_ctr.specs.CounterMode.{plus_stream}
use Rattle.aes_ctr.specs.Private.{added_from}
use Rattle.aes_ctr.proofs.Sums.{length-plus, plus-ext, plus-nil, plus-cons, plus-append}
use Rattle.aes_ctr.proofs.Sums.{plus-whole}
use borrow.Rule.Slice.PartMut.{put_mid}

-- the sum of the stream and a run of n bytes from place i on, written in their places; what adds it
-- may take the stream from elsewhere
pub added_run : (s t : ℕ → ℕ) (p q i n k : ℕ) (xs ys : List ℕ) → k ≡ n → i + n ≤ length xs
    → ys ≡ plus_stream t q (take k (drop i xs)) → ((j : ℕ) → j < n → t (q + j) ≡ s (p + i + j))
    → added_from s p (i + n) (put_mid i k xs ys) ≡ added_from s p i xs
added_run s t p q i n k xs ys same fits is agree =
    let part : length (take k (drop i xs)) ≡ n =
    omega (arith, length-take k (drop i xs), length-drop i xs) in
    let long : length ys ≡ n = ap length is ∙ length-plus t q (take k (drop i xs)) ∙ part in
    let sum : ys ≡ plus_stream s (p + i) (take k (drop i xs)) =
    is ∙ plus-ext t s q (p + i) (take k (drop i xs)) (λ j inside. agree j (omega arith)) in
    let front : take (i + n) (put_mid i k xs ys) ≡ take i xs ++ ys =
    take-put_mid i k xs ys (i + n) (omega arith)
    (omega arith) in
    let back : drop (i + n) (put_mid i k xs ys) ≡ drop (i + n) xs =
    drop-put_mid i k xs ys (i + n) (omega arith) (omega arith) (omega arith) in
    let split : drop (i + n) xs ≡ drop k (drop i xs) = ap (λ m. drop (i + m) xs) (sym same)
    ∙ sym (drop-drop k i xs) in
    let place : p + (i + n) ≡ p + i + length (take k (drop i xs)) = omega (arith, part) in
    let rest : ys ++ plus_stream s (p + (i + n)) (drop k (drop i xs))
    ≡ plus_stream s (p + i) (drop i xs) =
    ap (λ l. l ++ plus_stream s (p + (i + n)) (drop k (drop i xs))) sum
    ∙ ap (λ m. plus_stream s (p + i) (take k (drop i xs))
    ++ plus_stream s m (drop k (drop i xs))) place
    ∙ sym (plus-append s (p + i) (take k (drop i xs)) (drop k (drop i xs)))
    ∙ ap (plus_stream s (p + i)) (take-append-drop k (drop i xs)) in
    ap (λ l. l ++ plus_stream s (p + (i + n)) (drop (i + n) (put_mid i k xs ys))) front
    ∙ ap (λ l. (take i xs ++ ys) ++ plus_stream s (p + (i + n)) l) (back ∙ split)
    ∙ append_assoc (take i xs) ys _
    ∙ ap (λ l. take i xs ++ l) rest

-- the sum of the stream and the first n bytes, written in their places
pub first_run : (s t : ℕ → ℕ) (p q n : ℕ) (xs ys : List ℕ) → n ≤ length xs
    → ys ≡ plus_stream t q (take n xs)
    → ((j : ℕ) → j < n → t (q + j) ≡ s (p + j))
    → added_from s p n (ys ++ drop n xs) ≡ plus_stream s p xs
first_run s t p q n xs ys fits is agree =
    let here : 0 + n ≡ n = omega arith in
    let start : p + 0 ≡ p = omega arith in
    let run : added_from s p (0 + n) (put_mid 0 n xs ys) ≡ added_from s p 0 xs =
    added_run s t p q 0 n n xs ys refl (omega (arith, fits)) is
    (λ j h. agree j h ∙ ap (λ m. s (m + j)) (sym start)) in
    subst (λ k. added_from s p k (ys ++ drop n xs) ≡ plus_stream s p xs) here
    (run ∙ ap (λ m. plus_stream s m xs) start)

-- the sum of the stream and the byte at place i, written there
pub added_one : (s : ℕ → ℕ) (p i y : ℕ) (xs : List ℕ) → i < length xs
    → y ≡ bit_xor (get_or xs i 0) (s (p + i))
    → added_from s p (i + 1) (set xs i y) ≡ added_from s p i xs
added_one s p i y xs fits is =
    let place : p + (i + 1) ≡ p + i + 1 = omega arith in
    let rest : y ∷ plus_stream s (p + (i + 1)) (drop (i + 1) xs)
    ≡ plus_stream s (p + i) (drop i xs) =
    (λ t. is t ∷ plus_stream s (place t) (drop (i + 1) xs))
    ∙ sym (plus-cons s (p + i) (get_or xs i 0) (drop (i + 1) xs))
    ∙ ap (plus_stream s (p + i)) (sym (drop_more xs i 0 fits)) in
    ap (λ l. l ++ plus_stream s (p + (i + 1)) (drop (i + 1) (set xs i y)))
    (take_more_set xs i y fits)
    ∙ ap (λ l. (take i xs ++ y ∷ []) ++ plus_stream s (p + (i + 1)) l)
    (drop-set-lt (i + 1) xs i y (omega arith))
    ∙ append_assoc (take i xs) (y ∷ []) _
    ∙ ap (λ l. take i xs ++ l) rest

-- a loop that has come to the end has added the stream to the whole list
pub added_all : (s : ℕ → ℕ) (p i : ℕ) (xs zs : List ℕ) → length xs ≤ i
    → added_from s p i xs ≡ plus_stream s p zs → xs ≡ plus_stream s p zs
added_all s p i xs zs end kept =
    sym (ap (λ l. l ++ plus_stream s (p + i) (drop i xs)) (take_all i xs end)
    ∙ ap (λ l. xs ++ plus_stream s (p + i) l) (drop_all i xs end)
    ∙ ap (λ l. xs ++ l) (plus-nil s (p + i)) ∙ append-nil xs) ∙ kept

-- what adding a part of a block rests on
pub ruleset part_calls = (added_one, added_all, plus-whole)
