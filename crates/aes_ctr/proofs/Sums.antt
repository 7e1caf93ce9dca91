-- Sums of bytes and a stream: byte by byte, and piece by piece.
use Rattle.std.proofs.Common.{◌≡◌, ℕ, zero, suc, ◌+◌, ◌<◌, ◌≤◌, List, [], ◌∷◌, ◌++◌, length, get_or}
use Rattle.std.proofs.Common.{take, bit_xor, slice_index, refl, sym, ap, ◌∙◌, arith}
use Rattle.std.proofs.lemmas.List.{take_all}
use Rattle.std.proofs.lemmas.Simd.{length-zip2, get_or-zip2, put_chunk_whole}
use lib.Lanes.{zip2, put_chunk}
use Rattle.std.specs.Int.Bits.{xor_assoc, xor_self, xor_zero_r}
use Rattle.std.specs.List.{concat}
use Rattle.aes_planes.proofs.Lists.{build_is, length-build, get_or-build}
use Rattle.aes_ctr.specs.CounterMode.{plus_stream, pieces_plus_stream}

-- a list plus a stream has the length of the list
pub length-plus : (s : ℕ → ℕ) (p : ℕ) (xs : List ℕ) → length (plus_stream s p xs) ≡ length xs
unfolding plus_stream
length-plus s p xs = length-build (length xs) _

-- byte i of it is byte i of the list plus what the stream has i places on
get_or-plus : (s : ℕ → ℕ) (p : ℕ) (xs : List ℕ) (i : ℕ) → i < length xs
    → get_or (plus_stream s p xs) i 0 ≡ bit_xor (get_or xs i 0) (s (p + i))
unfolding plus_stream
get_or-plus s p xs i h = get_or-build (length xs) i _ 0 h

-- a list of the sums, byte by byte, is the sum
pub plus_is : (s : ℕ → ℕ) (p : ℕ) (xs ys : List ℕ) → length ys ≡ length xs
    → ((i : ℕ) → i < length xs → bit_xor (get_or xs i 0) (s (p + i)) ≡ get_or ys i 0)
    → plus_stream s p xs ≡ ys
unfolding plus_stream
plus_is s p xs ys l h = build_is (length xs) _ ys 0 l h

-- no bytes plus a stream are none
pub plus-nil : (s : ℕ → ℕ) (p : ℕ) → plus_stream s p [] ≡ []
plus-nil s p = plus_is s p [] [] refl (λ i h. absurd (omega arith))

-- the first byte is summed with the stream's first, and the rest with the stream from the next
-- place on
pub plus-cons : (s : ℕ → ℕ) (p x : ℕ) (xs : List ℕ) → plus_stream s p (x ∷ xs) ≡ bit_xor x (s p)
    ∷ plus_stream s (p + 1) xs
plus-cons s p x xs = plus_is s p (x ∷ xs) (bit_xor x (s p) ∷ plus_stream s (p + 1) xs)
    (ap suc (length-plus s (p + 1) xs)) places
  where
    places : (i : ℕ) → i < suc (length xs) → bit_xor (get_or (x ∷ xs) i 0) (s (p + i))
        ≡ get_or (bit_xor x (s p) ∷ plus_stream s (p + 1) xs) i 0
    places zero h = ap (λ m. bit_xor x (s m)) (omega arith)
    places (suc i) h = ap (λ m. bit_xor (get_or xs i 0) (s m)) (omega arith)
        ∙ sym (get_or-plus s (p + 1) xs i (omega arith))

-- two lists, joined, are summed one after the other, the second from where the first ends
pub plus-append : (s : ℕ → ℕ) (p : ℕ) (xs ys : List ℕ)
    → plus_stream s p (xs ++ ys) ≡ plus_stream s p xs
    ++ plus_stream s (p + length xs) ys
plus-append s p [] ys = ap (λ m. plus_stream s m ys) (omega arith)
    ∙ ap (λ l. l ++ plus_stream s (p + 0) ys)
    (sym (plus-nil s p))
plus-append s p (x ∷ xs) ys =
    let first : List ℕ → List ℕ = λ l. bit_xor x (s p) ∷ l in
    let rest : plus_stream s (p + 1) (xs ++ ys)
    ≡ plus_stream s (p + 1) xs ++ plus_stream s (p + suc (length xs)) ys =
    plus-append s (p + 1) xs ys
    ∙ ap (λ m. plus_stream s (p + 1) xs ++ plus_stream s m ys) (omega arith) in
    plus-cons s p x (xs ++ ys) ∙ ap first rest
    ∙ ap (λ l. l ++ plus_stream s (p + suc (length xs)) ys)
    (sym (plus-cons s p x xs))

-- two streams that agree at the places of a list, each at its own, leave the same sum
pub plus-ext : (s t : ℕ → ℕ) (p q : ℕ) (xs : List ℕ)
    → ((i : ℕ) → i < length xs → s (p + i) ≡ t (q + i))
    → plus_stream s p xs ≡ plus_stream t q xs
plus-ext s t p q xs same =
    plus_is s p xs (plus_stream t q xs) (length-plus t q xs)
    (λ i h. ap (bit_xor (get_or xs i 0)) (same i h) ∙ sym (get_or-plus t q xs i h))

-- the sum with a stream undoes itself
pub summed_twice : (s : ℕ → ℕ) (p : ℕ) (xs : List ℕ) → plus_stream s p (plus_stream s p xs) ≡ xs
summed_twice s p xs =
    plus_is s p (plus_stream s p xs) xs (sym (length-plus s p xs))
    (λ i h. ap (λ b. bit_xor b (s (p + i)))
    (get_or-plus s p xs i (omega (arith, length-plus s p xs)))
    ∙ xor_assoc (get_or xs i 0) (s (p + i)) (s (p + i))
    ∙ ap (bit_xor (get_or xs i 0)) (xor_self (s (p + i)))
    ∙ xor_zero_r (get_or xs i 0))

-- pieces plus a stream, joined, are the joined pieces plus the stream
pub pieces_summed : (s : ℕ → ℕ) (p : ℕ) (pieces : List (List ℕ))
    → concat (pieces_plus_stream s p pieces)
    ≡ plus_stream s p (concat pieces)
unfolding pieces_plus_stream
pieces_summed s p [] = sym (plus-nil s p)
pieces_summed s p (piece ∷ pieces) =
    ap (λ l. plus_stream s p piece ++ l) (pieces_summed s (p + length piece) pieces)
    ∙ sym (plus-append s p piece (concat pieces))

-- the sums of sixteen bytes and a block, as vectors make them
pub plus-whole : (p : ℕ) (xs ys : List ℕ) → p + length xs ≤ 16 → length xs ≡ 16 → length ys ≡ 16
    → plus_stream (slice_index ys) p xs ≡ put_chunk 0 xs (zip2 bit_xor (take 16 xs) ys)
plus-whole p xs ys none d e =
    let long : length (zip2 bit_xor xs ys) ≡ length xs =
    length-zip2 bit_xor xs ys (omega (arith, d, e)) in
    plus_is (slice_index ys) p xs (zip2 bit_xor xs ys) long
    (λ i h. ap (λ m. bit_xor (get_or xs i 0) (get_or ys m 0)) (omega arith)
    ∙ sym (get_or-zip2 bit_xor xs ys i 0 0 0 h (omega (arith, d, e))))
    ∙ sym (ap (λ l. put_chunk 0 xs (zip2 bit_xor l ys)) (take_all 16 xs (omega (arith, d)))
    ∙ put_chunk_whole xs (zip2 bit_xor xs ys) (sym long))
