-- Planes by the blocks that they hold: every bit of eight words is one bit of one block.
use Rattle.std.proofs.Common.{◌≡◌, ℕ, zero, suc, ◌+◌, ◌*◌, ◌/◌, ◌%◌, ◌<◌, ◌≤◌, Bool, false, List}
use Rattle.std.proofs.Common.{[], ◌∷◌, length, get_or, map, ap, sym, ◌∙◌, arith}
use Rattle.std.proofs.Math.Nat.{div-lt_iff_lt-mul, mod-lt}
use Rattle.std.proofs.lemmas.List.{ext_get_or}
use Rattle.std.proofs.lemmas.Nat.{div-add-mod'}
use Rattle.aes_planes.specs.Bits.{at, bit}
use Rattle.aes_planes.specs.Fips197.{byte_at}
use Rattle.aes_planes.specs.Planes.{held, place}
use Rattle.aes_planes.proofs.Planes.Holds.{held_holds}

-- each place is that of a row, a column and a block
place_of : (n i : ℕ) → i < 16 * n → place n (i / (4 * n)) (i % (4 * n) / n) (i % (4 * n) % n) ≡ i
place_of n i h = ap (λ v. i / (4 * n) * (4 * n) + v) (div-add-mod' (i % (4 * n)) n)
    ∙ div-add-mod' i (4 * n)

-- words that agree at the place of each row, column and block agree at every bit
at_place : (n : ℕ) (x y : List Bool) → ((r c k : ℕ) → r < 4 → c < 4 → k < n
    → at x (place n r c k) ≡ at y (place n r c k))
    → (i : ℕ) → i < 16 * n → at x i ≡ at y i
at_place n x y f i h =
    let p : 1 ≤ n = omega arith in
    let spot = place_of n i h in
    let row : i / (4 * n) < 4 =
    (div-lt_iff_lt-mul {k = 4 * n} (omega (arith, p))).1 (omega (arith, h)) in
    let inner : i % (4 * n) < 4 * n = mod-lt i (omega (arith, p)) in
    let column : i % (4 * n) / n < 4 = (div-lt_iff_lt-mul {k = n} p).1 inner in
    ap (at x) (sym spot)
    ∙ f (i / (4 * n)) (i % (4 * n) / n) (i % (4 * n) % n) row column (mod-lt (i % (4 * n)) p)
    ∙ ap (at y) spot

-- eight planes of words of n blocks that hold the same blocks are the same
pub same_planes : (n : ℕ) (a b : List (List Bool)) → length a ≡ 8 → length b ≡ 8
    → ((p : ℕ) → p < 8 → (length (get_or a p []) ≡ 16 * n) × (length (get_or b p []) ≡ 16 * n))
    → held n a ≡ held n b
    → a ≡ b
same_planes n a b la lb sized e =
    let ha = held_holds n a la in
    let hb = held_holds n b lb in
    ext_get_or [] a b (la ∙ sym lb) (λ p lp.
    let hp : p < 8 = omega (arith, la, lp) in
    let s = sized p hp in
    ext_get_or false (get_or a p []) (get_or b p []) (s.0 ∙ sym s.1)
    (λ i li. at_place n (get_or a p []) (get_or b p [])
    (λ r c k hr hc hk. ha.bits p r c k hp hr hc hk
    ∙ ap (λ blocks. bit (byte_at (get_or blocks k []) r c) p) e
    ∙ sym (hb.bits p r c k hp hr hc hk)) i (omega (arith, s.0, li))))

-- words of the same length, mapped to their bits, have that many each
pub lengths_of_words : {A : Type 0} (f : A → List Bool) (m : ℕ) → ((x : A) → length (f x) ≡ m)
    → (xs : List A) (p : ℕ)
    → p < length xs → length (get_or (map f xs) p []) ≡ m
lengths_of_words f m h [] p l = absurd (omega arith)
lengths_of_words f m h (x ∷ xs) zero l = h x
lengths_of_words f m h (x ∷ xs) (suc p) l = lengths_of_words f m h xs p (omega arith)
