-- Bytes as blocks of sixteen, one after another.
use Rattle.std.proofs.Common.{◌≡◌, ℕ, zero, suc, ◌+◌, ◌-◌, ◌*◌, ◌/◌, ◌%◌, ◌≤◌, ◌<◌, List, [], ◌∷◌}
use Rattle.std.proofs.Common.{◌++◌, length, map, take, drop, get_or, refl, sym, ap, ◌∙◌, arith}
use Rattle.std.proofs.Common.{append_assoc, length-append}
use Rattle.std.proofs.lemmas.List.{drop-drop, take-append-drop, take-take, drop-take, map-append}
use Rattle.std.proofs.lemmas.List.{get_or-take, get_or-drop, length-take, length-drop, take_at}
use Rattle.std.proofs.lemmas.List.{drop_at}
use Rattle.std.proofs.lemmas.Slice.{take-put_mid, take-put_mid_below, drop-put_mid}
use borrow.Rule.Slice.PartMut.{put_mid}
use Rattle.std.specs.List.{concat}
use Rattle.std.specs.Simd.{first_chunks}
use Rattle.aes_cipher.specs.Blocks.{Sixteens}

-- the first eight elements of two joined lists are the first list, if it has eight
pub first_half : (xs ys : List ℕ) → length xs ≡ 8 → take 8 (xs ++ ys) ≡ xs
first_half xs ys = take_at xs ys 8

-- what is left of two joined lists after the first eight elements is the second, if the first has
-- eight
pub second_half : (xs ys : List ℕ) → length xs ≡ 8 → drop 8 (xs ++ ys) ≡ ys
second_half xs ys = drop_at xs ys 8

-- the rules that split sixteen bytes into halves
pub ruleset halves = (first_half, second_half)

-- m chunks are m blocks
pub length-chunks : (m : ℕ) (xs : List ℕ) → length (first_chunks 16 m xs) ≡ m
length-chunks zero xs = refl
length-chunks (suc m) xs = ap suc (length-chunks m (drop 16 xs))

-- the first a + b blocks of bytes are the first a and the next b
chunks_split : (a b m : ℕ) (xs : List ℕ) → m ≡ a + b
    → first_chunks 16 m xs ≡ first_chunks 16 a xs ++ first_chunks 16 b (drop (16 * a) xs)
chunks_split zero b m xs e = ap (λ k. first_chunks 16 k xs) (omega (arith, e))
chunks_split (suc a) b zero xs e = absurd (omega (arith, e))
chunks_split (suc a) b (suc m) xs e =
    let further : drop (16 * a) (drop 16 xs) ≡ drop (16 * suc a) xs =
    drop-drop (16 * a) 16 xs ∙ ap (λ k. drop k xs) (omega arith) in
    ap (λ l. take 16 xs ∷ l) (chunks_split a b m (drop 16 xs) (omega (arith, e))
    ∙ ap (λ ys. first_chunks 16 a (drop 16 xs) ++ first_chunks 16 b ys) further)

-- blocks lie in their bytes alone
chunks_take : (a n : ℕ) (xs : List ℕ) → 16 * a ≤ n
    → first_chunks 16 a (take n xs) ≡ first_chunks 16 a xs
chunks_take zero n xs h = refl
chunks_take (suc a) n xs h =
    let rest : drop 16 (take n xs) ≡ take (n - 16) (drop 16 xs) =
    ap (λ k. drop 16 (take k xs)) (omega (arith, h)) ∙ drop-take 16 (n - 16) xs in
    ap (λ b. b ∷ first_chunks 16 a (drop 16 (take n xs))) (take-take 16 n xs (omega (arith, h)))
    ∙ ap (λ l. take 16 xs ∷ l) (ap (first_chunks 16 a) rest
    ∙ chunks_take a (n - 16) (drop 16 xs) (omega (arith, h)))

-- bytes that two lists share hold the same blocks
chunks_shared : (a n : ℕ) (xs ys : List ℕ) → 16 * a ≤ n → take n xs ≡ take n ys
    → first_chunks 16 a xs ≡ first_chunks 16 a ys
chunks_shared a n xs ys h e = sym (chunks_take a n xs h) ∙ ap (first_chunks 16 a) e
    ∙ chunks_take a n ys h

-- whole blocks, joined, are their bytes
pub chunks_joined : (m : ℕ) (xs : List ℕ) → length xs ≡ 16 * m → concat (first_chunks 16 m xs) ≡ xs
chunks_joined zero [] l = refl
chunks_joined zero (x ∷ xs) l = absurd (omega (arith, l))
chunks_joined (suc m) xs l =
    ap (λ ys. take 16 xs ++ ys) (chunks_joined m (drop 16 xs) (omega (arith, l, length-drop 16 xs)))
    ∙ take-append-drop 16 xs

-- joined blocks hold those blocks
pub chunks_of_joined : (bs : List (List ℕ)) → Sixteens bs
    → first_chunks 16 (length bs) (concat bs) ≡ bs
chunks_of_joined [] h = refl
chunks_of_joined (b ∷ bs) h =
    let l : length b ≡ 16 = h 0 (omega arith) in
    let rest : first_chunks 16 (length bs) (drop 16 (b ++ concat bs)) ≡ bs =
    ap (first_chunks 16 (length bs)) (drop_at b (concat bs) 16 l)
    ∙ chunks_of_joined bs (λ i lt. h (suc i) (omega arith)) in
    (λ i. take_at b (concat bs) 16 l i ∷ rest i)

-- joined blocks have sixteen bytes for each block
length-joined : (bs : List (List ℕ)) → Sixteens bs → length (concat bs) ≡ 16 * length bs
length-joined [] h = refl
length-joined (b ∷ bs) h =
    let l : length b ≡ 16 = h 0 (omega arith) in
    let rest = length-joined bs (λ i lt. h (suc i) (omega arith)) in
    length-append b (concat bs) ∙ omega (arith, l, rest)

-- joined blocks hold those blocks, as many as their bytes say
pub parted : (bs : List (List ℕ)) → Sixteens bs
    → first_chunks 16 (length (concat bs) / 16) (concat bs) ≡ bs
parted bs h = ap (λ m. first_chunks 16 m (concat bs)) (omega (arith, length-joined bs h))
    ∙ chunks_of_joined bs h

-- byte j of block i stands at place 16 * i + j
pub byte_in_chunk : (i j m : ℕ) (xs : List ℕ) → i < m → j < 16
    → get_or (get_or (first_chunks 16 m xs) i []) j 0 ≡ get_or xs (16 * i + j) 0
byte_in_chunk i j zero xs h k = absurd (omega arith)
byte_in_chunk zero j (suc m) xs h k = get_or-take 16 xs j 0 k
    ∙ ap (λ q. get_or xs q 0) (omega arith)
byte_in_chunk (suc i) j (suc m) xs h k =
    byte_in_chunk i j m (drop 16 xs) (omega arith) k ∙ get_or-drop 16 xs (16 * i + j) 0
    ∙ ap (λ q. get_or xs q 0) (omega arith)

-- byte i of joined blocks is byte i % 16 of block i / 16
pub byte_of_joined : (bs : List (List ℕ)) (i : ℕ) → Sixteens bs → i < 16 * length bs
    → get_or (concat bs) i 0 ≡ get_or (get_or bs (i / 16) []) (i % 16) 0
byte_of_joined bs i h lt =
    ap (λ q. get_or (concat bs) q 0) (omega arith)
    ∙ sym (byte_in_chunk (i / 16) (i % 16) (length bs) (concat bs) (omega (arith, lt))
    (omega arith))
    ∙ ap (λ l. get_or (get_or l (i / 16) []) (i % 16) 0) (chunks_of_joined bs h)

-- what relates bytes and blocks: joining and cutting undo each other, and where each byte stands
pub ruleset byte_laws = (chunks_joined, parted, length-chunks, byte_in_chunk, byte_of_joined)

-- what a loop that has come to block i leaves in the end: the blocks before it, and f of each from
-- it on
abbrev pub processed_from : (List ℕ → List ℕ) → ℕ → ℕ → List ℕ → List (List ℕ)
processed_from f m i xs = first_chunks 16 i xs ++ map f (first_chunks 16 (m - i) (drop (16 * i) xs))

-- writing f of n blocks from block i on in their places keeps what the loop leaves in the end
pub processed_run : (f : List ℕ → List ℕ) (m i n p k : ℕ) (xs ys : List ℕ) → p ≡ 16 * i
    → k ≡ 16 * n → i + n ≤ m
    → 16 * m ≤ length xs
    → length ys ≡ 16 * n → first_chunks 16 n ys ≡ map f (first_chunks 16 n (take k (drop p xs)))
    → processed_from f m (i + n) (put_mid p k xs ys) ≡ processed_from f m i xs
processed_run f m i n p k xs ys at size fits l long is =
    let zs = put_mid p k xs ys in
    let chunk : ℕ → List ℕ → List (List ℕ) = first_chunks 16 in
    let r = m - (i + n) in
    let inside : p ≤ length xs = omega (arith, at, l, fits) in
    let all : 16 * (i + n) ≡ p + k = omega (arith, at, size) in
    let before : chunk i zs ≡ chunk i xs =
    chunks_shared i p zs xs (omega (arith, at))
    (take-put_mid_below p k xs ys p (omega arith) inside) in
    let front : take (p + k) zs ≡ take p xs ++ ys =
    take-put_mid p k xs ys (p + k) (omega (arith, size, long)) inside in
    let rest : drop (p + k) zs ≡ drop (p + k) xs =
    drop-put_mid p k xs ys (p + k) (omega arith) inside (omega (arith, size, long)) in
    let mid : take k (drop p zs) ≡ ys = sym (drop-take p k zs) ∙ ap (drop p) front
    ∙ drop_at (take p xs) ys p (omega (arith, length-take p xs, inside)) in
    let done : chunk n (drop (16 * i) zs) ≡ map f (chunk n (drop (16 * i) xs)) =
    ap (λ q. chunk n (drop q zs)) (sym at) ∙ sym (chunks_take n k (drop p zs) (omega (arith, size)))
    ∙ ap (chunk n) mid ∙ is
    ∙ ap (map f) (chunks_take n k (drop p xs) (omega (arith, size)))
    ∙ ap (λ q. map f (chunk n (drop q xs))) at in
    let left : drop (16 * (i + n)) zs ≡ drop (16 * n) (drop (16 * i) xs) =
    ap (λ q. drop q zs) all ∙ rest ∙ ap (λ q. drop q xs) (omega (arith, at, size))
    ∙ sym (drop-drop (16 * n) (16 * i) xs) in
    let split : chunk (m - i) (drop (16 * i) xs)
    ≡ chunk n (drop (16 * i) xs) ++ chunk r (drop (16 * n) (drop (16 * i) xs)) =
    chunks_split n r (m - i) (drop (16 * i) xs) (omega (arith, fits)) in
    ap (λ l. l ++ map f (chunk r (drop (16 * (i + n)) zs))) (chunks_split i n (i + n) zs refl)
    ∙ ap (λ l. (l ++ chunk n (drop (16 * i) zs)) ++ map f (chunk r (drop (16 * (i + n)) zs))) before
    ∙ ap (λ l. (chunk i xs ++ l) ++ map f (chunk r (drop (16 * (i + n)) zs))) done
    ∙ ap (λ l. (chunk i xs ++ map f (chunk n (drop (16 * i) xs))) ++ map f (chunk r l)) left
    ∙ append_assoc (chunk i xs) _ _
    ∙ ap (λ l. chunk i xs ++ l) (sym (map-append f (chunk n (drop (16 * i) xs)) _)
    ∙ ap (map f) (sym split))
