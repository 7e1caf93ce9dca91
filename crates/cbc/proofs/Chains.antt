-- Chains of blocks, written block by block, and that the way back leads back.
use Rattle.std.proofs.Common.{◌≡◌, ℕ, suc, ◌+◌, ◌<◌, ◌≤◌, List, [], ◌∷◌, ◌++◌, length, get_or, set}
use Rattle.std.proofs.Common.{take, drop, refl, ap, sym, ◌∙◌, arith}
use Rattle.std.proofs.Math.Seq.{drop-length, take-length}
use Rattle.std.proofs.lemmas.List.{take_more_set, drop-set-lt, append_assoc, append-nil, drop-drop}
use Rattle.std.proofs.lemmas.List.{take-append-drop, get_or-drop, length-drop, length-take}
use Rattle.std.proofs.lemmas.List.{drop_more}
use Rattle.std.proofs.lemmas.Slice.{take-put_mid, drop-put_mid}
use Rattle.aes_planes.specs.Fips197.{IsBlock, add_round_key, cipher_with, inv_cipher_with}
use Rattle.cbc.specs.Cbc.{chained, last_of, unchained}
use borrow.Rule.Slice.PartMut.{put_mid}

-- what is written in place i is the head of what is left
written : (rest : List (List ℕ)) (xs : List (List ℕ)) (i : ℕ) (v : List ℕ) → i < length xs
    → take (i + 1) (set xs i v) ++ rest ≡ take i xs ++ v ∷ rest
written rest xs i v lt = rw (take_more_set xs i v lt, append_assoc)

-- a loop that has come to the end leaves nothing to chain
pub chain_finished : (rest : List (List ℕ) → List (List ℕ)) → rest [] ≡ []
    → (xs ys : List (List ℕ)) (i : ℕ)
    → i ≡ length xs → i ≡ length ys → take i xs ++ rest (drop i ys) ≡ xs
chain_finished rest none xs ys i e f =
    ap (λ k. take k xs ++ rest (drop i ys)) e ∙ ap (λ k. take (length xs) xs ++ rest (drop k ys)) f
    ∙ (λ j. take-length xs j ++ rest (drop-length ys j)) ∙ ap (λ zs. xs ++ zs) none ∙ append-nil xs

-- the last block of nothing that is left is the block before it
pub chain_passed : (before : List ℕ) (xs : List (List ℕ)) (i : ℕ) → i ≡ length xs
    → before ≡ last_of before (drop i xs)
unfolding last_of
chain_passed before xs i e =
    sym (ap (λ k. last_of before (drop k xs)) e ∙ ap (last_of before) (drop-length xs))

-- the last block of two parts is that of the second, or of the first if the second is empty
last_of_cut : (before : List ℕ) (a b : List (List ℕ))
    → last_of before (a ++ b) ≡ last_of (last_of before a) b
unfolding last_of
last_of_cut before [] b = refl
last_of_cut before (c ∷ cs) b = last_of_cut c cs b

-- encryption goes on after a cut with the last encrypted block before it
pub chained_cut : (w : List (List ℕ)) (before : List ℕ) (a b : List (List ℕ))
    → chained w before (a ++ b) ≡ chained w before a
    ++ chained w (last_of before (chained w before a)) b
unfolding chained last_of
chained_cut w before [] b = refl
chained_cut w before (x ∷ xs) b =
    let c = cipher_with w (add_round_key x before) in ap (λ ys. c ∷ ys) (chained_cut w c xs b)

-- decryption goes on after a cut with the last encrypted block before it
pub unchained_cut : (w : List (List ℕ)) (before : List ℕ) (a b : List (List ℕ))
    → unchained w before (a ++ b) ≡ unchained w before a ++ unchained w (last_of before a) b
unfolding unchained last_of
unchained_cut w before [] b = refl
unchained_cut w before (c ∷ cs) b =
    ap (λ ys. add_round_key (inv_cipher_with w c) before ∷ ys) (unchained_cut w c cs b)

-- the last of blocks up to place i, where v is written
pub last_written : (before : List ℕ) (xs : List (List ℕ)) (i : ℕ) (v : List ℕ) → i < length xs
    → last_of before (take (i + 1) (set xs i v)) ≡ v
unfolding last_of
last_written before xs i v lt =
    ap (last_of before) (sym (append-nil (take (i + 1) (set xs i v))) ∙ written [] xs i v lt)
    ∙ last_of_cut before (take i xs) (v ∷ [])

-- with place i passed, the last of what is left is the same
pub last_left : (before : List ℕ) (xs : List (List ℕ)) (i : ℕ) → i < length xs
    → last_of (get_or xs i []) (drop (i + 1) xs) ≡ last_of before (drop i xs)
unfolding last_of
last_left before xs i lt = ap (last_of before) (sym (drop_more xs i [] lt))

module _ (w : List (List ℕ)) (before : List ℕ) (xs : List (List ℕ)) (i : ℕ) (v : List ℕ)
    (lt : i < length xs) where
  -- with block i encrypted after its sum with the block before, what is left to chain makes the
  -- same list
  pub chained_next : v ≡ cipher_with w (add_round_key (get_or xs i []) before)
      → take (i + 1) (set xs i v) ++ chained w v (drop (i + 1) (set xs i v))
      ≡ take i xs ++ chained w before (drop i xs)
  unfolding chained
  chained_next e =
      ap (λ ys. take (i + 1) (set xs i v) ++ chained w v ys)
      (drop-set-lt (i + 1) xs i v (omega arith))
      ∙ written (chained w v (drop (i + 1) xs)) xs i v lt
      ∙ (λ j. take i xs ++ e j ∷ chained w (e j) (drop (i + 1) xs))
      ∙ ap (λ ys. take i xs ++ chained w before ys) (sym (drop_more xs i [] lt))

  -- with block i of ys decrypted and summed with the block before, what is left to undo makes the
  -- same list
  pub unchained_next : (ys : List (List ℕ)) → i < length ys
      → v ≡ add_round_key (inv_cipher_with w (get_or ys i [])) before
      → take (i + 1) (set xs i v) ++ unchained w (get_or ys i []) (drop (i + 1) ys) ≡ take i xs
      ++ unchained w before (drop i ys)
  unfolding unchained
  unchained_next ys also e =
      written (unchained w (get_or ys i []) (drop (i + 1) ys)) xs i v lt
      ∙ (λ j. take i xs ++ e j ∷ unchained w (get_or ys i []) (drop (i + 1) ys))
      ∙ ap (λ zs. take i xs ++ unchained w before zs) (sym (drop_more ys i [] also))

-- what a loop has yet to replace: the blocks of ys from place i on
module _ (xs ys : List (List ℕ)) (i : ℕ) (ahead : drop i xs ≡ drop i ys) where
  -- what is left to replace is that of ys still, once place i is written
  pub still_ahead : (v : List ℕ) → drop (i + 1) (set xs i v) ≡ drop (i + 1) ys
  still_ahead v =
      drop-set-lt (i + 1) xs i v (omega arith) ∙ sym (drop-drop 1 i xs) ∙ ap (drop 1) ahead
      ∙ drop-drop 1 i ys

  -- the block at place i is that of ys
  pub same_ahead : get_or xs i [] ≡ get_or ys i []
  same_ahead =
      let here : i + 0 ≡ i = omega arith in
      ap (λ m. get_or xs m []) (sym here) ∙ sym (get_or-drop i xs 0 [])
      ∙ ap (λ l. get_or l 0 []) ahead
      ∙ get_or-drop i ys 0 [] ∙ ap (λ m. get_or ys m []) here

-- a part of a chain of n blocks from place i on, which is replaced by ys
module _ (i n k : ℕ) (xs ys : List (List ℕ)) (same : k ≡ n) (fits : i + n ≤ length xs)
    (sized : length ys ≡ length (take k (drop i xs))) where
  -- what comes after the part stays
  rest_stays : drop (i + n) (put_mid i k xs ys) ≡ drop k (drop i xs)
  rest_stays =
      let long : length ys ≡ n =
      omega (arith, sized, same, length-take k (drop i xs), length-drop i xs) in
      drop-put_mid i k xs ys (i + n) (omega arith) (omega arith) (omega arith)
      ∙ ap (λ m. drop (i + m) xs) (sym same)
      ∙ sym (drop-drop k i xs)

  -- with the part undone, what is left to undo makes the same list
  pub unchained_part : (w : List (List ℕ)) (before : List ℕ)
      → ys ≡ unchained w before (take k (drop i xs))
      → take (i + n) (put_mid i k xs ys)
      ++ unchained w (last_of before (take k (drop i xs)))
      (drop (i + n) (put_mid i k xs ys)) ≡ take i xs
      ++ unchained w before (drop i xs)
  unchained_part w before is =
      let long : length ys ≡ n =
      omega (arith, sized, same, length-take k (drop i xs), length-drop i xs) in
      let last = last_of before (take k (drop i xs)) in
      let front : take (i + n) (put_mid i k xs ys) ≡ take i xs ++ ys =
      take-put_mid i k xs ys (i + n) (omega arith) (omega arith) in
      ap (λ l. l ++ unchained w last (drop (i + n) (put_mid i k xs ys))) front
      ∙ ap (λ l. (take i xs ++ ys) ++ unchained w last l) rest_stays
      ∙ append_assoc (take i xs) ys _
      ∙ ap (λ l. take i xs ++ l)
      (ap (λ l. l ++ unchained w last (drop k (drop i xs))) is
      ∙ sym (unchained_cut w before (take k (drop i xs)) (drop k (drop i xs)))
      ∙ ap (unchained w before) (take-append-drop k (drop i xs)))

  -- with the part replaced, the last of what is left is the same
  pub last_part : (before : List ℕ)
      → last_of (last_of before (take k (drop i xs))) (drop (i + n) (put_mid i k xs ys))
      ≡ last_of before (drop i xs)
  last_part before =
      ap (last_of (last_of before (take k (drop i xs)))) rest_stays
      ∙ sym (last_of_cut before (take k (drop i xs)) (drop k (drop i xs)))
      ∙ ap (last_of before) (take-append-drop k (drop i xs))

-- what the laws say of the round keys of a value
module _ (w : List (List ℕ))
    (undone : (b : List ℕ) → IsBlock b → inv_cipher_with w (cipher_with w b) ≡ b)
    (block : (b : List ℕ) → IsBlock b → IsBlock (cipher_with w b))
    (sum : (a b : List ℕ) → IsBlock a → IsBlock b → IsBlock (add_round_key a b))
    (twice : (a b : List ℕ) → IsBlock a → add_round_key (add_round_key a b) b ≡ a) where
  -- decrypting a chain that was encrypted from the same block before gives the blocks back
  pub unchained_chained : (before : List ℕ) (bs : List (List ℕ)) → IsBlock before
      → ((i : ℕ) → i < length bs → IsBlock (get_or bs i []))
      → unchained w before (chained w before bs) ≡ bs
  unfolding chained unchained
  unchained_chained before [] p h = refl
  unchained_chained before (b ∷ bs) p h =
      let here : IsBlock b = h 0 (omega arith) in
      let s : List ℕ = add_round_key b before in
      (λ j. (ap (λ v. add_round_key v before) (undone s (sum b before here p))
      ∙ twice b before here) j
      ∷ unchained_chained (cipher_with w s) bs (block s (sum b before here p))
      (λ i lt. h (suc i) (omega arith)) j)
