-- Eight words of a list.
use Rattle.std.proofs.Common.{◌≡◌, ℕ, zero, suc, ◌+◌, ◌-◌, ◌<◌, ◌≤◌, min, List, [], ◌∷◌, ◌++◌}
use Rattle.std.proofs.Common.{length, get_or, map, take, drop, set, replicate, refl, ap, sym, ◌∙◌}
use Rattle.std.proofs.Common.{arith, length-take, length-drop, get_or-take, get_or-drop, add-zero}
use Rattle.std.proofs.lemmas.List.{take-map, drop-map, same_lists}
use Rattle.aes_planes.specs.Planes.{words_at}
use Rattle.aes_planes.proofs.Bits.BitCases.{list_of_eight}

-- the eight words from a place on are eight, if the list goes that far
pub length-words_at : {A : Type 0} (xs : List A) (o : ℕ) → o + 8 ≤ length xs
    → length (words_at xs o) ≡ 8
unfolding words_at
length-words_at xs o h = simp (length-take, length-drop) (omega arith)

-- word i of the eight words from place o on is the list's word o + i
pub get_or-words_at : {A : Type 0} (xs : List A) (o i : ℕ) (d : A) → i < 8
    → get_or (words_at xs o) i d ≡ get_or xs (o + i) d
unfolding words_at
get_or-words_at xs o i d h = get_or-take 8 (drop o xs) i d h ∙ get_or-drop o xs i d

-- f of eight words is eight words of f of the list
pub words_at-map : {A B : Type 0} (f : A → B) (xs : List A) (o : ℕ)
    → words_at (map f xs) o ≡ map f (words_at xs o)
unfolding words_at
words_at-map f xs o = ap (take 8) (drop-map f o xs) ∙ take-map f 8 (drop o xs)

-- eight values that are a list's words from a place on are those eight words
pub eight_words : {A : Type 0} (xs : List A) (o : ℕ) (a b c d e f g h : A) → o + 8 ≤ length xs
    → a ≡ get_or xs o a → b ≡ get_or xs (o + 1) b → c ≡ get_or xs (o + 2) c
    → d ≡ get_or xs (o + 3) d
    → e ≡ get_or xs (o + 4) e → f ≡ get_or xs (o + 5) f → g ≡ get_or xs (o + 6) g
    → h ≡ get_or xs (o + 7) h
    → a ∷ b ∷ c ∷ d ∷ e ∷ f ∷ g ∷ h ∷ [] ≡ words_at xs o
eight_words {A = A} xs o a b c d e f g h l ea eb ec ed ee ef eg eh =
    let at0 = ea ∙ ap (λ i. get_or xs i a) (sym (add-zero o))
    ∙ sym (get_or-words_at xs o 0 a (omega arith)) in
    let at = λ (i : ℕ) (z : A) (lt : i < 8). sym (get_or-words_at xs o i z lt) in
    (λ t. at0 t ∷ (eb ∙ at 1 b (omega arith)) t ∷ (ec ∙ at 2 c (omega arith)) t
    ∷ (ed ∙ at 3 d (omega arith)) t
    ∷ (ee ∙ at 4 e (omega arith)) t ∷ (ef ∙ at 5 f (omega arith)) t ∷ (eg ∙ at 6 g (omega arith)) t
    ∷ (eh ∙ at 7 h (omega arith)) t ∷ [])
    ∙ sym (list_of_eight (words_at xs o) a b c d e f g h (length-words_at xs o l))

-- ---- words that stay, and words that are put

-- a list with the same words from a place on has the same eight words there
pub words_stay : {A : Type 0} (new old : List A) (o : ℕ) → length new ≡ length old
    → ((i : ℕ) (d : A) → o ≤ i → i < o + 8 → get_or new i d ≡ get_or old i d)
    → words_at new o ≡ words_at old o
unfolding words_at
words_stay {A = A} new old o e h =
    let sized : (xs : List A) → length (words_at xs o) ≡ min 8 (length xs - o) =
    λ xs. simp (length-take, length-drop) in
    same_lists _ _ (sized new ∙ ap (λ v. min 8 (v - o)) e ∙ sym (sized old)) (λ i d l.
    let b : i < 8 = omega (arith, sized new) in
    get_or-words_at new o i d b ∙ h (o + i) d (omega arith) (omega arith)
    ∙ sym (get_or-words_at old o i d b))

-- a list with eight given words from a place on has those eight words there
pub words_put : {A : Type 0} (new ws : List A) (o : ℕ) → o + 8 ≤ length new → length ws ≡ 8
    → ((m : ℕ) (d : A) → m < 8 → get_or new (o + m) d ≡ get_or ws m d) → words_at new o ≡ ws
words_put new ws o room e h = same_lists _ _ (length-words_at new o room ∙ sym e) (λ i d l.
    let b : i < 8 = omega (arith, length-words_at new o room) in
    get_or-words_at new o i d b ∙ h i d b)

-- ---- the same block in every slot

-- setting the place after i copies of b to b makes them one more
fill_more : {A : Type 0} (b z : A) (i m : ℕ) → set (replicate i b ++ replicate (suc m) z) i b
    ≡ replicate (suc i) b ++ replicate m z
fill_more b z zero m = refl
fill_more b z (suc i) m = ap (λ xs. b ∷ xs) (fill_more b z i m)

-- a list whose first i elements are b, with b put in place i, has i + 1 of them
pub filled_more : {A : Type 0} (b z : A) (i n : ℕ) → i < n
    → set (replicate i b ++ replicate (n - i) z) i b
    ≡ replicate (i + 1) b ++ replicate (n - (i + 1)) z
filled_more b z i n h =
    let left : n - i ≡ suc (n - (i + 1)) = omega arith in
    let more : suc i ≡ i + 1 = omega arith in
    ap (λ v. set (replicate i b ++ replicate v z) i b) left ∙ fill_more b z i (n - (i + 1))
    ∙ ap (λ v. replicate v b ++ replicate (n - (i + 1)) z) more
