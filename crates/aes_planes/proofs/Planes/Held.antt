-- The blocks that planes hold: from facts on the bytes at places to equations on blocks.
use Rattle.std.proofs.Common.{◌≡◌, ℕ, zero, suc, ◌+◌, ◌*◌, ◌/◌, ◌%◌, ◌^◌, ◌<◌, ◌≤◌, Bool, List, []}
use Rattle.std.proofs.Common.{◌∷◌, length, get_or, map, replicate, refl, ap, sym, ◌∙◌, arith}
use Rattle.std.proofs.lemmas.List.{same_lists, length-map}
use Rattle.std.proofs.lemmas.Nat.{mul-add-lt}
use Rattle.std.proofs.Math.Arith.{digits_div, digits_mod, mod-mul}
use Rattle.aes_planes.specs.Bits.{at, bit, number}
use Rattle.aes_planes.specs.Fips197.{byte_at, build, build_from, state, field_add, add_round_key}
use Rattle.aes_planes.specs.Planes.{held, held_byte, place, zip_with}
use Rattle.std.proofs.Math.Pow.{pow_mono}
use Rattle.aes_planes.proofs.Bits.NumberBits.{number_below}
use Rattle.aes_planes.proofs.Bits.BytesByBits.{same_byte, mapped_lt, mapped_bit}
use Rattle.aes_planes.proofs.Standard.States.{byte_at-state, state_is, state_same}
use Rattle.aes_planes.proofs.Lists.{build_is, get_or-build, length-build}
use Rattle.std.proofs.lemmas.Simd.{map-map}

-- ---- lists that are built of a function

-- two functions that agree below n build the same list
pub build-ext : {A : Type 0} (n : ℕ) (f g : ℕ → A) → ((i : ℕ) → i < n → f i ≡ g i)
    → build n f ≡ build n g
build-ext n f g h = same_lists _ _ (length-build n f ∙ sym (length-build n g)) (λ i d l.
    let k : i < n = omega (arith, l, length-build n f) in
    get_or-build n i f d k ∙ h i k ∙ sym (get_or-build n i g d k))

-- m of each element of a list that is built from any start, by recursion
map-build_from : {A B : Type 0} (m : A → B) (a n : ℕ) (f : ℕ → A)
    → map m (build_from a n f) ≡ build_from a n (λ i. m (f i))
unfolding build_from
map-build_from m a zero f = refl
map-build_from m a (suc n) f = ap (λ xs. m (f a) ∷ xs) (map-build_from m (a + 1) n f)

-- m of each element of a built list is the list built of m of each
pub map-build : {A B : Type 0} (m : A → B) (n : ℕ) (f : ℕ → A)
    → map m (build n f) ≡ build n (λ i. m (f i))
unfolding build
map-build m n f = map-build_from m 0 n f

-- f of two lists that are built from any start, place by place, by recursion
zip_with-build_from : {A B C : Type 0} (f : A → B → C) (a n : ℕ) (g : ℕ → A) (h : ℕ → B)
    → zip_with f (build_from a n g) (build_from a n h) ≡ build_from a n (λ i. f (g i) (h i))
unfolding build_from
zip_with-build_from f a zero g h = refl
zip_with-build_from f a (suc n) g h =
    ap (λ xs. f (g a) (h a) ∷ xs) (zip_with-build_from f (a + 1) n g h)

-- f of two built lists, place by place, is the list built of f of both
pub zip_with-build : {A B C : Type 0} (f : A → B → C) (n : ℕ) (g : ℕ → A) (h : ℕ → B)
    → zip_with f (build n g) (build n h) ≡ build n (λ i. f (g i) (h i))
unfolding build
zip_with-build f n g h = zip_with-build_from f 0 n g h

-- ---- lists of blocks

-- f of a list and of one value in every place is f of each element and that value
pub zip_with-replicate : {A B C : Type 0} (f : A → B → C) (xs : List A) (n : ℕ) (y : B)
    → length xs ≡ n
    → zip_with f xs (replicate n y) ≡ map (λ x. f x y) xs
zip_with-replicate f [] n y e = refl
zip_with-replicate f (x ∷ xs) zero y e = absurd (omega arith)
zip_with-replicate f (x ∷ xs) (suc n) y e =
    ap (λ zs. f x y ∷ zs) (zip_with-replicate f xs n y (omega arith))

-- ---- blocks in planes

-- eight planes of words of n blocks hold n blocks
pub length-held : (n : ℕ) (planes : List (List Bool)) → length (held n planes) ≡ n
unfolding held
length-held n planes = length-build n _

-- ---- places

-- a place in words of n blocks is below 16 * n
pub place_lt : (n r c k : ℕ) → r < 4 → c < 4 → k < n → place n r c k < 16 * n
place_lt n r c k h i j =
    let x = mul-add-lt c n k 4 i j in
    let y = mul-add-lt r (4 * n) (c * n + k) 4 h (omega (arith, x)) in
    omega (arith, y)

-- a digit that is too large wraps, and the lower digit stays
wrapped : (m x q : ℕ) → x < m → (q * m + x) % (4 * m) ≡ (q % 4) * m + x
wrapped m x q h =
    mod-mul (q * m + x) {m = 4} {c = m} (omega arith) (omega arith)
    ∙ (λ t. (digits_div q h t % 4) * m + digits_mod q h t)

-- moving on by d rows leads to the place in row (r + d) % 4 of the same column
pub row_on : (n r c k d : ℕ) → r < 4 → c < 4 → k < n → d < 4
    → (place n r c k + d * (4 * n)) % (16 * n) ≡ place n ((r + d) % 4) c k
row_on n r c k d h i j l =
    let x : c * n + k < 4 * n = omega (arith, mul-add-lt c n k 4 i j) in
    let e : place n r c k + d * (4 * n) ≡ (r + d) * (4 * n) + (c * n + k) = grind arith in
    let f : 16 * n ≡ 4 * (4 * n) = omega arith in
    rw (e, f) (wrapped (4 * n) (c * n + k) (r + d) x)

-- the column of a place, where a row has R bits and a column Q
pub column_of : (n R Q r c k : ℕ) → R ≡ 4 * n → Q ≡ n → r < 4 → c < 4 → k < n
    → place n r c k % R / Q ≡ c
column_of n R Q r c k eR eQ h l kn =
    let x : c * n + k < 4 * n = omega (arith, mul-add-lt c n k 4 l kn) in
    let rest : place n r c k % R ≡ c * n + k = ap (λ v. place n r c k % v) eR ∙ digits_mod r x in
    (λ t. rest t / eQ t) ∙ digits_div c kn

-- ---- from bytes at places to blocks

-- what at most eight planes hold at a place is a byte
pub byte_of_few : (planes : List (List Bool)) (i : ℕ) → length planes ≤ 8 → held_byte planes i < 256
byte_of_few planes i le =
    let bits : List Bool = map (λ w. at w i) planes in
    let p : 2 ^ length bits ≤ 2 ^ 8 =
    pow_mono {j = 8} (omega (arith, length-map planes (λ w. at w i))) in
    let n = number_below bits in
    omega arith

-- what eight words hold at a place is a byte
pub held_byte_lt : {A : Type 0} (bits : A → List Bool) (xs : List A) → length xs ≡ 8 → (i : ℕ)
    → held_byte (map bits xs) i < 256
held_byte_lt bits xs l i = mapped_lt (λ w. at w i) (map bits xs) (simp length-map l)

-- bit p of the byte that eight words hold at a place is the bit of word p there
pub held_bit : {A : Type 0} (bits : A → List Bool) (xs : List A) (d : A) → length xs ≡ 8
    → (i p : ℕ) → p < 8
    → bit (held_byte (map bits xs) i) p ≡ at (bits (get_or xs p d)) i
held_bit bits xs d l i p h =
    let k : p < length xs = omega arith in
    ap (λ ws. bit (number ws) p) (map-map (λ w. at w i) bits xs)
    ∙ mapped_bit (λ w. at (bits w) i) xs d p k

-- eight words hold the byte whose bits they have
pub held_is : {A : Type 0} (bits : A → List Bool) (xs : List A) (d : A) (i x : ℕ)
    → length xs ≡ 8 → x < 256
    → ((p : ℕ) → p < 8 → at (bits (get_or xs p d)) i ≡ bit x p) → held_byte (map bits xs) i ≡ x
held_is bits xs d i x l h e =
    same_byte _ x (held_byte_lt bits xs l i) h (λ p k. held_bit bits xs d l i p k ∙ e p k)

-- planes whose byte at each place is f of the old one
pub bytes_held : (f : ℕ → ℕ) (n : ℕ) (new old : List (List Bool))
    → ((i : ℕ) → i < 16 * n → held_byte new i ≡ f (held_byte old i))
    → held n new ≡ map (map f) (held n old)
unfolding held state
bytes_held f n new old h =
    build-ext n _ _ (λ k l. build-ext 16 _ _ (λ j m. h (place n (j % 4) (j / 4) k)
    (place_lt n (j % 4) (j / 4) k (omega arith) (omega arith) l))
    ∙ sym (map-build f 16 (λ j. held_byte old (place n (j % 4) (j / 4) k))))
    ∙ sym (map-build (map f) n (λ k. build 16 (λ j. held_byte old (place n (j % 4) (j / 4) k))))

-- planes whose byte at each place is the sum of two old ones
pub added_held : (n : ℕ) (new old key : List (List Bool)) →
    ((i : ℕ) → i < 16 * n → held_byte new i ≡ field_add (held_byte old i) (held_byte key i))
    → held n new ≡ zip_with add_round_key (held n old) (held n key)
unfolding held add_round_key
added_held n new old key h =
    build-ext n _ _ (λ k l. state_same _ _ (λ r c i j. h (place n r c k) (place_lt n r c k i j l)
    ∙ (λ t. field_add (sym (byte_at-state (λ r c. held_byte old (place n r c k)) r c i j) t)
    (sym (byte_at-state (λ r c. held_byte key (place n r c k)) r c i j) t))))
    ∙ sym (zip_with-build add_round_key n _ _)

-- planes whose byte at each place is, in the block of the old bytes, what a step on states puts
-- there
pub stepped_held : (step : List ℕ → List ℕ) (at : (ℕ → ℕ → ℕ) → ℕ → ℕ → ℕ) (n : ℕ)
    (new old : List (List Bool))
    → ((k : ℕ) → state (at (λ r c. held_byte old (place n r c k)))
    ≡ step (state (λ r c. held_byte old (place n r c k))))
    → ((r c k : ℕ) → r < 4 → c < 4 → k < n → held_byte new (place n r c k)
    ≡ at (λ r c. held_byte old (place n r c k)) r c)
    → held n new ≡ map step (held n old)
unfolding held
stepped_held step at n new old e h =
    build-ext n _ _ (λ k l. state_same _ _ (λ r c i j. h r c k i j l) ∙ e k)
    ∙ sym (map-build step n (λ k. state (λ r c. held_byte old (place n r c k))))

-- ---- from the bytes of blocks to the blocks

-- planes hold the blocks whose bytes they have
pub held_of : (n : ℕ) (planes : List (List Bool)) (blocks : List (List ℕ)) → length blocks ≡ n
    → ((k : ℕ) → k < n → length (get_or blocks k []) ≡ 16)
    → ((r c k : ℕ) → r < 4 → c < 4 → k < n → held_byte planes (place n r c k)
    ≡ byte_at (get_or blocks k []) r c)
    → held n planes ≡ blocks
unfolding held
held_of n planes blocks l sized h =
    build_is n _ blocks [] l
    (λ k lt. state_is _ (get_or blocks k []) (sized k lt) (λ r c i j. h r c k i j lt))

-- a list of one is its element
pub list_of_one : {A : Type 0} (xs : List A) (d : A) → length xs ≡ 1 → xs ≡ get_or xs 0 d ∷ []
list_of_one [] d e = absurd (omega arith)
list_of_one (x ∷ []) d e = refl
list_of_one (x ∷ y ∷ xs) d e = absurd (omega arith)
