-- Packing at every width: planes that hold blocks, words as bytes, and the bytes of a block by
-- swizzles.
use Rattle.std.proofs.Common.{◌≡◌, ℕ, zero, suc, ◌+◌, ◌*◌, ◌/◌, ◌%◌, ◌^◌, ◌<◌, ◌≤◌, ◌==◌, Bool}
use Rattle.std.proofs.Common.{true, List, [], ◌∷◌, ◌++◌, length, map, get_or, T, refl, ap, sym}
use Rattle.std.proofs.Common.{subst, ◌∙◌, arith, w8, Fits, inl, inr}
use Rattle.std.specs.Int.{to_le_bytes, from_le_bytes, w32}
use Rattle.std.proofs.lemmas.List.{ext_get_or, get_or-map, length-map}
use Rattle.std.proofs.lemmas.Nat.{le_bytes_4}
use Rattle.std.proofs.lemmas.Simd.{pick_l_left, Each1-get_or, Each1-from_get_or, below_from_Fits}
use Rattle.std.proofs.lemmas.Bool.{cases_lt}
use lib.Lanes.{Each1, pick_l, digits_l, number_l, all_below as all_lanes_below}
use Rattle.aes_planes.specs.Bits.{at, bit}
use Rattle.aes_planes.specs.Fips197.{byte_at, IsBlock}
use Rattle.aes_planes.specs.Private.Packing.{row_byte}
use Rattle.aes_planes.specs.Planes.{held, place}
use Rattle.aes_planes.specs.Words.{word_bits, lane_bits}
use Rattle.aes_planes.proofs.Bits.ByteCases.{all_below, all_below_tells, all_pairs_tell, by_one}
use Rattle.aes_planes.proofs.Bits.ByteCases.{by_four}
use Rattle.aes_planes.proofs.Bits.Digits.{field_bit, regrouped, digits_small, each_small}
use Rattle.aes_planes.proofs.Bits.NumberBits.{bit_low, at-word_bits}
use Rattle.aes_planes.proofs.Planes.Held.{place_lt}
use Rattle.aes_planes.proofs.Planes.Holds.{holds_held}
use Rattle.aes_planes.proofs.Words.LaneBits.{lane_at}
use Rattle.aes_planes.proofs.Words.Swizzles.{picked_at}

-- ---- planes and the words that they are the transpose of

-- planes that have the bits of blocks, row by row, hold the blocks
pub rows_held : (n : ℕ) (planes : List (List Bool)) (blocks : List (List ℕ)) → length planes ≡ 8
    → length blocks ≡ n
    → ((k : ℕ) → k < n → IsBlock (get_or blocks k []))
    → ((p r c k : ℕ) → p < 8 → r < 4 → c < 4 → k < n
    → at (get_or planes p []) (place n r c k) ≡ bit (row_byte (get_or blocks k []) (4 * r + c)) p)
    → held n planes ≡ blocks
rows_held n planes blocks lp lb typed same = holds_held n planes blocks (record {
  planes_count = lp;
  blocks_count = lb;
  block_length = λ k h. (typed k h).0;
  bytes = λ k h. (typed k h).1;
  bits = λ p r c k hp hr hc hk.
      let row : (4 * r + c) / 4 ≡ r = omega (arith, hc) in
      let column : (4 * r + c) % 4 ≡ c = omega (arith, hc) in
      same p r c k hp hr hc hk ∙ (λ t. bit (byte_at (get_or blocks k []) (row t) (column t)) p);
})

-- word t of eight that n blocks are loaded into has as byte j byte `from j t`, row by row, of block
-- `whose j t`
abbrev IsLoaded : ℕ → (ℕ → ℕ → ℕ) → (ℕ → ℕ → ℕ) → List (List ℕ) → List Bool → ℕ → Type 0
IsLoaded n whose from blocks word t =
    (j p : ℕ) → j < 2 * n → p < 8 → bit (row_byte (get_or blocks (whose j t) []) (from j t)) p
    ≡ at word (8 * j + p)

-- byte i / 8 of word i % 8 is the one whose place is i
abbrev IsPlaced : ℕ → (ℕ → ℕ → ℕ) → (ℕ → ℕ → ℕ) → Type 0
IsPlaced n whose from = (r c k : ℕ) → r < 4 → c < 4 → k < n
    → (whose (place n r c k / 8) (place n r c k % 8) ≡ k)
    × (from (place n r c k / 8) (place n r c k % 8) ≡ 4 * r + c)

-- eight words are transposed in each lane: bit t of the lane of plane p is bit p of word t
abbrev IsTransposed : ℕ → List (List Bool) → List (List Bool) → Type 0
IsTransposed n planes words = (p j t : ℕ) → p < 8 → 8 * j + 8 ≤ 16 * n → t < 8
    → at (get_or planes p []) (8 * j + t) ≡ at (get_or words t []) (8 * j + p)

-- planes that are transposed words of blocks hold these blocks
transposed_held : (n : ℕ) (whose from : ℕ → ℕ → ℕ) (planes words : List (List Bool))
    (blocks : List (List ℕ))
    → length planes ≡ 8
    → length blocks ≡ n → ((k : ℕ) → k < n → IsBlock (get_or blocks k [])) → IsPlaced n whose from
    → IsTransposed n planes words
    → ((t : ℕ) → t < 8 → IsLoaded n whose from blocks (get_or words t []) t)
    → held n planes ≡ blocks
transposed_held n whose from planes words blocks lp lb typed placed turned loaded =
    rows_held n planes blocks lp lb typed (λ p r c k hp hr hc hk.
    let i = place n r c k in
    let lt : i < 16 * n = place_lt n r c k hr hc hk in
    let spot : i ≡ 8 * (i / 8) + i % 8 = omega arith in
    let s = placed r c k hr hc hk in
    ap (at (get_or planes p [])) spot
    ∙ turned p (i / 8) (i % 8) hp (omega (arith, lt)) (omega arith)
    ∙ sym (loaded (i % 8) (omega arith) (i / 8) p (omega (arith, lt)) hp)
    ∙ (λ t. bit (row_byte (get_or blocks (s.0 t) []) (s.1 t)) p))

-- where a word has a byte of each of two blocks by turns, they are loaded into it
pub by_turns : (blocks : List (List ℕ)) (word : List Bool) (t : ℕ)
    → ((j p : ℕ) → j < 16 → p < 8 → bit (row_byte (get_or blocks t []) j) p ≡ at word (16 * j + p))
    → ((j p : ℕ) → j < 16 → p < 8 → bit (row_byte (get_or blocks (8 + t) []) j) p
    ≡ at word (16 * j + 8 + p))
    → IsLoaded 16 (λ j t. 8 * (j % 2) + t) (λ j t. j / 2) blocks word t
by_turns blocks word t low high j p hj hp = elim (cases_lt (j % 2) 1) [
  | inl lt ↦
      let block : 8 * (j % 2) + t ≡ t = omega (arith, lt) in
      let spot : 16 * (j / 2) + p ≡ 8 * j + p = omega (arith, lt) in
      ap (λ b. bit (row_byte (get_or blocks b []) (j / 2)) p) block ∙ low (j / 2) p (omega arith) hp
      ∙ ap (at word) spot
  | inr le ↦
      let block : 8 * (j % 2) + t ≡ 8 + t = omega (arith, le) in
      let spot : 16 * (j / 2) + 8 + p ≡ 8 * j + p = omega (arith, le) in
      ap (λ b. bit (row_byte (get_or blocks b []) (j / 2)) p) block
      ∙ high (j / 2) p (omega arith) hp ∙ ap (at word) spot
]

-- the blocks of a batch, read from place i on
abbrev pub IsRead : ℕ → List (List ℕ) → List (List ℕ) → Type 0
IsRead i [] batch = Unit {0}
IsRead i (b ∷ bs) batch = (IsBlock b × (b ≡ get_or batch i [])) × IsRead (suc i) bs batch

-- each of them is the block of the batch at its place
read_at : (i : ℕ) (bs batch : List (List ℕ)) (k : ℕ) → IsRead i bs batch → k < length bs
    → IsBlock (get_or bs k []) × (get_or bs k [] ≡ get_or batch (i + k) [])
read_at i [] batch k h l = absurd (omega arith)
read_at i (b ∷ bs) batch zero h l = (h.0.0, h.0.1 ∙ ap (λ v. get_or batch v []) (omega arith))
read_at i (b ∷ bs) batch (suc k) h l =
    let t = read_at (suc i) bs batch k h.1 (omega arith) in
    (t.0, t.1 ∙ ap (λ v. get_or batch v []) (omega arith))

module _ {A : Type 0} (bits : A → List Bool) (n : ℕ) (whose from : ℕ → ℕ → ℕ)
    (placed : IsPlaced n whose from) where
  -- the transpose of the words that a batch is loaded into holds the batch
  pub packed : (planes words : List A) (blocks batch : List (List ℕ)) → length planes ≡ 8
      → length blocks ≡ n
      → length batch ≡ n
      → IsRead 0 blocks batch → IsTransposed n (map bits planes) (map bits words)
      → ((t : ℕ) → t < 8 → IsLoaded n whose from blocks (get_or (map bits words) t []) t)
      → held n (map bits planes) ≡ batch
  packed planes words blocks batch lp lb lh h turned loaded =
      let read : (k : ℕ) → k < n → IsBlock (get_or blocks k [])
      × (get_or blocks k [] ≡ get_or batch (0 + k) []) =
      λ k l. read_at 0 blocks batch k h (omega (arith, lb, l)) in
      transposed_held n whose from (map bits planes) (map bits words) blocks
      (length-map planes bits ∙ lp) lb
      (λ k l. (read k l).0)
      placed turned loaded
      ∙ ext_get_or [] blocks batch (lb ∙ sym lh) (λ k l. (read k (omega (arith, lb, l))).1
      ∙ ap (λ v. get_or batch v []) (omega arith))

  -- the blocks that the transpose of planes is loaded from are the ones that the planes hold
  pub unpacked : (planes : List (List Bool)) (words : List A) (d : A) (blocks : List (List ℕ))
      → length planes ≡ 8
      → length words ≡ 8 → length blocks ≡ n → Each1 IsBlock blocks
      → ((t j p : ℕ) → t < 8 → 8 * j + 8 ≤ 16 * n → p < 8
      → at (get_or (map bits words) t []) (8 * j + p)
      ≡ at (get_or planes p []) (8 * j + t))
      → ((t : ℕ) → t < 8 → IsLoaded n whose from blocks (bits (get_or words t d)) t)
      → blocks ≡ held n planes
  unpacked planes words d blocks lp lw lb typed turned loaded =
      sym (transposed_held n whose from planes (map bits words) blocks lp lb
      (λ k l. Each1-get_or IsBlock blocks k [] (omega (arith, lb, l)) typed) placed
      (λ p j t hp hj ht. sym (turned t j p ht hj hp))
      (λ t ht j p hj hp. loaded t ht j p hj hp ∙ ap (λ x. at x (8 * j + p))
      (sym (get_or-map bits words t d [] (omega (arith, lw, ht))))))

-- eight words that have the bits of a block's bytes are planes that hold the block
pub one_packed : (planes block : List ℕ) → length planes ≡ 8 → IsBlock block
    → ((p i : ℕ) → p < 8 → i < 16 → bit (get_or planes p 0) i ≡ bit (row_byte block i) p)
    → held 1 (map (word_bits 16) planes) ≡ block ∷ []
one_packed planes block lp typed turned =
    rows_held 1 (map (word_bits 16) planes) (block ∷ [])
    (length-map planes (word_bits 16) ∙ lp) refl
    (by_one (λ k. IsBlock (get_or (block ∷ []) k [])) typed) (λ p r c k hp hr hc.
    let spot : place 1 r c 0 ≡ 4 * r + c = omega arith in
    by_one (λ k. at (get_or (map (word_bits 16) planes) p []) (place 1 r c k)
    ≡ bit (row_byte (get_or (block ∷ []) k []) (4 * r + c)) p)
    (ap (λ w. at w (place 1 r c 0)) (get_or-map (word_bits 16) planes p 0 [] (omega (arith, lp)))
    ∙ ap (at (word_bits 16 (get_or planes p 0))) spot
    ∙ sym (at-word_bits 16 (get_or planes p 0) (4 * r + c) (omega arith))
    ∙ turned p (4 * r + c) hp (omega arith)) k)

-- ---- words of four bytes

-- four bytes of a word of 32 bits have the word's bits, eight each from the lowest on
pub word_to_four : (f : ℕ → ℕ) (bs : List ℕ) (x : ℕ) → bs ≡ to_le_bytes w32 x
    → f 0 ≡ get_or bs 0 0 → f 1 ≡ get_or bs 1 0 → f 2 ≡ get_or bs 2 0 → f 3 ≡ get_or bs 3 0
    → (j p : ℕ) → j < 4 → p < 8 → bit (f j) p ≡ at (word_bits 32 x) (8 * j + p)
word_to_four f bs x bytes_are first second third fourth j p hj hp =
    by_four (λ j. bit (f j) p ≡ bit x (8 * j + p))
    ((λ t. bit ((first ∙ ap (λ v. get_or v 0 0) bytes_are) t) p) ∙ bit_low x 8 p hp
    ∙ ap (bit x) (omega arith))
    ((λ t. bit ((second ∙ ap (λ v. get_or v 1 0) bytes_are) t) p) ∙ field_bit x 8 8 p hp)
    ((λ t. bit ((third ∙ ap (λ v. get_or v 2 0) bytes_are) t) p) ∙ field_bit x 16 8 p hp)
    ((λ t. bit ((fourth ∙ ap (λ v. get_or v 3 0) bytes_are) t) p) ∙ field_bit x 24 8 p hp) j hj
    ∙ at-word_bits 32 x (8 * j + p) (omega arith)

-- four bytes that make a word of 32 bits have the word's bits, eight each from the lowest on
word_of_four : (f : ℕ → ℕ) (bs : List ℕ) (x : ℕ) → length bs ≡ 4 → ((i : ℕ) → get_or bs i 0 < 256)
    → x ≡ from_le_bytes w32 bs
    → f 0 ≡ get_or bs 0 0 → f 1 ≡ get_or bs 1 0 → f 2 ≡ get_or bs 2 0 → f 3 ≡ get_or bs 3 0
    → (j p : ℕ) → j < 4 → p < 8 → bit (f j) p ≡ at (word_bits 32 x) (8 * j + p)
word_of_four f bs x l s e = word_to_four f bs x (sym (le_bytes_4 bs x l s e))

-- the word of a column of a block has the bits of the column's bytes
pub column_word : (xs : List ℕ) (c j p x : ℕ) → ((i : ℕ) → get_or xs i 0 < 256) → c < 4
    → j < 4 → p < 8
    → x ≡ from_le_bytes w32 (get_or xs (4 * c) 0 ∷ get_or xs (4 * c + 1) 0 ∷ get_or xs (4 * c + 2) 0
    ∷ get_or xs (4 * c + 3) 0 ∷ [])
    → bit (row_byte xs (4 * j + c)) p ≡ at (word_bits 32 x) (8 * j + p)
column_word xs c j p x f hc hj hp e =
    let bytes = get_or xs (4 * c) 0 ∷ get_or xs (4 * c + 1) 0 ∷ get_or xs (4 * c + 2) 0
    ∷ get_or xs (4 * c + 3) 0 ∷ [] in
    let small : (i : ℕ) → get_or bytes i 0 < 256 =
    each_small 8 bytes (f _, (f _, (f _, (f _, tt)))) in
    word_of_four (λ j. row_byte xs (4 * j + c)) bytes x refl small e
    (ap (λ i. get_or xs i 0) (omega arith)) (ap (λ i. get_or xs i 0) (omega arith))
    (ap (λ i. get_or xs i 0) (omega arith)) (ap (λ i. get_or xs i 0) (omega arith)) j p hj hp

-- ---- the bytes of a block by swizzles

-- lanes that are picked from bytes are bytes
picked_small : (xs ks : List ℕ) (i : ℕ) → ((i : ℕ) → get_or xs i 0 < 2 ^ 8)
    → get_or (pick_l 0 xs ks) i 0 < 2 ^ 8
picked_small xs [] i f = omega arith
picked_small xs (k ∷ ks) zero f = f k
picked_small xs (k ∷ ks) (suc i) f = picked_small xs ks i f

module _ (xs ks : List ℕ) (d : length xs ≡ 16) (within : T (all_lanes_below 16 ks)) where
  -- lanes that a swizzle picks from bytes, which reads the list twice over, are bytes
  swizzled_small : ((i : ℕ) → get_or xs i 0 < 2 ^ 8) → (i : ℕ)
      → get_or (pick_l 0 (xs ++ xs) ks) i 0 < 2 ^ 8
  swizzled_small f i =
      subst (λ (v : List ℕ). get_or v i 0 < 2 ^ 8) (sym (pick_l_left 0 xs xs 16 ks d within))
      (picked_small xs ks i f)

  -- lane i of what a swizzle reads of a vector is the lane that the swizzle names at i
  pub swizzled : (i o : ℕ) → i < length ks → (get_or ks i 0 == o) ≡ true
      → get_or (pick_l 0 (xs ++ xs) ks) i 0 ≡ get_or xs o 0
  swizzled i o h k =
      ap (λ v. get_or v i 0) (pick_l_left 0 xs xs 16 ks d within) ∙ picked_at xs ks i o h k

-- rows for columns, and columns for rows

-- the swizzle that exchanges rows and columns
abbrev pub flipped_places : List ℕ
flipped_places = 0 ∷ 4 ∷ 8 ∷ 12 ∷ 1 ∷ 5 ∷ 9 ∷ 13 ∷ 2 ∷ 6 ∷ 10 ∷ 14 ∷ 3 ∷ 7 ∷ 11 ∷ 15 ∷ []

-- byte j of a block read row by row is lane j of the block swizzled
pub by_rows_at : (xs : List ℕ) (j p : ℕ) → length xs ≡ 16 → j < 16 → p < 8
    → bit (row_byte xs j) p ≡ at (lane_bits (pick_l 0 (xs ++ xs) flipped_places)) (8 * j + p)
unfolding all_below
by_rows_at xs j p d h hp = sym (lane_at (pick_l 0 (xs ++ xs) flipped_places) j p h hp
    ∙ ap (λ v. bit v p) (swizzled xs flipped_places d tt j (j / 4 + 4 * (j % 4)) h
    (all_below_tells 16 (λ j. get_or flipped_places j 0 == j / 4 + 4 * (j % 4)) refl j h)))

-- lane j of a vector is byte j, read row by row, of the vector swizzled
pub by_columns_at : (xs : List ℕ) (j p : ℕ) → length xs ≡ 16 → j < 16 → p < 8
    → bit (row_byte (pick_l 0 (xs ++ xs) flipped_places) j) p ≡ at (lane_bits xs) (8 * j + p)
unfolding all_below
by_columns_at xs j p d h hp =
    ap (λ v. bit v p) (swizzled xs flipped_places d tt (j / 4 + 4 * (j % 4)) j (omega (arith, h))
    (all_below_tells 16 (λ j. get_or flipped_places (j / 4 + 4 * (j % 4)) 0 == j) refl j h))
    ∙ sym (lane_at xs j p h hp)

-- sixteen bytes, swizzled, are a block
pub by_columns_typed : (xs : List ℕ) → length xs ≡ 16 → Each1 (Fits w8) xs
    → IsBlock (pick_l 0 (xs ++ xs) flipped_places)
by_columns_typed xs d f =
    (refl, swizzled_small xs flipped_places d tt (each_small 8 xs (below_from_Fits w8 xs f)))

-- even and odd columns apart, and together

-- the swizzle that puts the even columns, row by row, into the lower half and the odd ones into the
-- upper
abbrev pub apart_places : List ℕ
apart_places = 0 ∷ 8 ∷ 1 ∷ 9 ∷ 2 ∷ 10 ∷ 3 ∷ 11 ∷ 4 ∷ 12 ∷ 5 ∷ 13 ∷ 6 ∷ 14 ∷ 7 ∷ 15 ∷ []

-- the swizzle back, which alternates bytes of the two halves
abbrev pub together_places : List ℕ
together_places = 0 ∷ 2 ∷ 4 ∷ 6 ∷ 8 ∷ 10 ∷ 12 ∷ 14 ∷ 1 ∷ 3 ∷ 5 ∷ 7 ∷ 9 ∷ 11 ∷ 13 ∷ 15 ∷ []

-- half o of a block so swizzled, as a word of 64 bits, has in lane j byte 2 * j + o of the block,
-- row by row
pub apart_at : (xs : List ℕ) → length xs ≡ 16 → ((i : ℕ) → get_or xs i 0 < 2 ^ 8) → (o : ℕ) → o < 2
    → (j p : ℕ) → j < 8
    → p < 8
    → bit (row_byte xs (2 * j + o)) p ≡ at (word_bits 64 (get_or
    (digits_l (2 ^ 64) 2 (number_l (2 ^ 8) (pick_l 0 (xs ++ xs) apart_places))) o 0)) (8 * j + p)
unfolding all_below
apart_at xs d f o ho j p hj hp =
    let ys = pick_l 0 (xs ++ xs) apart_places in
    let small = Each1-from_get_or (λ (v : ℕ). v < 2 ^ 8) ys 0
    (λ i l. swizzled_small xs apart_places d tt f i) in
    sym (ap (λ v. bit v p)
    (swizzled xs apart_places d tt (8 * o + j) ((2 * j + o) / 4 + 4 * ((2 * j + o) % 4)) (omega arith)
    (all_pairs_tell 2 8
    (λ o j. get_or apart_places (8 * o + j) 0 == (2 * j + o) / 4 + 4 * ((2 * j + o) % 4)) refl o j ho hj)))
    ∙ sym (regrouped 64 8 2 ys o (8 * j + p) (8 * o + j) p small ho (omega arith) (omega arith) hp
    (omega arith))
    ∙ at-word_bits 64 (get_or (digits_l (2 ^ 64) 2 (number_l (2 ^ 8) ys)) o 0) (8 * j + p) (omega arith)

-- the sixteen bytes of two words of 64 bits
abbrev pub bytes_of : ℕ → ℕ → List ℕ
bytes_of even odd = digits_l (2 ^ 8) 16 (number_l (2 ^ 64) (even ∷ odd ∷ []))

-- byte 2 * j + o, row by row, of the block that two words are swizzled into is lane j of word o
pub together_at : (even odd : ℕ) → even < 2 ^ 64 → odd < 2 ^ 64 → (o : ℕ) → o < 2 → (j p : ℕ)
    → j < 8 → p < 8
    → bit (row_byte (pick_l 0 (bytes_of even odd ++ bytes_of even odd) together_places) (2 * j + o)) p
    ≡ at (word_bits 64 (get_or (even ∷ odd ∷ []) o 0)) (8 * j + p)
unfolding all_below
together_at even odd fe fo o ho j p hj hp =
    ap (λ v. bit v p) (swizzled (bytes_of even odd) together_places refl tt
    ((2 * j + o) / 4 + 4 * ((2 * j + o) % 4))
    (8 * o + j) (omega arith)
    (all_pairs_tell 2 8
    (λ o j. get_or together_places ((2 * j + o) / 4 + 4 * ((2 * j + o) % 4)) 0 == 8 * o + j) refl o j ho
    hj))
    ∙ regrouped 8 64 16 (even ∷ odd ∷ []) (8 * o + j) p o (8 * j + p) (fe, (fo, tt))
    (omega arith) hp ho (omega arith)
    (omega arith)
    ∙ at-word_bits 64 (get_or (even ∷ odd ∷ []) o 0) (8 * j + p) (omega arith)

-- two words of 64 bits so swizzled are a block
pub together_typed : (even odd : ℕ)
    → IsBlock (pick_l 0 (bytes_of even odd ++ bytes_of even odd) together_places)
together_typed even odd = (
  refl,
  swizzled_small (bytes_of even odd) together_places refl tt (each_small 8 (bytes_of even odd)
      (digits_small 8 16 (number_l (2 ^ 64) (even ∷ odd ∷ [])))),
)
