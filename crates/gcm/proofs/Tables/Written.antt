-- Tables of multiples that were written, and room that has three of them.
use Rattle.std.proofs.Common.{◌≡◌, ℕ, ◌+◌, ◌*◌, ◌^◌, ◌<◌, List, [], ◌++◌, length, take, drop, get_or}
use Rattle.std.proofs.Common.{set, bit_xor, refl, ap, sym, ◌∙◌, arith, length-append, length-set}
use Rattle.std.proofs.lemmas.List.{get_or-append-add, append-nil}
use Rattle.std.proofs.lemmas.List.Edits.{fill_by_more}
use Rattle.std.proofs.Math.Seq.{take-append_seam, drop-append_seam}
use Rattle.std.proofs.Math.ListN.{get_or-append}
use Rattle.std.specs.Int.{w128, to_be_bytes, from_be_bytes}
use Rattle.std.specs.Int.Bits.{xor_zero_l, xor_zero_r}
use Rattle.aes_planes.specs.Fips197.{build}
use Rattle.aes_planes.proofs.Lists.{get_or-build, build_is, length-build}
use Rattle.aes_cipher.proofs.BlockNumbers.{number_back}
use Rattle.gcm.specs.Gcm.{v_at, product}
use Rattle.gcm.specs.Multiples.{sum_of, byte_of, nibble_multiple, multiples_row}
use Rattle.gcm.specs.Multiples.{multiples_rows, place_of, row_at, table_of, multiples_of, subkey_in}
use Rattle.gcm.specs.Multiples.{IsTable, HasMultiples}
use Rattle.gcm.proofs.Products.Linear.{byte_small}
use Rattle.gcm.proofs.Messages.Counting.{block_below}
use Rattle.gcm.proofs.Products.Powers.{product_below}
use Rattle.gcm.proofs.Tables.Rows.{byte_of_bytes, bytes_block}

-- ---- tables

-- two rows more, set in a list that is filled in order, stand at their places
pub two_more : (f : ℕ → List ℕ) (rows : List (List ℕ)) (r : ℕ) (a b : List ℕ) → length rows ≡ 16
    → r < 8
    → a ≡ f (2 * r) → b ≡ f (2 * r + 1) → ((k : ℕ) → k < 2 * r → get_or rows k [] ≡ f k) → (k : ℕ)
    → k < 2 * (r + 1)
    → get_or (set (set rows (2 * r) a) (2 * r + 1) b) k [] ≡ f k
two_more f rows r a b sized inside a_is b_is at k below =
    let one = λ (j : ℕ) (h : j < 2 * r + 1). fill_by_more f rows (2 * r) []
    (omega (arith, sized, inside)) at j h in
    (λ t. get_or (set (set rows (2 * r) (a_is t)) (2 * r + 1) (b_is t)) k [])
    ∙ fill_by_more f (set rows (2 * r) (f (2 * r))) (2 * r + 1) []
    (omega (arith, sized, inside, length-set {A = List ℕ})) one k (omega (arith, below))

-- a table has 32 rows
length-table : (v : ℕ) → length (table_of v) ≡ 32
unfolding table_of multiples_rows
length-table v =
    length-append (multiples_rows v) (multiples_rows (v_at v 4))
    ∙ (λ t. length-build 16 (λ i. multiples_row v (row_at i)) t
    + length-build 16 (λ i. multiples_row (v_at v 4) (row_at i)) t)

-- the rows of a table by the first four bits of a byte, whatever stands behind the table
pub high_row : (rows rest : List (List ℕ)) (h r : ℕ) → rows ≡ table_of h ++ rest → r < 16
    → get_or rows (place_of r) [] ≡ multiples_row h r
unfolding table_of multiples_rows
high_row rows rest h r is inside =
    let p : ℕ = place_of r in
    let row = λ (i : ℕ). multiples_row h (row_at i) in
    let long : p < length (multiples_rows h) = omega (arith, inside, length-build 16 row) in
    let more : p < length (table_of h) = omega (arith, inside, length-table h) in
    let back : row_at p ≡ r = omega (arith, inside) in
    ap (λ l. get_or l p []) is
    ∙ get_or-append (table_of h) rest [] p more
    ∙ get_or-append (multiples_rows h) (multiples_rows (v_at h 4)) [] p long
    ∙ get_or-build 16 p row [] (omega (arith, inside))
    ∙ ap (multiples_row h) back

-- row 16 + place_of r of a table is row r of the multiples of the number times x^4
pub low_row : (rows : List (List ℕ)) (h r : ℕ) → rows ≡ table_of h → r < 16
    → get_or rows (16 + place_of r) [] ≡ multiples_row (v_at h 4) r
unfolding table_of multiples_rows
low_row rows h r is inside =
    let p : ℕ = place_of r in
    let long : length (multiples_rows h) ≡ 16 = length-build 16 (λ i. multiples_row h (row_at i)) in
    let back : row_at p ≡ r = omega (arith, inside) in
    ap (λ l. get_or l (16 + p) []) is
    ∙ ap (λ n. get_or (multiples_rows h ++ multiples_rows (v_at h 4)) (n + p) []) (sym long)
    ∙ get_or-append-add (multiples_rows h) (multiples_rows (v_at h 4)) p []
    ∙ get_or-build 16 p (λ i. multiples_row (v_at h 4) (row_at i)) [] (omega (arith, inside))
    ∙ ap (multiples_row (v_at h 4)) back

-- byte r of H is read off row r of its table
subkey_byte : (rows rest : List (List ℕ)) (h r : ℕ) → rows ≡ table_of h ++ rest → r < 16
    → get_or (get_or rows (place_of r) []) 8 0 ≡ byte_of h r
unfolding multiples_row nibble_multiple sum_of v_at
subkey_byte rows rest h r is inside =
    ap (λ row. get_or row 8 0) (high_row rows rest h r is inside)
    ∙ get_or-build 16 8 (λ n. byte_of (nibble_multiple h n) r) 0 (omega arith)
    ∙ ap (λ y. byte_of y r) (xor_zero_r (bit_xor (bit_xor (bit_xor 0 h) 0) 0)
    ∙ xor_zero_r (bit_xor (bit_xor 0 h) 0) ∙ xor_zero_r (bit_xor 0 h) ∙ xor_zero_l h)

-- all of H is read off its table
subkey_is : (rows rest : List (List ℕ)) (h : ℕ) → rows ≡ table_of h ++ rest → h < 2 ^ 128
    → subkey_in rows ≡ h
unfolding subkey_in
subkey_is rows rest h is small =
    ap (from_be_bytes w128)
    (build_is 16 (λ r. get_or (get_or rows (place_of r) []) 8 0) (to_be_bytes w128 h) 0 refl
    (λ r inside. subkey_byte rows rest h r is inside ∙ sym (byte_of_bytes h r inside)))
    ∙ number_back h (to_be_bytes w128 h) small refl

-- the block that is read off a table has 128 bits
subkey_below : (rows rest : List (List ℕ)) → rows ≡ table_of (subkey_in rows) ++ rest
    → subkey_in rows < 2 ^ 128
unfolding subkey_in
subkey_below rows rest is =
    block_below (build 16 (λ r. get_or (get_or rows (place_of r) []) 8 0))
    (bytes_block (build 16 (λ r. get_or (get_or rows (place_of r) []) 8 0))
    (length-build 16 (λ r. get_or (get_or rows (place_of r) []) 8 0))
    (λ r inside. rw (get_or-build 16 r (λ r. get_or (get_or rows (place_of r) []) 8 0) 0 inside
    ∙ subkey_byte rows rest (subkey_in rows) r is inside) (byte_small (subkey_in rows) r)))

-- the table that `put_table` writes in two halves, the second for four powers of x more
pub table_written : (v : ℕ) (high low : List (List ℕ)) → high ≡ multiples_rows v
    → low ≡ multiples_rows (v_at v 4) → high ++ low ≡ table_of v
unfolding table_of
table_written v high low high_is low_is = λ t. high_is t ++ low_is t

-- a table with nothing behind it, so that lemmas on room hold for it
pub nothing_behind : (v : ℕ) → table_of v ≡ table_of v ++ []
nothing_behind v = sym (append-nil (table_of v))

-- the block that is read off a table that was written
pub table_block : (v : ℕ) (rows : List (List ℕ)) → rows ≡ table_of v → v < 2 ^ 128
    → subkey_in rows ≡ v
table_block v rows is small = subkey_is rows [] v (is ∙ nothing_behind v) small

-- a table that was written is a table of the block that is read off it
pub table_read : (v : ℕ) (rows : List (List ℕ)) → rows ≡ table_of v → v < 2 ^ 128 → IsTable rows
table_read v rows is small = is ∙ ap table_of (sym (table_block v rows is small))

-- both facts on a table that was written, for the lemmas that cut room into tables
table_with : (v : ℕ) (rows : List (List ℕ)) → rows ≡ table_of v → v < 2 ^ 128
    → (IsTable rows) × (subkey_in rows ≡ v)
table_with v rows is small = (table_read v rows is small, table_block v rows is small)

-- the block of a table has 128 bits
pub table_below : (rows : List (List ℕ)) → IsTable rows → subkey_in rows < 2 ^ 128
table_below rows is = subkey_below rows [] (is ∙ nothing_behind (subkey_in rows))

-- ---- room

-- room into which three tables were written has the multiples of H
pub multiples_written : (h h2 h3 : ℕ) (first second third : List (List ℕ)) → h < 2 ^ 128
    → first ≡ table_of h → second ≡ table_of h2
    → third ≡ table_of h3 → h2 ≡ product h (subkey_in first) → h3 ≡ product h2 (subkey_in first)
    → first ++ (second ++ third) ≡ multiples_of h
unfolding multiples_of
multiples_written h h2 h3 first second third small first_is second_is third_is square_is cube_is =
    let here = table_block h first first_is small in
    let square : h2 ≡ product h h = square_is ∙ ap (product h) here in
    (λ t. first_is t ++ ((second_is ∙ ap table_of square) t
    ++ (third_is ∙ ap table_of (cube_is ∙ (λ u. product (square u) (here u)))) t))

-- the block of room that was written is H
pub room_block : (room : List (List ℕ)) (h : ℕ) → room ≡ multiples_of h → h < 2 ^ 128
    → subkey_in room ≡ h
unfolding multiples_of
room_block room h is small =
    subkey_is room (table_of (product h h) ++ table_of (product (product h h) h)) h is small

-- room that was written has the multiples of the block that is read off it
pub multiples_read : (room : List (List ℕ)) (h : ℕ) → room ≡ multiples_of h → h < 2 ^ 128
    → HasMultiples room
multiples_read room h is small = is ∙ ap multiples_of (sym (room_block room h is small))

-- the block of room has 128 bits
pub room_below : (room : List (List ℕ)) → HasMultiples room → subkey_in room < 2 ^ 128
unfolding multiples_of
room_below room is =
    let h = subkey_in room in
    subkey_below room (table_of (product h h) ++ table_of (product (product h h) h)) is

-- the first table in room is that of H
pub first_in : (room rows : List (List ℕ)) → HasMultiples room → rows ≡ take 32 room
    → (IsTable rows) × (subkey_in rows ≡ subkey_in room)
unfolding multiples_of
first_in room rows is at =
    let h = subkey_in room in
    table_with h rows (at ∙ ap (take 32) is
    ∙ ap (λ n. take n (multiples_of h)) (sym (length-table h))
    ∙ take-append_seam (table_of h) (table_of (product h h) ++ table_of (product (product h h) h)))
    (room_below room is)

-- behind the first table in room stand the two others
other_tables : (room : List (List ℕ)) → HasMultiples room → let h = subkey_in room in
    drop 32 room ≡ table_of (product h h) ++ table_of (product (product h h) h)
unfolding multiples_of
other_tables room is =
    let h = subkey_in room in
    ap (drop 32) is ∙ ap (λ n. drop n (multiples_of h)) (sym (length-table h))
    ∙ drop-append_seam (table_of h) (table_of (product h h) ++ table_of (product (product h h) h))

-- the second table in room is that of the square
pub second_in : (room rows : List (List ℕ)) → HasMultiples room → rows ≡ take 32 (drop 32 room)
    → (IsTable rows) × (subkey_in rows ≡ product (subkey_in room) (subkey_in room))
second_in room rows is at =
    let h = subkey_in room in
    let h2 = product h h in
    table_with h2 rows (at ∙ ap (take 32) (other_tables room is)
    ∙ ap (λ n. take n (table_of h2 ++ table_of (product h2 h))) (sym (length-table h2))
    ∙ take-append_seam (table_of h2) (table_of (product h2 h)))
    (product_below h h (room_below room is))

-- the third table in room is that of the cube
pub third_in : (room rows : List (List ℕ)) → HasMultiples room → rows ≡ drop 32 (drop 32 room)
    → let h = subkey_in room in (IsTable rows) × (subkey_in rows ≡ product (product h h) h)
third_in room rows is at =
    let h = subkey_in room in
    let h2 = product h h in
    table_with (product h2 h) rows (at ∙ ap (drop 32) (other_tables room is)
    ∙ ap (λ n. drop n (table_of h2 ++ table_of (product h2 h))) (sym (length-table h2))
    ∙ drop-append_seam (table_of h2) (table_of (product h2 h)))
    (product_below h2 h (room_below room is))
