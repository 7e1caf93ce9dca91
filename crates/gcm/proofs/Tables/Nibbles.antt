-- Rows of multiples: each nibble's entry is looked up byte by byte.
use Rattle.std.proofs.Common.{◌≡◌, ℕ, ◌-◌, ◌/◌, ◌%◌, ◌^◌, ◌<◌, ◌==◌, if◌then◌else◌, Bool, true}
use Rattle.std.proofs.Common.{false}
use Rattle.std.proofs.Common.{bit_xor, bit_or, List, [], map, replicate, get_or, refl, ap, sym, ◌∙◌}
use Rattle.std.specs.List.{list_all}
use Rattle.std.specs.Int.{w128, to_be_bytes}
use Rattle.std.specs.Int.Bits.{xor_self, xor_zero_l}
use lib.Lanes.{zip2}
use Rattle.aes_planes.specs.Fips197.{build, build_from}
use Rattle.aes_planes.proofs.Bits.ByteCases.{by_four, by_eight, all_below, all_pairs_tell}
use Rattle.aes_permute.specs.Lookup.{looked, is_index, AreIndices}
use Rattle.gcm.specs.declared.multiples.TheConstants.{WITHOUT}
use Rattle.gcm.specs.Gcm.{next_v, v_at}
use Rattle.gcm.specs.Multiples.{sum_of, byte_of, nibble_multiple, bit_row, multiples_row}
use Rattle.gcm.proofs.Tables.Rows.{by_sixteen, byte_of_sum, byte_of_bytes}

-- ---- a byte that is looked up for each nibble

-- the indices of byte r for a bit: r, or above 127 where the nibble doesn't have it
pub indices : (bit r : ℕ) → bit < 4 → r < 16
    → AreIndices (zip2 bit_or (replicate 16 r) (get_or WITHOUT bit []))
unfolding all_below is_index
indices = all_pairs_tell 4 16
    (λ bit r. list_all is_index (zip2 bit_or (replicate 16 r) (get_or WITHOUT bit []))) refl

-- the entry of a number's block at index r is byte r, and 0 where the index is above 127
masked_entry : (x r : ℕ) (block : List ℕ) (t : Bool) → r < 16 → block ≡ to_be_bytes w128 x
    → looked block (bit_or r (if t then 128 else 0)) ≡ (if t then 0 else byte_of x r)
masked_entry x r block true inside is =
    by_sixteen (λ r. looked block (bit_or r 128) ≡ 0)
    (by_eight _ refl refl refl refl refl refl refl refl)
    (by_eight _ refl refl refl refl refl refl refl refl) r inside
masked_entry x r block false inside is =
    by_sixteen (λ r. looked block (bit_or r 0) ≡ get_or block r 0)
    (by_eight _ refl refl refl refl refl refl refl refl)
    (by_eight _ refl refl refl refl refl refl refl refl) r inside
    ∙ ap (λ l. get_or l r 0) is ∙ byte_of_bytes x r inside

-- byte r of a number, or 0, is byte r of that number or of 0
byte_if : (t : Bool) (y r : ℕ) → (if t then 0 else byte_of y r) ≡ byte_of (if t then 0 else y) r
byte_if true y r = sym (byte_of_sum 0 0 r ∙ xor_self (byte_of 0 r))
byte_if false y r = refl

-- the look-ups of byte r for a bit are the row of that bit
pub looked_bit : (v bit r : ℕ) (block : List ℕ) → bit < 4 → r < 16 → block ≡ to_be_bytes w128 v
    → map (looked block) (zip2 bit_or (replicate 16 r) (get_or WITHOUT bit [])) ≡ bit_row v bit r
unfolding bit_row build build_from
looked_bit v bit r block small inside is =
    let byte = λ (bit n : ℕ). masked_entry v r block (n / 2 ^ (3 - bit) % 2 == 0) inside is in
    by_four (λ bit. map (looked block) (zip2 bit_or (replicate 16 r) (get_or WITHOUT bit []))
    ≡ bit_row v bit r)
    (λ t. build 16 (λ n. byte 0 n t)) (λ t. build 16 (λ n. byte 1 n t))
    (λ t. build 16 (λ n. byte 2 n t)) (λ t. build 16 (λ n. byte 3 n t)) bit small

-- the bytes for the four bits of a nibble are summed to byte r of its multiple
nibble_byte : (v r n : ℕ) → let byte = λ (bit : ℕ).
    if n / 2 ^ (3 - bit) % 2 == 0 then 0 else byte_of (v_at v bit) r in
    bit_xor (bit_xor (bit_xor (byte 0) (byte 1)) (byte 2)) (byte 3)
    ≡ byte_of (nibble_multiple v n) r
unfolding nibble_multiple sum_of
nibble_byte v r n =
    let f = λ (i : ℕ). if n / 2 ^ (3 - i) % 2 == 0 then 0 else v_at v i in
    let byte = λ (i : ℕ). byte_if (n / 2 ^ (3 - i) % 2 == 0) (v_at v i) r in
    (λ t. bit_xor (bit_xor (bit_xor (byte 0 t) (byte 1 t)) (byte 2 t)) (byte 3 t))
    ∙ (λ t. bit_xor (bit_xor (sym (byte_of_sum (f 0) (f 1) r) t) (byte_of (f 2) r))
    (byte_of (f 3) r))
    ∙ (λ t. bit_xor (sym (byte_of_sum (bit_xor (f 0) (f 1)) (f 2) r) t) (byte_of (f 3) r))
    ∙ sym (byte_of_sum (bit_xor (bit_xor (f 0) (f 1)) (f 2)) (f 3) r)
    ∙ ap (λ y. byte_of (bit_xor (bit_xor (bit_xor y (f 1)) (f 2)) (f 3)) r) (sym (xor_zero_l (f 0)))

-- the look-ups for the four bits are summed to row r
pub row_summed : (v v1 v2 v3 r : ℕ) → v1 ≡ next_v v → v2 ≡ next_v v1 → v3 ≡ next_v v2
    → zip2 bit_xor (zip2 bit_xor (zip2 bit_xor (bit_row v 0 r) (bit_row v1 1 r)) (bit_row v2 2 r))
    (bit_row v3 3 r) ≡ multiples_row v r
unfolding bit_row multiples_row build build_from v_at
row_summed v v1 v2 v3 r one two three =
    (λ t. zip2 bit_xor (zip2 bit_xor (zip2 bit_xor (bit_row v 0 r) (bit_row (one t) 1 r))
    (bit_row ((two ∙ ap next_v one) t) 2 r))
    (bit_row ((three ∙ ap next_v (two ∙ ap next_v one)) t) 3 r))
    ∙ (λ t. build 16 (λ n. nibble_byte v r n t))
