-- The rounds of EqInvCipher on lanes, which leave InvShiftRows out.
use Rattle.std.proofs.Common.{◌≡◌, ℕ, ◌-◌, ◌%◌, ◌≤◌, ◌==◌, ◌&&◌, nat_lt, true}
use Rattle.std.proofs.Common.{bit_xor, List, [], ◌∷◌, length, map, map-id, refl, ap, sym}
use Rattle.std.proofs.Common.{◌∙◌, arith}
use Rattle.std.proofs.lemmas.List.{length-map}
use Rattle.std.specs.Int.Bits.{xor_assoc}
use Rattle.std.proofs.lemmas.Bool.{eqb-true, and_parts, ltb-true}
use Rattle.std.proofs.lemmas.Simd.{map-map}
use lib.Lanes.{zip2}
use Rattle.aes_planes.specs.Fips197.{field_mul, sbox, inv_sbox}
use Rattle.aes_planes.specs.Fips197.{shift_times, inv_sub_bytes, inv_shift_rows, inv_shift_times}
use Rattle.aes_planes.specs.Fips197.{inv_mix_columns, add_round_key, IsBytes, IsBlock}
use Rattle.aes_planes.specs.Planes.{plus63}
use Rattle.aes_planes.proofs.Bits.ByteCases.{all_below, all_below_tells}
use Rattle.aes_planes.proofs.SBox.InverseSBox.{inv_sbox_of_sbox}
use Rattle.aes_planes.proofs.Standard.Steps.{length-shift_times}
use Rattle.aes_cipher.proofs.BlockNumbers.{blocks_summed}
use Rattle.aes_permute.specs.TwoIndices.{first_of, second_of}
use Rattle.aes_permute.specs.Lookup.{by_nibbles}
use Rattle.aes_permute.specs.MixedRows.{permuted, places_in}
use Rattle.aes_permute.specs.Stored.{as_is, inv_untower, decryption_untower}
use Rattle.aes_permute.specs.declared.tables.TheConstants.{INV_TOWER_LOW, INV_TOWER_HIGH}
use Rattle.aes_permute.specs.declared.tables.TheConstants.{INV_SBOX_FIRST, INV_SBOX_SECOND}
use Rattle.aes_permute.specs.declared.tables.TheConstants.{INV_5_FIRST, INV_5_SECOND, INV_4_FIRST}
use Rattle.aes_permute.specs.declared.tables.TheConstants.{INV_4_SECOND}
use Rattle.aes_permute.specs.declared.tables.TheConstants.{SHIFTED_ROWS}
use Rattle.aes_permute.proofs.DeferredRows.{before, deferred_before_round}
use Rattle.aes_permute.proofs.DeferredRows.{shifted_is}
use Rattle.aes_permute.proofs.Lookups.{map-ext_by_test, map-ext_bytes}
use Rattle.aes_permute.proofs.RoundLanes.{through, zip_sum_bytes}
use Rattle.aes_permute.proofs.MixedBack.{products_are, MakesProduct}
use Rattle.aes_permute.proofs.BackShifts.{inv_times_map, others_back, shifted_back_on}

-- ---- what is looked up

-- the inverse S-box of what a byte in the tower basis stands for, by two look-ups
abbrev pub plain_inverse_sbox : ℕ → ℕ
plain_inverse_sbox b = through INV_SBOX_FIRST INV_SBOX_SECOND b

-- the inverse S-box is a search, so the test is on what the S-box makes of the result
plain_inverse_sbox_cases : all_below 256 (λ b. nat_lt (plain_inverse_sbox b) 256
    && (sbox (plain_inverse_sbox b) == decryption_untower b)) ≡ true
unfolding all_below first_of second_of decryption_untower sbox
plain_inverse_sbox_cases = refl

-- what is looked up for `plain_inverse_sbox` is InvSubBytes
plain_inverse_sbox_is : (x : List ℕ) → IsBytes x
    → map plain_inverse_sbox x ≡ inv_sub_bytes (map decryption_untower x)
unfolding inv_sub_bytes
plain_inverse_sbox_is x h =
    map-ext_bytes plain_inverse_sbox (λ b. inv_sbox (decryption_untower b)) (λ b l.
    let t = and_parts (nat_lt (plain_inverse_sbox b) 256)
    (sbox (plain_inverse_sbox b) == decryption_untower b)
    (all_below_tells 256 (λ b. nat_lt (plain_inverse_sbox b) 256
    && (sbox (plain_inverse_sbox b) == decryption_untower b)) plain_inverse_sbox_cases b l) in
    sym (inv_sbox_of_sbox (plain_inverse_sbox b) (ltb-true _ _ t.0))
    ∙ ap inv_sbox (eqb-true _ _ t.1)) x h
    ∙ sym (map-map inv_sbox decryption_untower x)

-- what is looked up in two tables stands for the products of n and InvSubBytes, if it does so by
-- all bytes
pub inverses_multiplied : (n : ℕ) (t u x : List ℕ) {y : List ℕ}
    → MakesProduct n (through t u) plain_inverse_sbox → IsBytes x → y ≡ map (through t u) x
    → map inv_untower y ≡ map (field_mul n) (inv_sub_bytes (map decryption_untower x))
inverses_multiplied n t u x made h e =
    ap (map inv_untower) e ∙ products_are n (through t u) plain_inverse_sbox made x h
    ∙ ap (map (field_mul n)) (plain_inverse_sbox_is x h)

-- a round looks the products with 5 up
pub made_5 : MakesProduct 5 (through INV_5_FIRST INV_5_SECOND) plain_inverse_sbox
unfolding all_below first_of second_of field_mul
made_5 = refl

-- a round looks the products with 4 up
pub made_4 : MakesProduct 4 (through INV_4_FIRST INV_4_SECOND) plain_inverse_sbox
unfolding all_below first_of second_of field_mul
made_4 = refl

-- ---- the round

-- InvSubBytes of a state of which InvShiftRows is left out, shifted as after the round
inverses_shifted : (n : ℕ) (x : List ℕ) → 1 ≤ n → length x ≡ 16
    → shift_times ((4 - n % 4) % 4) (inv_sub_bytes x)
    ≡ inv_shift_rows (inv_sub_bytes (inv_shift_times ((n - 1) % 4) x))
unfolding inv_sub_bytes
inverses_shifted n x some long =
    let k : ℕ = n % 4 in
    let y : List ℕ = map inv_sbox x in
    let y_long : length y ≡ 16 = length-map x inv_sbox ∙ long in
    others_back k (omega arith) y y_long ∙ shifted_back_on k (omega arith) y y_long
    ∙ ap inv_shift_rows (sym (inv_times_map inv_sbox (before k) x long)
    ∙ ap (λ m. map inv_sbox (inv_shift_times m x)) (deferred_before_round n some))

-- a round is the standard's of what the bytes stand for in their places
pub inv_round_is : (n : ℕ) (x key y : List ℕ) → 1 ≤ n → length x ≡ 16 → length key ≡ 16
    → length y ≡ 16
    → shift_times ((4 - n % 4) % 4) (map decryption_untower y)
    ≡ add_round_key (inv_mix_columns (shift_times ((4 - n % 4) % 4)
    (inv_sub_bytes (map decryption_untower x))))
    (shift_times ((4 - n % 4) % 4) (map decryption_untower key))
    → inv_shift_times (n % 4) (map decryption_untower y)
    ≡ add_round_key (inv_mix_columns (inv_shift_rows (inv_sub_bytes
    (inv_shift_times ((n - 1) % 4) (map decryption_untower x)))))
    (inv_shift_times (n % 4) (map decryption_untower key))
inv_round_is n x key y some x_long key_long y_long mixed =
    let back : (v : List ℕ) → length v ≡ 16
    → shift_times ((4 - n % 4) % 4) (map decryption_untower v)
    ≡ inv_shift_times (n % 4) (map decryption_untower v) =
    λ v l. others_back (n % 4) (omega arith) (map decryption_untower v) (length-map v decryption_untower ∙ l) in
    sym (back y y_long) ∙ mixed ∙ (λ i. add_round_key (inv_mix_columns
    (inverses_shifted n (map decryption_untower x) some (length-map x decryption_untower ∙ x_long) i))
    (back key key_long i))

-- ---- the first round key, and the last round

-- the way into the basis and back adds 0x63, by all bytes
inv_tower_cases : all_below 256
    (λ b. decryption_untower (by_nibbles INV_TOWER_LOW INV_TOWER_HIGH b) == plus63 b) ≡ true
unfolding all_below decryption_untower
inv_tower_cases = refl

-- 0x63 that is added to a sum may be added to the round key
plus63_of_sum : (b k : List ℕ) → map plus63 (zip2 bit_xor b k) ≡ zip2 bit_xor b (map plus63 k)
plus63_of_sum [] k = refl
plus63_of_sum (x ∷ b) [] = refl
plus63_of_sum (x ∷ b) (y ∷ k) = λ i. xor_assoc x y 0x63 i ∷ plus63_of_sum b k i

-- a block plus a round key with 0x63 in it, brought into the tower basis, stands for AddRoundKey
pub inv_first_sum_is : (b k : List ℕ) → IsBlock b → IsBlock k
    → map decryption_untower (map (by_nibbles INV_TOWER_LOW INV_TOWER_HIGH) (zip2 bit_xor b k))
    ≡ add_round_key b (map plus63 k)
inv_first_sum_is b k h m =
    let f = by_nibbles INV_TOWER_LOW INV_TOWER_HIGH in
    map-map decryption_untower f (zip2 bit_xor b k)
    ∙ map-ext_by_test (λ b. decryption_untower (f b)) plus63 inv_tower_cases (zip2 bit_xor b k)
    (zip_sum_bytes b k h m)
    ∙ plus63_of_sum b k ∙ blocks_summed b (map plus63 k) h.0 (length-map k plus63 ∙ m.0)

-- the last round on lanes is InvSubBytes, InvShiftRows and AddRoundKey, and its bytes stand for
-- themselves
pub inv_last_round_is : (n : ℕ) (x key : List ℕ) {p : List ℕ} → 1 ≤ n → IsBlock x
    → length key ≡ 16 → p ≡ map plain_inverse_sbox x
    → zip2 bit_xor (permuted p (places_in SHIFTED_ROWS ((4 - n % 4) % 4))) key
    ≡ add_round_key (inv_shift_rows (inv_sub_bytes
    (inv_shift_times ((n - 1) % 4) (map decryption_untower x)))) (map as_is key)
unfolding inv_sub_bytes
inv_last_round_is n x key some block key_long is_p =
    let m : ℕ = (4 - n % 4) % 4 in
    let s : List ℕ = map decryption_untower x in
    let s_long : length s ≡ 16 = length-map x decryption_untower ∙ block.0 in
    let y : List ℕ = inv_sub_bytes s in
    let y_long : length y ≡ 16 = length-map s inv_sbox ∙ s_long in
    (λ i. zip2 bit_xor (permuted ((is_p ∙ plain_inverse_sbox_is x block.1) i)
    (places_in SHIFTED_ROWS m)) key)
    ∙ ap (λ v. zip2 bit_xor v key) (shifted_is m (omega arith) y y_long)
    ∙ blocks_summed (shift_times m y) key (length-shift_times m y y_long) key_long
    ∙ (λ i. add_round_key (inverses_shifted n s some s_long i) (sym (map-id key) i))
