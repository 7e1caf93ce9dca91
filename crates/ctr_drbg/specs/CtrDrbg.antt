-- CTR_DRBG (SP 800-90A Rev. 1, 10.2.1) with AES-256 and without a derivation function.
-- Block_Encrypt is Cipher of FIPS 197. A byte is a number below 2 ^ 8, and a string a list of
-- bytes. Lengths count bytes: blocklen and ctr_len are 16, keylen is 32, and seedlen is 48 (10.2.1,
-- table 3). Step numbers are those of the section that is named.
use Rattle.std.specs.Prelude.{ℕ, zero, suc, ◌+◌, ◌-◌, ◌/◌, ◌%◌, ◌^◌, ◌==◌, if◌then◌else◌, List, []}
use Rattle.std.specs.Prelude.{◌++◌, length, replicate, take, drop, slice_index}
use Rattle.std.specs.Int.{w128, to_be_bytes, from_be_bytes}
use Rattle.aes_planes.specs.Fips197 as fips

-- ---- what the functions share

-- the working state (10.2.1.1)
pub record State : Type 0 where
  pub key : List ℕ
  pub v : List ℕ
  pub reseed_counter : ℕ

-- a string of at most seedlen bytes, followed by zeros up to seedlen
unfoldable pub seed_padded : List ℕ → List ℕ
seed_padded x = x ++ replicate (48 - length x) 0

-- x ⊕ y of two strings of one length
unfoldable pub exclusive_or : List ℕ → List ℕ → List ℕ
exclusive_or x y = fips.build (length x) (λ i. fips.field_add (slice_index x i) (slice_index y i))

-- (V + 1) mod 2^blocklen, of V read as a number with its highest byte first (10.2.1.2, step 2.1)
unfoldable pub v_plus_one : List ℕ → List ℕ
v_plus_one v = to_be_bytes w128 ((from_be_bytes w128 v + 1) % 2 ^ 128)

-- V after i turns of the loop that makes output blocks (10.2.1.2, step 2, and 10.2.1.5.1, step 4)
unfoldable pub v_after : List ℕ → ℕ → List ℕ
unfolding v_plus_one
v_after v zero = v
v_after v (suc i) = v_plus_one (v_after v i)

-- temp after i turns: in each, Block_Encrypt(Key, V) of the new V is put after it
unfoldable pub temp_after : List ℕ → List ℕ → ℕ → List ℕ
unfolding v_after
temp_after key v zero = []
temp_after key v (suc i) = temp_after key v i ++ fips.cipher key (v_after v (suc i))

-- how many blocks of output temp has as soon as it has n bytes or more: one for each turn
unfoldable pub blocks_for : ℕ → ℕ
blocks_for n = (n + 15) / 16

-- temp after as many turns as n bytes need, cut to its leftmost n bytes
unfoldable pub output : List ℕ → List ℕ → ℕ → List ℕ
unfolding temp_after blocks_for
output key v n = take n (temp_after key v (blocks_for n))

-- ---- CTR_DRBG_Update (10.2.1.2)

-- seedlen bytes of output ⊕ provided_data: the leftmost keylen bytes are the new Key, and the
-- rightmost blocklen bytes the new V (steps 3 to 7)
unfoldable pub update : List ℕ → State → State
unfolding exclusive_or output
update provided_data s =
    let temp = exclusive_or (output s.key s.v 48) provided_data in
    record { key = take 32 temp; v = drop 32 temp; reseed_counter = s.reseed_counter }

-- ---- CTR_DRBG_Instantiate (10.2.1.3.1)

-- the Key and the V of zeros, updated by the entropy input ⊕ the padded personalization string
-- (steps 1 to 7)
unfoldable pub instantiate : List ℕ → List ℕ → State
unfolding seed_padded exclusive_or update
instantiate entropy_input personalization_string =
    update (exclusive_or entropy_input (seed_padded personalization_string))
    (record { key = replicate 32 0; v = replicate 16 0; reseed_counter = 1 })

-- ---- CTR_DRBG_Reseed (10.2.1.4.1)

-- the working state updated by the entropy input ⊕ the padded additional input, and reseed_counter
-- set to 1 (steps 1 to 5)
unfoldable pub reseed : List ℕ → List ℕ → State → State
unfolding seed_padded exclusive_or update
reseed entropy_input additional_input s =
    record (update (exclusive_or entropy_input (seed_padded additional_input)) s) { reseed_counter = 1 }

-- ---- CTR_DRBG_Generate (10.2.1.5.1), if the number of bytes is allowed and no reseed is required

-- the working state updated by the padded additional input; as it was if that is Null, a string of
-- no bytes (step 2)
unfoldable pub prepared : List ℕ → State → State
unfolding seed_padded update
prepared additional_input s = if length additional_input == 0 then s
    else update (seed_padded additional_input) s

-- returned_bits: this many bytes of output (steps 3 to 5)
unfoldable pub returned_bits : ℕ → List ℕ → State → List ℕ
unfolding prepared output
returned_bits n additional_input s =
    output (prepared additional_input s).key (prepared additional_input s).v n

-- the new working state: V moved on, then the update by the padded additional input, which is zeros
-- if that is Null, and reseed_counter + 1 (steps 4, 6 and 7)
unfoldable pub generate : ℕ → List ℕ → State → State
unfolding prepared v_after blocks_for seed_padded update
generate n additional_input s =
    let before = prepared additional_input s in
    let moved : State = record before { v = v_after before.v (blocks_for n) } in
    record (update (seed_padded additional_input) moved) { reseed_counter = s.reseed_counter + 1 }
