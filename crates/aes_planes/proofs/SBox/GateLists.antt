-- The circuits of the S-box as lists of gates, and what they compute, by all 256 cases.
use Rattle.std.proofs.Common.{ℕ, List, [], ◌∷◌, refl, sym, ap, arith}
use Rattle.aes_planes.specs.Fips197.{sbox, inv_sbox}
use Rattle.aes_planes.specs.Planes.{plus63}
use Rattle.aes_planes.specs.SBoxTables.{sbox_table, inv_sbox_table}
use Rattle.aes_planes.specs.Bits.{bit}
use Rattle.aes_planes.proofs.Bits.ByteCases.{all_below}
use Rattle.aes_planes.proofs.SBox.Circuits.{Gate, Xor, And, Not, Computes, computed, agrees}
use Rattle.aes_planes.proofs.SBox.Circuits.{computes_by_test}
use Rattle.aes_planes.proofs.SBox.InverseSBox.{listed, inv_listed, sbox_listed, inv_sbox_listed}
use Rattle.aes_planes.proofs.Standard.FieldLaws.{field_add_byte}

-- the gates of sub_bytes; a gate names its inputs by how many bits they stand before it
unfoldable pub sbox_gates : List Gate
sbox_gates =
    Xor 5 6 ∷ Xor 8 5 ∷ Xor 2 1 ∷ Xor 7 0 ∷ And 0 4 ∷ Xor 6 12 ∷ Xor 8 10 ∷ Xor 1 0 ∷
    Xor 0 11 ∷ Xor 11 0 ∷ Xor 1 16 ∷ Xor 18 8 ∷ Xor 9 13 ∷ Xor 20 15 ∷ Xor 12 3 ∷ And 13 0 ∷
    Xor 6 16 ∷ Xor 3 4 ∷ And 8 10 ∷ Xor 9 18 ∷ Xor 19 5 ∷ Xor 28 0 ∷ Xor 16 1 ∷ Xor 8 3 ∷
    And 0 17 ∷ Xor 10 25 ∷ And 23 13 ∷ And 15 1 ∷ And 8 14 ∷ Xor 15 9 ∷ Xor 5 14 ∷ And 25 10 ∷
    Xor 4 0 ∷ Xor 1 6 ∷ Xor 29 15 ∷ Xor 6 19 ∷ And 19 18 ∷ Xor 1 2 ∷ Xor 0 8 ∷ Xor 20 2 ∷
    Xor 9 6 ∷ Xor 30 1 ∷ Xor 0 11 ∷ Xor 20 2 ∷ Xor 11 8 ∷ Xor 23 0 ∷ And 3 2 ∷ Xor 0 8 ∷
    Xor 1 2 ∷ Xor 6 10 ∷ Xor 6 4 ∷ And 3 0 ∷ Xor 6 0 ∷ Xor 4 0 ∷ And 50 1 ∷ And 6 5 ∷
    Xor 0 17 ∷ And 11 3 ∷ Xor 9 0 ∷ And 0 2 ∷ Xor 0 10 ∷ Xor 17 8 ∷ Xor 4 0 ∷ Xor 2 0 ∷
    Xor 7 11 ∷ Xor 4 8 ∷ And 45 0 ∷ And 67 14 ∷ And 3 53 ∷ And 5 49 ∷ Xor 6 5 ∷ And 6 69 ∷
    And 1 65 ∷ And 12 70 ∷ And 62 17 ∷ And 69 9 ∷ Xor 13 23 ∷ And 14 60 ∷ Xor 4 11 ∷ And 18 66 ∷
    And 3 70 ∷ Xor 0 3 ∷ And 19 64 ∷ And 59 12 ∷ Xor 11 12 ∷ Xor 0 5 ∷ Xor 7 2 ∷ Xor 2 4 ∷
    And 31 62 ∷ And 81 12 ∷ Xor 9 22 ∷ Xor 3 1 ∷ Xor 16 1 ∷ Xor 4 26 ∷ Xor 0 3 ∷ Xor 9 0 ∷
    Xor 17 14 ∷ Xor 4 27 ∷ Xor 11 0 ∷ Xor 24 0 ∷ Xor 3 8 ∷ Xor 5 2 ∷ Xor 33 15 ∷ Xor 2 0 ∷
    Xor 28 8 ∷ Xor 50 17 ∷ Xor 5 11 ∷ And 93 43 ∷ Xor 8 2 ∷ Xor 6 37 ∷ Xor 0 10 ∷ Xor 19 8 ∷
    Xor 1 4 ∷ []

-- where the eight results of sub_bytes stand, that of plane 0 first
abbrev pub sbox_places : List ℕ
sbox_places = 8 ∷ 11 ∷ 4 ∷ 6 ∷ 12 ∷ 0 ∷ 9 ∷ 1 ∷ []

-- the gates of sub_bytes leave at those places the S-box of a byte without its constant 0x63
pub sbox_computed : Computes sbox_gates sbox_places (λ b. plus63 (sbox b))
unfolding all_below agrees bit computed sbox_gates sbox_table
sbox_computed = computes_by_test sbox_gates sbox_places _ (λ b. plus63 (listed b)) refl
    (λ v h. ap plus63 (sym (sbox_listed v h)))

-- the gates of inv_sub_bytes
unfoldable pub inv_sbox_gates : List Gate
inv_sbox_gates =
    Xor 1 0 ∷ Xor 8 7 ∷ Xor 0 1 ∷ Xor 8 5 ∷ Xor 8 10 ∷ Xor 10 8 ∷ Xor 7 12 ∷ Xor 0 1 ∷
    Xor 15 4 ∷ Xor 13 16 ∷ Xor 16 0 ∷ Xor 14 0 ∷ Xor 16 15 ∷ Xor 0 12 ∷ Xor 9 10 ∷ And 12 0 ∷
    And 5 6 ∷ And 3 9 ∷ Xor 4 10 ∷ Xor 21 20 ∷ Xor 0 7 ∷ Xor 2 3 ∷ And 10 1 ∷ Xor 10 23 ∷
    And 19 0 ∷ Xor 20 24 ∷ Xor 29 26 ∷ Xor 0 20 ∷ And 2 19 ∷ Xor 0 13 ∷ Xor 28 3 ∷ Xor 1 4 ∷
    Xor 37 6 ∷ And 31 2 ∷ Xor 3 14 ∷ Xor 19 0 ∷ Xor 15 5 ∷ And 0 24 ∷ Xor 0 15 ∷ Xor 3 22 ∷
    And 7 12 ∷ Xor 0 23 ∷ Xor 8 4 ∷ Xor 18 21 ∷ Xor 5 0 ∷ Xor 3 2 ∷ Xor 14 3 ∷ Xor 7 8 ∷
    And 0 3 ∷ Xor 54 36 ∷ Xor 3 1 ∷ Xor 3 4 ∷ Xor 6 2 ∷ And 5 0 ∷ Xor 9 1 ∷ Xor 0 6 ∷
    And 4 2 ∷ Xor 5 8 ∷ Xor 5 9 ∷ And 0 7 ∷ Xor 13 0 ∷ And 0 33 ∷ Xor 4 5 ∷ Xor 2 0 ∷
    And 0 50 ∷ And 10 14 ∷ Xor 0 13 ∷ Xor 6 0 ∷ And 0 31 ∷ And 6 64 ∷ And 2 57 ∷ Xor 2 0 ∷
    Xor 7 2 ∷ And 6 64 ∷ And 7 48 ∷ And 67 11 ∷ And 43 15 ∷ And 30 32 ∷ And 15 54 ∷ Xor 3 17 ∷
    Xor 4 3 ∷ And 3 26 ∷ Xor 10 9 ∷ Xor 1 27 ∷ Xor 21 0 ∷ And 1 75 ∷ And 1 55 ∷ Xor 20 3 ∷
    And 4 77 ∷ And 1 74 ∷ Xor 0 13 ∷ And 3 88 ∷ Xor 24 7 ∷ And 72 0 ∷ Xor 7 24 ∷ Xor 16 1 ∷
    Xor 13 0 ∷ Xor 23 7 ∷ Xor 23 27 ∷ Xor 10 20 ∷ Xor 9 17 ∷ And 89 8 ∷ Xor 15 0 ∷ Xor 27 1 ∷
    Xor 1 21 ∷ Xor 2 5 ∷ Xor 0 5 ∷ Xor 9 2 ∷ Xor 3 27 ∷ Xor 37 9 ∷ Xor 36 24 ∷ Xor 31 0 ∷
    Xor 47 9 ∷ Xor 2 38 ∷ Xor 34 0 ∷ Xor 5 0 ∷ Xor 21 4 ∷ Xor 4 1 ∷ Xor 14 21 ∷ And 34 117 ∷
    Xor 28 0 ∷ Xor 1 30 ∷ Xor 8 0 ∷ Xor 26 0 ∷ Xor 3 25 ∷ Xor 4 15 ∷ Xor 0 9 ∷ []

-- where the eight results of inv_sub_bytes stand, that of plane 0 first
abbrev pub inv_sbox_places : List ℕ
inv_sbox_places = 2 ∷ 8 ∷ 20 ∷ 3 ∷ 19 ∷ 9 ∷ 0 ∷ 18 ∷ []

-- the gates of inv_sub_bytes leave at those places the inverse S-box of a byte to which 0x63 is
-- added
pub inv_sbox_computed : Computes inv_sbox_gates inv_sbox_places (λ b. inv_sbox (plus63 b))
unfolding all_below agrees bit computed inv_sbox_gates inv_sbox_table
inv_sbox_computed =
    computes_by_test inv_sbox_gates inv_sbox_places _ (λ b. inv_listed (plus63 b)) refl
    (λ v h. sym (inv_sbox_listed (plus63 v) (field_add_byte v 0x63 h (omega arith))))

-- the gates of sub_bytes_nots
abbrev pub nots_gates : List Gate
nots_gates = Not 0 ∷ Not 2 ∷ Not 7 ∷ Not 9 ∷ []

-- where the eight results of sub_bytes_nots stand, that of plane 0 first
abbrev pub nots_places : List ℕ
nots_places = 3 ∷ 2 ∷ 6 ∷ 7 ∷ 8 ∷ 1 ∷ 0 ∷ 11 ∷ []

-- the gates of sub_bytes_nots leave at those places the sum of a byte and 0x63
pub nots_computed : Computes nots_gates nots_places plus63
unfolding all_below agrees bit computed
nots_computed = computes_by_test nots_gates nots_places plus63 plus63 refl (λ v h. refl)
