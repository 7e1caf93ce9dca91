-- The S-box and its inverse: their tables, and that they undo each other.
use Rattle.std.proofs.Common.{◌≡◌, ℕ, ◌<◌, ◌==◌, Bool, ◌&&◌, nat_lt, get_or, refl, sym, ap, ◌∙◌}
use Rattle.std.proofs.Common.{arith}
use Rattle.std.proofs.lemmas.Bool.{eqb-true, eq-eqb, and_parts, ltb-true}
use Rattle.aes_planes.specs.Fips197.{affine, sbox, inv_sbox}
use Rattle.aes_planes.specs.SBoxTables.{sbox_table, inv_sbox_table}
use Rattle.aes_planes.proofs.Bits.ByteCases.{all_below, all_below_tells}
use Rattle.aes_planes.proofs.Standard.FieldInverses.{Passes, byte_passes, least_byte_lt}
use Rattle.aes_planes.proofs.Standard.FieldInverses.{untransformed, inverse_listed}

-- the S-box by its table
abbrev pub listed : ℕ → ℕ
listed b = get_or sbox_table b 0

-- the inverse S-box by its table
abbrev pub inv_listed : ℕ → ℕ
inv_listed b = get_or inv_sbox_table b 0

-- the table has the S-box of b, the tables undo each other at b, and the inverse table has a byte
-- there
tables : ℕ → Bool
tables b =
    (affine (untransformed b) == listed b)
    && ((inv_listed (listed b) == b) && ((listed (inv_listed b) == b)
    && nat_lt (inv_listed b) 256))

-- what `tables` tests at the byte b, and that the S-box has the table's entry there
record Listed (b : ℕ) : Type 0 where
  own : sbox b ≡ listed b
  back : inv_listed (listed b) ≡ b
  forth : listed (inv_listed b) ≡ b
  inv_byte : inv_listed b < 256

-- what the tables have at each byte, by all cases
in_tables : (b : ℕ) → b < 256 → Listed b
unfolding all_below tables sbox affine untransformed sbox_table inv_sbox_table
in_tables b h =
    let p = and_parts _ _ (all_below_tells 256 tables refl b h) in
    let q = and_parts _ _ p.1 in
    let r = and_parts _ _ q.1 in
    record {
      own = ap affine (inverse_listed b h) ∙ eqb-true _ _ p.0;
      back = eqb-true _ _ q.0;
      forth = eqb-true _ _ r.0;
      inv_byte = ltb-true _ _ r.1;
    }

-- the S-box is its table
pub sbox_listed : (b : ℕ) → b < 256 → sbox b ≡ listed b
sbox_listed b h = (in_tables b h).own

-- the S-box of every number is a byte, as the sum of eight bits is
pub sbox_byte : (b : ℕ) → sbox b < 256
unfolding sbox affine
sbox_byte b = omega arith

-- the inverse table undoes the S-box
sbox_undone : (b : ℕ) → b < 256 → inv_listed (sbox b) ≡ b
sbox_undone b h = ap inv_listed (sbox_listed b h) ∙ (in_tables b h).back

-- ---- the inverse S-box is a search

-- the search of the inverse S-box finds a byte whose S-box is y
inverted : (y : ℕ) → y < 256 → Passes (λ b. sbox b == y) (inv_sbox y) 256
unfolding inv_sbox
inverted y h =
    let t = in_tables y h in
    byte_passes (λ b. sbox b == y) (inv_listed y) t.inv_byte
    (eq-eqb _ _ (sbox_listed (inv_listed y) t.inv_byte ∙ t.forth))

-- the S-box undoes the inverse S-box
pub sbox_of_inv_sbox : (y : ℕ) → y < 256 → sbox (inv_sbox y) ≡ y
sbox_of_inv_sbox y h = eqb-true _ _ (inverted y h).0

-- the inverse S-box of every number is a byte, since it is searched among the bytes
pub inv_sbox_byte : (y : ℕ) → inv_sbox y < 256
unfolding inv_sbox
inv_sbox_byte y = least_byte_lt (λ b. sbox b == y)

-- the inverse S-box is its table
pub inv_sbox_listed : (y : ℕ) → y < 256 → inv_sbox y ≡ inv_listed y
inv_sbox_listed y h = sym (sbox_undone (inv_sbox y) (inv_sbox_byte y))
    ∙ ap inv_listed (sbox_of_inv_sbox y h)

-- the inverse S-box undoes the S-box
pub inv_sbox_of_sbox : (b : ℕ) → b < 256 → inv_sbox (sbox b) ≡ b
inv_sbox_of_sbox b h = inv_sbox_listed (sbox b) (sbox_byte b) ∙ sbox_undone b h

pub ruleset inverse_boxes = (inv_sbox_of_sbox, sbox_of_inv_sbox)
