-- MixColumns and its inverse: they make blocks, undo each other, and InvMixColumns three times is
-- MixColumns.
use Rattle.std.proofs.Common.{◌≡◌, List, ℕ, ◌<◌, slice_index, refl, ap, ◌∙◌, rules}
use Rattle.aes_planes.specs.Fips197.{field_mul, byte_at, row_by_column, mix_row, inv_mix_row}
use Rattle.aes_planes.specs.Fips197.{mix_columns, inv_mix_columns, IsBytes, IsBlock}
use Rattle.aes_planes.proofs.Bits.ByteCases.{all_below}
use Rattle.aes_planes.proofs.Standard.FieldLaws.{field_add_byte, field_mul_byte}
use Rattle.aes_planes.proofs.Standard.States.{state_block, rows_by_test}
use Rattle.aes_planes.proofs.Standard.LinearSteps.{only, agree_on_powers, times, times_undone}
use Rattle.aes_planes.proofs.Standard.LinearSteps.{times_twice}
pub use Rattle.aes_planes.proofs.Standard.LinearSteps.{mix_columns_add, inv_mix_columns_add}

-- a row of bytes times a column is a byte
row_byte : (m s : List ℕ) (c : ℕ) → IsBytes m → row_by_column m s c < 256
unfolding row_by_column
row_byte m s c h =
    let e : (j : ℕ) → field_mul (slice_index m j) (byte_at s j c) < 256 =
    λ j. field_mul_byte _ _ (h j) in
    field_add_byte _ _ (field_add_byte _ _ (field_add_byte _ _ (e 0) (e 1)) (e 2)) (e 3)

-- MixColumns leaves a block
pub mix_block : (s : List ℕ) → IsBlock (mix_columns s)
unfolding mix_columns
mix_block s =
    state_block (λ r c. row_by_column (mix_row r) s c)
    (λ r c. row_byte (mix_row r) s c (search (rules, rows_by_test)))

-- InvMixColumns leaves a block
pub inv_mix_block : (s : List ℕ) → IsBlock (inv_mix_columns s)
unfolding inv_mix_columns
inv_mix_block s =
    state_block (λ r c. row_by_column (inv_mix_row r) s c)
    (λ r c. row_byte (inv_mix_row r) s c (search (rules, rows_by_test)))

-- InvMixColumns undoes MixColumns on blocks
pub inv_mix_of_mix : (s : List ℕ) → IsBlock s → inv_mix_columns (mix_columns s) ≡ s
unfolding mix_columns inv_mix_columns times agree_on_powers all_below only field_mul
inv_mix_of_mix s h = times_undone inv_mix_row mix_row refl s h.0 h.1

-- MixColumns undoes InvMixColumns on blocks
pub mix_of_inv_mix : (s : List ℕ) → IsBlock s → mix_columns (inv_mix_columns s) ≡ s
unfolding mix_columns inv_mix_columns times agree_on_powers all_below only field_mul
mix_of_inv_mix s h = times_undone mix_row inv_mix_row refl s h.0 h.1

-- InvMixColumns twice is MixColumns twice
inv_mix_twice : (s : List ℕ) → IsBytes s
    → inv_mix_columns (inv_mix_columns s) ≡ mix_columns (mix_columns s)
unfolding mix_columns inv_mix_columns times agree_on_powers all_below only field_mul
inv_mix_twice s h = times_twice inv_mix_row mix_row refl s h

-- InvMixColumns three times is MixColumns
pub inv_mix_thrice : (s : List ℕ) → IsBlock s
    → inv_mix_columns (inv_mix_columns (inv_mix_columns s)) ≡ mix_columns s
inv_mix_thrice s h = ap inv_mix_columns (inv_mix_twice s h.1)
    ∙ inv_mix_of_mix (mix_columns s) (mix_block s)

pub ruleset inverse_mixes = (inv_mix_of_mix, mix_of_inv_mix, inv_mix_thrice)
