-- What a single round under the zero key leaves, once its mixing is undone.
use Rattle.std.proofs.Common.{◌≡◌, ℕ, List, length, replicate, ap, ◌∙◌}
use Rattle.std.specs.Int.Bits.{xor_zero_r}
use Rattle.aes_planes.specs.Fips197 as fips
use Rattle.aes_planes.proofs.Lists.{build-get_or}
use Rattle.aes_planes.proofs.Mixing.MixColumns.{mix_block, inv_mix_block, inv_mix_of_mix}
use Rattle.aes_planes.proofs.Mixing.MixColumns.{mix_of_inv_mix}
use Rattle.aes_planes.proofs.Standard.Steps.{sub_bytes_bytes, inv_sub_bytes_bytes, shift_block}
use Rattle.aes_planes.proofs.Standard.Steps.{inv_shift_block}

-- adding a round key of zeros changes nothing
add_round_key_zero : (s : List ℕ) → length s ≡ 16 → fips.add_round_key s (replicate 16 0) ≡ s
unfolding fips.add_round_key fips.state fips.build
add_round_key_zero s l = (λ i. fips.state (λ r c. xor_zero_r (fips.byte_at s r c) i))
    ∙ build-get_or 16 s 0 l

-- a round under the zero key, then InvMixColumns, is SubBytes and ShiftRows
pub mixing_undone : (b : List ℕ)
    → fips.inv_mix_columns
    (fips.add_round_key (fips.mix_columns (fips.shift_rows (fips.sub_bytes b))) (replicate 16 0))
    ≡ fips.shift_rows (fips.sub_bytes b)
mixing_undone b =
    let s = fips.shift_rows (fips.sub_bytes b) in
    ap fips.inv_mix_columns (add_round_key_zero (fips.mix_columns s) (mix_block s).0)
    ∙ inv_mix_of_mix s (shift_block (fips.sub_bytes b) (sub_bytes_bytes b))

-- an inverse round under the zero key, then MixColumns, is InvSubBytes and InvShiftRows
pub inverse_mixing_undone : (b : List ℕ)
    → fips.mix_columns
    (fips.add_round_key (fips.inv_mix_columns (fips.inv_shift_rows (fips.inv_sub_bytes b)))
    (replicate 16 0))
    ≡ fips.inv_shift_rows (fips.inv_sub_bytes b)
inverse_mixing_undone b =
    let s = fips.inv_shift_rows (fips.inv_sub_bytes b) in
    ap fips.mix_columns (add_round_key_zero (fips.inv_mix_columns s) (inv_mix_block s).0)
    ∙ mix_of_inv_mix s (inv_shift_block (fips.inv_sub_bytes b) (inv_sub_bytes_bytes b))
