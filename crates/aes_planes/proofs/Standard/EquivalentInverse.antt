-- EqInvCipher is InvCipher.
use Rattle.std.proofs.Common.{◌≡◌, ℕ, zero, suc, ◌-◌, ◌<◌, ◌≤◌, List, length, inl, inr, ap, sym}
use Rattle.std.proofs.Common.{refl, ◌∙◌, arith}
use Rattle.aes_planes.specs.Fips197.{round_key, last_round, sub_bytes, inv_sub_bytes, shift_rows}
use Rattle.aes_planes.specs.Fips197.{inv_shift_rows, mix_columns, inv_mix_columns, add_round_key}
use Rattle.aes_planes.specs.Fips197.{state_after, inv_state_after, inv_cipher_with, inverted_keys}
use Rattle.aes_planes.specs.Fips197.{eq_inv_state_after, eq_inv_cipher_with}
use Rattle.aes_planes.proofs.Standard.InvertedKeys.{inverted_length, inverted_end, inverted_middle}
use Rattle.aes_planes.proofs.Mixing.MixColumns.{inv_mix_block, inv_mix_columns_add}
use Rattle.aes_planes.proofs.Standard.Steps.{inv_sub_shift, length-add_round_key}

-- the state after a round of Cipher has sixteen bytes
pub length-state_after : (w : List (List ℕ)) (b : List ℕ) (n : ℕ) → length (state_after w b n) ≡ 16
unfolding state_after
length-state_after w b zero = length-add_round_key b (round_key w 0)
length-state_after w b (suc n) =
    length-add_round_key (mix_columns (shift_rows (sub_bytes (state_after w b n)))) (round_key w (suc n))

-- the state after a round of InvCipher has sixteen bytes
pub length-inv_state_after : (w : List (List ℕ)) (b : List ℕ) (n : ℕ)
    → length (inv_state_after w b n) ≡ 16
unfolding inv_state_after
length-inv_state_after w b zero = length-add_round_key b (round_key w (last_round w))
length-inv_state_after w b (suc n) = (inv_mix_block _).0

-- the last steps of a round of EqInvCipher are those of InvCipher
module _ (w : List (List ℕ)) (b : List ℕ) where
  -- with the round keys mixed back, EqInvCipher and InvCipher go through the same states
  equivalent : (n : ℕ) → n < last_round w → eq_inv_state_after (inverted_keys w) b n
      ≡ inv_state_after w b n
  unfolding eq_inv_state_after inv_state_after
  equivalent zero lt =
      let all : last_round w - 0 ≡ last_round w = omega arith in
      ap (add_round_key b) (sym (inverted_end w 0 (omega arith) (inl refl)) ∙ ap (round_key w) all)
  equivalent (suc n) lt =
      let q : List ℕ = inv_state_after w b n in
      let key = inverted_middle w (suc n) (omega arith) (omega arith) (omega arith) in
      (λ i. add_round_key
      (inv_mix_columns (inv_shift_rows (inv_sub_bytes (equivalent n (omega arith) i)))) (sym key i))
      ∙ ap (λ v. add_round_key (inv_mix_columns v)
      (inv_mix_columns (round_key w (last_round w - suc n))))
      (inv_sub_shift q (length-inv_state_after w b n))
      ∙ sym (inv_mix_columns_add (inv_sub_bytes (inv_shift_rows q))
      (round_key w (last_round w - suc n)))

  -- EqInvCipher under the inverted round keys is InvCipher under the round keys
  pub eq_inv_is_inv : 2 ≤ length w → eq_inv_cipher_with (inverted_keys w) b ≡ inv_cipher_with w b
  unfolding eq_inv_cipher_with inv_cipher_with
  eq_inv_is_inv two =
      let q = λ (n : ℕ). inv_shift_rows
      (inv_sub_bytes (eq_inv_state_after (inverted_keys w) b (n - 1))) in
      let n : last_round (inverted_keys w) ≡ last_round w = ap (λ v. v - 1) (inverted_length w) in
      let none : last_round w - last_round w ≡ 0 = omega arith in
      let key = sym (inverted_end w (last_round w) (omega arith) (inr refl))
      ∙ ap (round_key w) none in
      (λ i. add_round_key (q (n i)) (round_key (inverted_keys w) (n i)))
      ∙ (λ i. add_round_key
      (inv_shift_rows (inv_sub_bytes (equivalent (last_round w - 1) (omega arith) i))) (key i))
      ∙ ap (λ v. add_round_key v (round_key w 0))
      (inv_sub_shift (inv_state_after w b (last_round w - 1))
      (length-inv_state_after w b (last_round w - 1)))
