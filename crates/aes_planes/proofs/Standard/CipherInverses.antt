-- Cipher and InvCipher undo each other.
use Rattle.std.proofs.Common.{◌≡◌, ℕ, zero, suc, ◌+◌, ◌-◌, ◌<◌, ◌≤◌, List, [], ◌∷◌, length, map}
use Rattle.std.proofs.Common.{refl, ◌^◌, slice_index, slice_index_or, ap, subst, ◌∙◌, arith}
use Rattle.aes_planes.specs.Fips197.{IsBlock, AreRoundKeys, round_key, last_round, sub_bytes}
use Rattle.aes_planes.specs.Fips197.{inv_sub_bytes, shift_rows, inv_shift_rows, mix_columns}
use Rattle.aes_planes.specs.Fips197.{inv_mix_columns, add_round_key, state_after, cipher_with}
use Rattle.aes_planes.specs.Fips197.{inv_state_after, inv_cipher_with}
use Rattle.aes_planes.proofs.Standard.Steps.{Undoes, both_undone, inv_sub_of_sub, sub_of_inv_sub}
use Rattle.aes_planes.proofs.Standard.Steps.{inv_shift_undoes, shift_undoes, inv_mix_undoes}
use Rattle.aes_planes.proofs.Standard.Steps.{mix_undoes, add_undoes, length-add_round_key}

-- ---- a run of steps, and a run of steps that undo them in the other order

-- the state after step n
abbrev run : (List ℕ → List ℕ) → (ℕ → List ℕ → List ℕ) → List ℕ → ℕ → List ℕ
run first step b zero = first b
run first step b (suc n) = step (suc n) (run first step b n)

-- nr + 1 steps and those that undo them: step i is undone by inverse step nr - i
record Mirrored (nr : ℕ) (first last inv_first inv_last : List ℕ → List ℕ)
    (step inv_step : ℕ → List ℕ → List ℕ)
    : Type 0 where
  start : Undoes inv_last first
  middle : (i j : ℕ) → i + j ≡ nr → Undoes (inv_step j) (step i)
  end : Undoes inv_first last

module _ (nr : ℕ) (first last inv_first inv_last : List ℕ → List ℕ)
    (step inv_step : ℕ → List ℕ → List ℕ)
    (m : Mirrored nr first last inv_first inv_last step inv_step) (b : List ℕ)
    (block : IsBlock b) where
  -- each state of a run is a block
  run_block : (n : ℕ) → n < nr → IsBlock (run first step b n)
  run_block zero lt = m.start.block b block
  run_block (suc n) lt =
      (m.middle (suc n) (nr - suc n) (omega arith)).block (run first step b n)
      (run_block n (omega arith))

  -- n steps back from the end of a run stands the state k steps on from its start
  met : (n k : ℕ) → n + k + 1 ≡ nr → run inv_first inv_step (last (run first step b (nr - 1))) n
      ≡ run first step b k
  met zero k e =
      let i : nr - 1 ≡ k = omega (arith, e) in
      m.end.undone (run first step b (nr - 1)) (run_block (nr - 1) (omega (arith, e)))
      ∙ ap (run first step b) i
  met (suc n) k e =
      ap (inv_step (suc n)) (met n (suc k) (omega (arith, e)))
      ∙ (m.middle (suc k) (suc n) (omega (arith, e))).undone (run first step b k)
      (run_block k (omega (arith, e)))

  -- all steps back from the end of a run lead to the block at its start
  run_undone : 1 ≤ nr
      → inv_last (run inv_first inv_step (last (run first step b (nr - 1))) (nr - 1)) ≡ b
  run_undone some = ap inv_last (met (nr - 1) 0 (omega arith)) ∙ m.start.undone b block

-- ---- the ciphers as runs

module _ (w : List (List ℕ)) where
  -- AddRoundKey with round key i
  abbrev add_key : ℕ → List ℕ → List ℕ
  add_key i s = add_round_key s (round_key w i)

  -- AddRoundKey, SubBytes and ShiftRows
  abbrev forth : ℕ → List ℕ → List ℕ
  forth i s = shift_rows (sub_bytes (add_key i s))

  -- InvShiftRows, InvSubBytes and AddRoundKey, which undo `forth`
  abbrev back : ℕ → List ℕ → List ℕ
  back i s = add_key i (inv_sub_bytes (inv_shift_rows s))

  -- MixColumns, AddRoundKey, SubBytes and ShiftRows
  abbrev mixed_forth : ℕ → List ℕ → List ℕ
  mixed_forth i s = forth i (mix_columns s)

  -- InvShiftRows, InvSubBytes, AddRoundKey and InvMixColumns: a round of InvCipher
  abbrev mixed_back : ℕ → List ℕ → List ℕ
  mixed_back j s = inv_mix_columns (back (last_round w - j) s)

  -- Cipher's states after SubBytes and ShiftRows are those of a run
  forth_run : (b : List ℕ) (n : ℕ) → shift_rows (sub_bytes (state_after w b n))
      ≡ run (forth 0) mixed_forth b n
  unfolding state_after
  forth_run b zero = refl
  forth_run b (suc n) = ap (mixed_forth (suc n)) (forth_run b n)

  -- InvCipher's states are those of a run
  back_run : (b : List ℕ) (n : ℕ) → inv_state_after w b n
      ≡ run (add_key (last_round w)) mixed_back b n
  unfolding inv_state_after
  back_run b zero = refl
  back_run b (suc n) = ap (mixed_back (suc n)) (back_run b n)

  -- Cipher is a run and a last step
  cipher_run : (b : List ℕ) → cipher_with w b
      ≡ add_key (last_round w) (run (forth 0) mixed_forth b (last_round w - 1))
  unfolding cipher_with
  cipher_run b = ap (add_key (last_round w)) (forth_run b (last_round w - 1))

  -- InvCipher is a run and a last step
  inv_cipher_run : (b : List ℕ)
      → inv_cipher_with w b ≡ back 0 (run (add_key (last_round w)) mixed_back b (last_round w - 1))
  unfolding inv_cipher_with
  inv_cipher_run b = ap (back 0) (back_run b (last_round w - 1))

  module _ (keys : AreRoundKeys w) where
    key_undoes : (i : ℕ) → i ≤ last_round w → Undoes (add_key i) (add_key i)
    key_undoes i le = add_undoes (round_key w i) (keys.blocks i (omega (arith, keys.two))).1

    back_undoes : (i : ℕ) → i ≤ last_round w → Undoes (back i) (forth i)
    back_undoes i le = both_undone (key_undoes i le) (both_undone inv_sub_of_sub inv_shift_undoes)

    forth_undoes : (i : ℕ) → i ≤ last_round w → Undoes (forth i) (back i)
    forth_undoes i le = both_undone (both_undone shift_undoes sub_of_inv_sub) (key_undoes i le)

    encryption : Mirrored (last_round w) (forth 0) (add_key (last_round w))
        (add_key (last_round w)) (back 0)
        mixed_forth mixed_back
    encryption = record {
      start = back_undoes 0 (omega arith);
      middle = λ i j e. let k : i ≡ last_round w - j = omega arith in
          subst (λ (v : ℕ). Undoes (λ s. inv_mix_columns (back v s)) (mixed_forth i)) k
          (both_undone inv_mix_undoes (back_undoes i (omega arith)));
      end = key_undoes (last_round w) (omega arith);
    }

    decryption : Mirrored (last_round w) (add_key (last_round w)) (back 0) (forth 0)
        (add_key (last_round w)) mixed_back
        mixed_forth
    decryption = record {
      start = key_undoes (last_round w) (omega arith);
      middle = λ i j e. let k : j ≡ last_round w - i = omega arith in
          subst (λ (v : ℕ). Undoes (mixed_forth j) (λ s. inv_mix_columns (back v s))) k
          (both_undone (forth_undoes j (omega arith)) mix_undoes);
      end = forth_undoes 0 (omega arith);
    }

    -- InvCipher undoes Cipher under the same round keys
    pub inv_cipher_of_cipher : (b : List ℕ) → IsBlock b → inv_cipher_with w (cipher_with w b) ≡ b
    inv_cipher_of_cipher b h =
        inv_cipher_run (cipher_with w b)
        ∙ ap (λ v. back 0 (run (add_key (last_round w)) mixed_back v (last_round w - 1)))
        (cipher_run b)
        ∙ run_undone _ _ _ _ _ _ _ encryption b h (omega (arith, keys.two))

    -- Cipher undoes InvCipher under the same round keys
    pub cipher_of_inv_cipher : (b : List ℕ) → IsBlock b → cipher_with w (inv_cipher_with w b) ≡ b
    cipher_of_inv_cipher b h =
        cipher_run (inv_cipher_with w b)
        ∙ ap (λ v. add_key (last_round w) (run (forth 0) mixed_forth v (last_round w - 1)))
        (inv_cipher_run b)
        ∙ run_undone _ _ _ _ _ _ _ decryption b h (omega (arith, keys.two))

    -- Cipher of a block has bytes in each place
    pub cipher_bytes : (b : List ℕ) (i : ℕ) → IsBlock b → slice_index (cipher_with w b) i < 2 ^ 8
    cipher_bytes b i h =
        rw (cipher_run b) ((encryption.end.block (run (forth 0) mixed_forth b (last_round w - 1))
        (run_block _ _ _ _ _ _ _ encryption b h (last_round w - 1) (omega (arith, keys.two)))).1 i)

  -- Cipher leaves sixteen bytes
  pub length-cipher : (b : List ℕ) → length (cipher_with w b) ≡ 16
  unfolding cipher_with
  length-cipher b = length-add_round_key _ _

-- where one function undoes another on blocks, it does so on lists of them
undone_each : (f g : List ℕ → List ℕ) → ((b : List ℕ) → IsBlock b → g (f b) ≡ b)
    → (bs : List (List ℕ)) → ((i : ℕ) → i < length bs → IsBlock (slice_index_or bs i []))
    → map g (map f bs) ≡ bs
undone_each f g undone [] blocks = refl
undone_each f g undone (b ∷ bs) blocks =
    λ j. undone b (blocks 0 (omega arith)) j
    ∷ undone_each f g undone bs (λ i lt. blocks (suc i) (omega arith)) j

module _ (w : List (List ℕ)) (bs : List (List ℕ)) (keys : AreRoundKeys w)
    (blocks : (i : ℕ) → i < length bs → IsBlock (slice_index_or bs i [])) where
  -- InvCipher of each block undoes Cipher of each block
  pub inv_ciphers_of_ciphers : map (inv_cipher_with w) (map (cipher_with w) bs) ≡ bs
  inv_ciphers_of_ciphers =
      undone_each (cipher_with w) (inv_cipher_with w) (inv_cipher_of_cipher w keys) bs blocks

  -- Cipher of each block undoes InvCipher of each block
  pub ciphers_of_inv_ciphers : map (cipher_with w) (map (inv_cipher_with w) bs) ≡ bs
  ciphers_of_inv_ciphers =
      undone_each (inv_cipher_with w) (cipher_with w) (cipher_of_inv_cipher w keys) bs blocks

pub ruleset inverse_ciphers_on_blocks = (inv_ciphers_of_ciphers, ciphers_of_inv_ciphers)

pub ruleset inverse_ciphers_with = (inv_cipher_of_cipher, cipher_of_inv_cipher)
