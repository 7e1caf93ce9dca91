-- The steps on blocks: blocks stay blocks, and which steps undo which.
use Rattle.std.proofs.Common.{◌≡◌, ℕ, zero, suc, ◌+◌, ◌-◌, ◌*◌, ◌%◌, ◌<◌, List, [], ◌∷◌, length}
use Rattle.std.proofs.Common.{map, refl, ap, ◌∙◌, arith}
use Rattle.std.proofs.lemmas.List.{length-map}
use Rattle.aes_planes.specs.Fips197.{field_add, sbox, inv_sbox, byte_at, build, state, sub_bytes}
use Rattle.aes_planes.specs.Fips197.{inv_sub_bytes, shift_rows, inv_shift_rows, shift_times}
use Rattle.aes_planes.specs.Fips197.{mix_columns, inv_mix_columns, add_round_key, IsBytes, IsBlock}
use Rattle.aes_planes.proofs.SBox.InverseSBox.{sbox_byte, inv_sbox_byte, sbox_of_inv_sbox}
use Rattle.aes_planes.proofs.SBox.InverseSBox.{inv_sbox_of_sbox}
use Rattle.aes_planes.proofs.Lists.{build-get_or}
use Rattle.aes_planes.proofs.Mixing.MixColumns.{mix_block, inv_mix_block, inv_mix_of_mix}
use Rattle.aes_planes.proofs.Mixing.MixColumns.{mix_of_inv_mix}
use Rattle.aes_planes.proofs.Standard.FieldLaws.{add_twice, field_add_byte}
pub use Rattle.aes_planes.proofs.Standard.LinearSteps.{inv_sub_shift}
pub use Rattle.aes_planes.proofs.Standard.States.{length-state, state_bytes, state_block}

-- ---- lengths

-- ShiftRows leaves sixteen bytes
pub length-shift_rows : (s : List ℕ) → length (shift_rows s) ≡ 16
unfolding shift_rows
length-shift_rows s = refl

-- InvShiftRows leaves sixteen bytes
pub length-inv_shift_rows : (s : List ℕ) → length (inv_shift_rows s) ≡ 16
unfolding inv_shift_rows
length-inv_shift_rows s = refl

-- AddRoundKey leaves sixteen bytes
pub length-add_round_key : (s k : List ℕ) → length (add_round_key s k) ≡ 16
unfolding add_round_key
length-add_round_key s k = refl

-- any number of ShiftRows of a block leaves sixteen bytes
pub length-shift_times : (n : ℕ) (s : List ℕ) → length s ≡ 16 → length (shift_times n s) ≡ 16
unfolding shift_times
length-shift_times zero s l = l
length-shift_times (suc n) s l = length-shift_rows (shift_times n s)

-- ---- bytes and blocks

-- a function from bytes to bytes leaves bytes of bytes
pub map_bytes : (f : ℕ → ℕ) → ((x : ℕ) → x < 256 → f x < 256) → (s : List ℕ) → IsBytes s
    → IsBytes (map f s)
map_bytes f u [] h i = omega arith
map_bytes f u (x ∷ s) h zero = u x (h 0)
map_bytes f u (x ∷ s) h (suc i) = map_bytes f u s (λ j. h (suc j)) i

-- a function whose values are bytes makes a list of bytes of every list
pub mapped_bytes : (f : ℕ → ℕ) → ((x : ℕ) → f x < 256) → (s : List ℕ) → IsBytes (map f s)
mapped_bytes f u [] i = omega arith
mapped_bytes f u (x ∷ s) zero = u x
mapped_bytes f u (x ∷ s) (suc i) = mapped_bytes f u s i

-- SubBytes of every list is a list of bytes
pub sub_bytes_bytes : (s : List ℕ) → IsBytes (sub_bytes s)
unfolding sub_bytes
sub_bytes_bytes s = mapped_bytes sbox sbox_byte s

-- InvSubBytes of every list is a list of bytes
pub inv_sub_bytes_bytes : (s : List ℕ) → IsBytes (inv_sub_bytes s)
unfolding inv_sub_bytes
inv_sub_bytes_bytes s = mapped_bytes inv_sbox inv_sbox_byte s

-- ShiftRows leaves a block
pub shift_block : (s : List ℕ) → IsBytes s → IsBlock (shift_rows s)
unfolding shift_rows
shift_block s h = state_block (λ r c. byte_at s r ((c + r) % 4)) (λ r c. h (r + 4 * ((c + r) % 4)))

-- ShiftRows leaves bytes of bytes
shift_bytes : (s : List ℕ) → IsBytes s → IsBytes (shift_rows s)
shift_bytes s h = (shift_block s h).1

-- any number of ShiftRows leaves bytes of bytes
pub shift_times_bytes : (n : ℕ) (s : List ℕ) → IsBytes s → IsBytes (shift_times n s)
unfolding shift_times
shift_times_bytes zero s h = h
shift_times_bytes (suc n) s h = shift_bytes (shift_times n s) (shift_times_bytes n s h)

-- InvShiftRows leaves a block
pub inv_shift_block : (s : List ℕ) → IsBytes s → IsBlock (inv_shift_rows s)
unfolding inv_shift_rows
inv_shift_block s h =
    state_block (λ r c. byte_at s r ((c + 4 - r) % 4)) (λ r c. h (r + 4 * ((c + 4 - r) % 4)))

-- AddRoundKey of bytes and a key of bytes leaves a block
pub add_block : (s k : List ℕ) → IsBytes s → IsBytes k → IsBlock (add_round_key s k)
unfolding add_round_key
add_block s k h g = state_block (λ r c. field_add (byte_at s r c) (byte_at k r c))
    (λ r c. field_add_byte _ _ (h (r + 4 * c)) (g (r + 4 * c)))

-- ---- what undoes what

-- g makes blocks of blocks, and f undoes it
pub record Undoes (f g : List ℕ → List ℕ) : Type 0 where
  -- g leaves a block of a block
  pub block : (s : List ℕ) → IsBlock s → IsBlock (g s)
  -- f leaves of what g left the block that g was given
  pub undone : (s : List ℕ) → IsBlock s → f (g s) ≡ s

-- one step and then another are undone in the other order
pub both_undone : {f g f' g' : List ℕ → List ℕ} → Undoes f g → Undoes f' g'
    → Undoes (λ s. f (f' s)) (λ s. g' (g s))
both_undone {f = f} {g = g} p q = record {
  block = λ s h. q.block (g s) (p.block s h);
  undone = λ s h. ap f (q.undone (g s) (p.block s h)) ∙ p.undone s h;
}

-- the bytes of a list are below 256, one by one
map_undone : (f g : ℕ → ℕ) → ((x : ℕ) → x < 256 → f (g x) ≡ x) → (s : List ℕ) → IsBytes s
    → map f (map g s) ≡ s
map_undone f g u [] h = refl
map_undone f g u (x ∷ s) h = λ i. u x (h 0) i ∷ map_undone f g u s (λ j. h (suc j)) i

-- InvSubBytes undoes SubBytes
pub inv_sub_of_sub : Undoes inv_sub_bytes sub_bytes
unfolding inv_sub_bytes sub_bytes
inv_sub_of_sub = record {
  block = λ s h. (length-map s sbox ∙ h.0, sub_bytes_bytes s);
  undone = λ s h. map_undone inv_sbox sbox inv_sbox_of_sbox s h.1;
}

-- SubBytes undoes InvSubBytes
pub sub_of_inv_sub : Undoes sub_bytes inv_sub_bytes
unfolding inv_sub_bytes sub_bytes
sub_of_inv_sub = record {
  block = λ s h. (length-map s inv_sbox ∙ h.0, inv_sub_bytes_bytes s);
  undone = λ s h. map_undone sbox inv_sbox sbox_of_inv_sbox s h.1;
}

-- ShiftRows after InvShiftRows leaves a list of sixteen as it was
pub shift_of_inv_shift : (s : List ℕ) → length s ≡ 16 → shift_rows (inv_shift_rows s) ≡ s
unfolding inv_shift_rows shift_rows build
shift_of_inv_shift s l = build-get_or 16 s 0 l

-- InvShiftRows after ShiftRows leaves a list of sixteen as it was
pub inv_shift_of_shift : (s : List ℕ) → length s ≡ 16 → inv_shift_rows (shift_rows s) ≡ s
unfolding inv_shift_rows shift_rows build
inv_shift_of_shift s l = build-get_or 16 s 0 l

-- ShiftRows undoes InvShiftRows
pub shift_undoes : Undoes shift_rows inv_shift_rows
shift_undoes = record {
  block = λ s h. inv_shift_block s h.1;
  undone =
      λ s h. shift_of_inv_shift s h.0;
}

-- InvShiftRows undoes ShiftRows
pub inv_shift_undoes : Undoes inv_shift_rows shift_rows
inv_shift_undoes = record {
  block = λ s h. shift_block s h.1;
  undone =
      λ s h. inv_shift_of_shift s h.0;
}

-- four ShiftRows leave a list of sixteen as it was
pub shift_four : (s : List ℕ) → length s ≡ 16 → shift_times 4 s ≡ s
unfolding shift_times shift_rows state build
shift_four s l = build-get_or 16 s 0 l

-- InvMixColumns undoes MixColumns
pub inv_mix_undoes : Undoes inv_mix_columns mix_columns
inv_mix_undoes = record { block = λ s h. mix_block s; undone = inv_mix_of_mix }

-- MixColumns undoes InvMixColumns
pub mix_undoes : Undoes mix_columns inv_mix_columns
mix_undoes = record { block = λ s h. inv_mix_block s; undone = mix_of_inv_mix }

-- adding the same round key twice leaves a list of sixteen as it was
pub add_key_twice : (s k : List ℕ) → length s ≡ 16 → add_round_key (add_round_key s k) k ≡ s
unfolding add_round_key build
add_key_twice s k l = (λ i. state (λ r c. add_twice (byte_at s r c) (byte_at k r c) i))
    ∙ build-get_or 16 s 0 l

-- AddRoundKey undoes itself
pub add_undoes : (k : List ℕ) → IsBytes k → Undoes (λ s. add_round_key s k) (λ s. add_round_key s k)
add_undoes k g = record {
  block = λ s h. add_block s k h.1 g;
  undone =
      λ s h. add_key_twice s k h.0;
}
