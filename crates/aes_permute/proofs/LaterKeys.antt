-- Round keys that are added after a round with the key zero.
use Rattle.std.proofs.Common.{◌≡◌, ℕ, zero, suc, ◌%◌, bit_xor, List, [], ◌∷◌, length, map, replicate}
use Rattle.std.proofs.Common.{refl, ap, sym, ◌∙◌, arith}
use Rattle.std.proofs.lemmas.List.{length-map}
use Rattle.std.specs.Int.Bits.{xor_assoc}
use Rattle.std.proofs.lemmas.Nat.{xor_comm}
use lib.Lanes.{zip2}
use Rattle.aes_planes.specs.Fips197.{add_round_key, byte_at, build, inv_shift_rows, inv_shift_times}
use Rattle.aes_planes.specs.Fips197.{shift_rows, shift_times, state}
use Rattle.aes_planes.specs.Planes.{plus63}
use Rattle.aes_planes.proofs.Lists.{same_on_blocks}
use Rattle.aes_planes.proofs.Standard.FieldLaws.{add_twice}
use Rattle.aes_planes.proofs.Standard.Steps.{length-shift_times}
use Rattle.aes_cipher.proofs.BlockNumbers.{blocks_summed}
use Rattle.aes_permute.specs.Stored.{inv_untower, untower, decryption_untower, key_untower}
use Rattle.aes_permute.proofs.BackShifts.{length-inv_shift_times}
use Rattle.aes_permute.proofs.Linear.{inv_untower_sum, untower_sum}

-- f of a sum is the sum of f and of g, but for g of 0
abbrev Follows : (ℕ → ℕ) → (ℕ → ℕ) → Type 0
Follows f g = (a k : ℕ) → f (bit_xor a k) ≡ bit_xor (f a) (bit_xor (g k) (g 0))

-- a change of places, which takes sums of blocks to sums
abbrev Moves : (List ℕ → List ℕ) → Type 0
Moves shift = (a b : List ℕ) → length a ≡ 16 → length b ≡ 16
    → shift (add_round_key a b) ≡ add_round_key (shift a) (shift b)

-- f of each byte of a sum of two blocks
sums_follow : (f g : ℕ → ℕ) → Follows f g → (x key : List ℕ)
    → map f (zip2 bit_xor x key) ≡ zip2 bit_xor (map f x) (map (λ k. bit_xor (g k) (g 0)) key)
sums_follow f g follows [] key = refl
sums_follow f g follows (a ∷ x) [] = refl
sums_follow f g follows (a ∷ x) (k ∷ key) = λ i. follows a k i ∷ sums_follow f g follows x key i

-- g of 0 that is added twice falls out
zeros_fall_out : (g : ℕ → ℕ) (n : ℕ) (key : List ℕ) → length key ≡ n
    → zip2 bit_xor (map (λ k. bit_xor (g k) (g 0)) key) (map g (replicate n 0)) ≡ map g key
zeros_fall_out g zero [] l = refl
zeros_fall_out g zero (k ∷ key) l = absurd (omega (arith, l))
zeros_fall_out g (suc n) [] l = absurd (omega (arith, l))
zeros_fall_out g (suc n) (k ∷ key) l =
    λ i. add_twice (g k) (g 0) i ∷ zeros_fall_out g n key (omega (arith, l)) i

-- the last two of three summands change places, and are summed first
regrouped : (a z h : List ℕ) → add_round_key (add_round_key a z) h ≡ add_round_key a (add_round_key h z)
unfolding add_round_key state build
regrouped a z h = λ i. state (λ r c. (xor_assoc (byte_at a r c) (byte_at z r c) (byte_at h r c)
    ∙ ap (bit_xor (byte_at a r c)) (xor_comm (byte_at z r c) (byte_at h r c))) i)

-- a round key may be added later
keys_later : (f g : ℕ → ℕ) (shift : List ℕ → List ℕ) → Follows f g → Moves shift
    → (s x key : List ℕ) → length x ≡ 16 → length key ≡ 16
    → shift (map f x) ≡ add_round_key s (shift (map g (replicate 16 0)))
    → shift (map f (zip2 bit_xor x key)) ≡ add_round_key s (shift (map g key))
keys_later f g shift follows moves s x key l m made =
    let h : ℕ → ℕ = λ k. bit_xor (g k) (g 0) in
    let zeros : List ℕ = map g (replicate 16 0) in
    let h_long : length (map h key) ≡ 16 = length-map key h ∙ m in
    ap shift (sums_follow f g follows x key
    ∙ blocks_summed (map f x) (map h key) (length-map x f ∙ l) h_long)
    ∙ moves (map f x) (map h key) (length-map x f ∙ l) h_long
    ∙ ap (λ v. add_round_key v (shift (map h key))) made
    ∙ regrouped s (shift zeros) (shift (map h key))
    ∙ ap (add_round_key s) (sym (moves (map h key) zeros h_long refl)
    ∙ ap shift (sym (blocks_summed (map h key) zeros h_long refl) ∙ zeros_fall_out g 16 key m))

-- ---- ShiftRows and InvShiftRows move sums

-- one ShiftRows does
shift_moves : Moves shift_rows
unfolding build state add_round_key shift_rows
shift_moves = same_on_blocks (λ a b. shift_rows (add_round_key a b))
    (λ a b. add_round_key (shift_rows a) (shift_rows b)) (λ f g. refl)

-- one InvShiftRows does
inv_shift_moves : Moves inv_shift_rows
unfolding build state add_round_key inv_shift_rows
inv_shift_moves = same_on_blocks (λ a b. inv_shift_rows (add_round_key a b))
    (λ a b. add_round_key (inv_shift_rows a) (inv_shift_rows b)) (λ f g. refl)

-- any number of ShiftRows does
times_move : (k : ℕ) → Moves (shift_times k)
unfolding shift_times
times_move zero a b l m = refl
times_move (suc k) a b l m =
    ap shift_rows (times_move k a b l m)
    ∙ shift_moves (shift_times k a) (shift_times k b) (length-shift_times k a l) (length-shift_times k b m)

-- any number of InvShiftRows does
inv_times_move : (k : ℕ) → Moves (inv_shift_times k)
unfolding inv_shift_times
inv_times_move zero a b l m = refl
inv_times_move (suc k) a b l m =
    ap inv_shift_rows (inv_times_move k a b l m)
    ∙ inv_shift_moves (inv_shift_times k a) (inv_shift_times k b) (length-inv_shift_times k a l)
    (length-inv_shift_times k b m)

-- ---- the two directions

-- 0x63 in a sum comes from g, and that in g of 0 takes it out again
cipher_follows : Follows untower key_untower
unfolding key_untower untower
cipher_follows a k = untower_sum a k ∙ ap (bit_xor (untower a)) (sym (add_twice (untower k) 0x63))

-- what a sum stands for in decryption
inverse_follows : Follows decryption_untower decryption_untower
unfolding decryption_untower
inverse_follows a k =
    ap plus63 (inv_untower_sum a k) ∙ xor_assoc (inv_untower a) (inv_untower k) 0x63
    ∙ ap (bit_xor (inv_untower a)) (xor_comm (inv_untower k) 0x63)
    ∙ sym (xor_assoc (inv_untower a) 0x63 (inv_untower k))
    ∙ ap (bit_xor (plus63 (inv_untower a))) (sym (add_twice (inv_untower k) 0x63))

-- Cipher's round keys may come later
pub cipher_keys_later : (n : ℕ) (s x key : List ℕ) → length x ≡ 16 → length key ≡ 16
    → shift_times (n % 4) (map untower x)
    ≡ add_round_key s (shift_times (n % 4) (map key_untower (replicate 16 0)))
    → shift_times (n % 4) (map untower (zip2 bit_xor x key))
    ≡ add_round_key s (shift_times (n % 4) (map key_untower key))
cipher_keys_later n s x key =
    keys_later untower key_untower (shift_times (n % 4)) cipher_follows (times_move (n % 4)) s x key

-- those of EqInvCipher may come later
pub inverse_keys_later : (n : ℕ) (s x key : List ℕ) → length x ≡ 16 → length key ≡ 16
    → inv_shift_times (n % 4) (map decryption_untower x)
    ≡ add_round_key s (inv_shift_times (n % 4) (map decryption_untower (replicate 16 0)))
    → inv_shift_times (n % 4) (map decryption_untower (zip2 bit_xor x key))
    ≡ add_round_key s (inv_shift_times (n % 4) (map decryption_untower key))
inverse_keys_later n s x key =
    keys_later decryption_untower decryption_untower (inv_shift_times (n % 4)) inverse_follows
    (inv_times_move (n % 4)) s x key
