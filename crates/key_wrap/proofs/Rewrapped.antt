-- Wrapping undoes unwrapping: each step of W undoes a step of its inverse.
use Rattle.std.proofs.Common.{◌≡◌, ℕ, zero, suc, ◌+◌, ◌-◌, ◌*◌, ◌^◌, ◌<◌, ◌≤◌, List, [], ◌∷◌, ◌++◌}
use Rattle.std.proofs.Common.{length, get_or, take, drop, refl, ap, sym, ◌∙◌, arith}
use Rattle.std.proofs.lemmas.List.{length-drop, length-take, take_all, take_more}
use Rattle.std.proofs.lemmas.List.Elements.{All-cons, All-get_or, All-head, All-tail, All-take}
use Rattle.std.specs.List.{All}
use Rattle.aes_planes.specs.Fips197.{IsBlock, IsBytes, AreRoundKeys, round_key, last_round}
use Rattle.aes_planes.specs.Fips197.{add_round_key, inv_sub_bytes, inv_shift_rows, inv_state_after}
use Rattle.aes_planes.specs.Fips197.{cipher_with, inv_cipher_with}
use Rattle.aes_planes.proofs.Standard.States.{take_bytes, drop_bytes}
use Rattle.aes_planes.proofs.Standard.Steps.{add_block, mix_undoes, shift_undoes, sub_of_inv_sub}
use Rattle.key_wrap.specs.KeyWrap.{integrity_check, number_added, unwrap_step, unwrapped}
use Rattle.key_wrap.specs.KeyWrap.{unwrapped_from, wrap_step, wrapped, wrapped_after, IsSemiblock}
use Rattle.key_wrap.proofs.Undone.{added_semiblock, added_twice}

-- ---- InvCipher of a block is a block
module _ (w : List (List ℕ)) (keys : AreRoundKeys w) where
  -- each round key consists of bytes
  key_bytes : (i : ℕ) → i ≤ last_round w → IsBytes (round_key w i)
  key_bytes i le = (keys.blocks i (omega (arith, keys.two))).1

  -- InvShiftRows, InvSubBytes and AddRoundKey leave a block
  back_block : (s : List ℕ) (i : ℕ) → IsBlock s → i ≤ last_round w
      → IsBlock (add_round_key (inv_sub_bytes (inv_shift_rows s)) (round_key w i))
  back_block s i is le =
      add_block (inv_sub_bytes (inv_shift_rows s)) (round_key w i)
      (sub_of_inv_sub.block (inv_shift_rows s) (shift_undoes.block s is)).1 (key_bytes i le)

  -- each turn of its loop leaves a block
  turn_block : (b : List ℕ) (n : ℕ) → IsBlock b → n < last_round w → IsBlock (inv_state_after w b n)
  unfolding inv_state_after
  turn_block b zero is lt =
      add_block b (round_key w (last_round w)) is.1 (key_bytes (last_round w) (omega arith))
  turn_block b (suc n) is lt =
      mix_undoes.block
      (add_round_key (inv_sub_bytes (inv_shift_rows (inv_state_after w b n)))
      (round_key w (last_round w - suc n)))
      (back_block (inv_state_after w b n) (last_round w - suc n) (turn_block b n is (omega arith))
      (omega arith))

  -- InvCipher of a block is a block
  inv_cipher_block : (b : List ℕ) → IsBlock b → IsBlock (inv_cipher_with w b)
  unfolding inv_cipher_with
  inv_cipher_block b is =
      back_block (inv_state_after w b (last_round w - 1)) 0
      (turn_block b (last_round w - 1) is (omega (arith, keys.two))) (omega arith)

-- ---- what the laws say of round keys, and of the halves of blocks
module _ (w : List (List ℕ)) (keys : AreRoundKeys w)
    (redone : (b : List ℕ) → IsBlock b → cipher_with w (inv_cipher_with w b) ≡ b)
    (joined : (a b : List ℕ) → length a ≡ 8 → IsBytes a → length b ≡ 8 → IsBytes b
    → IsBlock (a ++ b))
    (first : (a b : List ℕ) → length a ≡ 8 → take 8 (a ++ b) ≡ a)
    (second : (a b : List ℕ) → length a ≡ 8 → drop 8 (a ++ b) ≡ b)
    (back : (b : List ℕ) → take 8 b ++ drop 8 b ≡ b) where
  -- what a step of the inverse gives to InvCipher is a block
  given_block : (a : List ℕ) (rs : List (List ℕ)) (t : ℕ) → All IsSemiblock (a ∷ rs) → 1 ≤ length rs
      → IsBlock (number_added a t ++ get_or rs (length rs - 1) [])
  given_block a rs t all some =
      let is_n : IsSemiblock (number_added a t) = added_semiblock a t in
      let is_r : IsSemiblock (get_or rs (length rs - 1) []) =
      All-get_or IsSemiblock rs (length rs - 1) [] (omega (arith, some))
      (All-tail IsSemiblock a rs all) in
      joined (number_added a t) (get_or rs (length rs - 1) []) is_n.0 is_n.1 is_r.0 is_r.1

  -- a step of the inverse leaves semiblocks
  unwrap_step_kept : (t : ℕ) (s : List (List ℕ)) → All IsSemiblock s → 2 ≤ length s
      → All IsSemiblock (unwrap_step w t s)
  unfolding unwrap_step
  unwrap_step_kept t [] all some = absurd (omega arith)
  unwrap_step_kept t (a ∷ rs) all some =
      let last : ℕ = length rs - 1 in
      let b : List ℕ = inv_cipher_with w (number_added a t ++ get_or rs last []) in
      let is : IsBlock b =
      inv_cipher_block w keys (number_added a t ++ get_or rs last [])
      (given_block a rs t all (omega (arith, some))) in
      All-cons IsSemiblock (take 8 b) (drop 8 b ∷ take last rs)
      (omega (arith, length-take 8 b, is.0), take_bytes 8 b is.1)
      (All-cons IsSemiblock (drop 8 b) (take last rs)
      (omega (arith, length-drop 8 b, is.0), drop_bytes 8 b is.1)
      (All-take IsSemiblock last rs (All-tail IsSemiblock a rs all)))

  -- a step of the inverse leaves as many semiblocks as there were
  length-unwrap_step : (t : ℕ) (s : List (List ℕ)) → 2 ≤ length s → length (unwrap_step w t s) ≡ length s
  unfolding unwrap_step
  length-unwrap_step t [] some = absurd (omega arith)
  length-unwrap_step t (a ∷ rs) some = omega (arith, length-take (length rs - 1) rs, some)

  -- a step undoes the step of the inverse
  step_redone : (t : ℕ) (s : List (List ℕ)) → t < 2 ^ 64 → All IsSemiblock s → 2 ≤ length s
      → wrap_step w t (unwrap_step w t s) ≡ s
  unfolding wrap_step unwrap_step
  step_redone t [] lt all some = absurd (omega arith)
  step_redone t (a ∷ rs) lt all some =
      let last : ℕ = length rs - 1 in
      let inside : last < length rs = omega (arith, some) in
      let n : List ℕ = number_added a t in
      let r : List ℕ = get_or rs last [] in
      let long : length n ≡ 8 = (added_semiblock a t).0 in
      let whole : cipher_with w (take 8 (inv_cipher_with w (n ++ r)) ++ drop 8 (inv_cipher_with w (n ++ r)))
      ≡ n ++ r =
      ap (cipher_with w) (back (inv_cipher_with w (n ++ r)))
      ∙ redone (n ++ r) (given_block a rs t all (omega (arith, some))) in
      let ends : take last rs ++ r ∷ [] ≡ rs =
      sym (take_more rs last [] inside) ∙ take_all (last + 1) rs (omega (arith, inside)) in
      (λ j. number_added (take 8 (whole j)) t ∷ (take last rs ++ drop 8 (whole j) ∷ []))
      ∙ (λ j. number_added (first n r long j) t ∷ (take last rs ++ second n r long j ∷ []))
      ∙ (λ j. added_twice a t (All-head IsSemiblock a rs all) lt j ∷ ends j)

  -- all steps of the inverse leave as many semiblocks as there were
  length-unwrapped_from : (s : List (List ℕ)) (t : ℕ) → 2 ≤ length s
      → length (unwrapped_from w s t) ≡ length s
  unfolding unwrapped_from
  length-unwrapped_from s zero some = refl
  length-unwrapped_from s (suc t) some =
      let same : length (unwrap_step w (suc t) s) ≡ length s = length-unwrap_step (suc t) s some in
      length-unwrapped_from (unwrap_step w (suc t) s) t (omega (arith, same, some)) ∙ same

  -- the steps of the inverse, undone
  from_redone : (s : List (List ℕ)) (t : ℕ) → t < 2 ^ 64 → All IsSemiblock s → 2 ≤ length s
      → wrapped_after w (unwrapped_from w s t) t ≡ s
  unfolding wrapped_after unwrapped_from
  from_redone s zero lt all some = refl
  from_redone s (suc t) lt all some =
      ap (wrap_step w (suc t))
      (from_redone (unwrap_step w (suc t) s) t (omega arith) (unwrap_step_kept (suc t) s all some)
      (omega (arith, some, length-unwrap_step (suc t) s some)))
      ∙ step_redone (suc t) s lt all some

  -- what unwrapping accepts is the wrapping of the key that comes out
  pub wrapped_again : (key sealed : List (List ℕ)) → All IsSemiblock sealed → 2 ≤ length sealed
      → length sealed ≤ 2 ^ 54 → unwrapped w sealed ≡ integrity_check ∷ key → sealed ≡ wrapped w key
  unfolding unwrapped wrapped
  wrapped_again key sealed all some few is =
      let t : ℕ = 6 * (length sealed - 1) in
      let long : length key ≡ length sealed - 1 =
      omega (arith, ap length is, length-unwrapped_from sealed t some) in
      sym (ap (λ n. wrapped_after w (integrity_check ∷ key) (6 * n)) long
      ∙ ap (λ l. wrapped_after w l t) (sym is)
      ∙ from_redone sealed t (omega (arith, few)) all some)
