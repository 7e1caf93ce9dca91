-- Unwrapping undoes wrapping: each step of the inverse of W undoes a step of W.
use Rattle.std.proofs.Common.{◌≡◌, ℕ, zero, suc, ◌-◌, ◌*◌, ◌^◌, ◌<◌, ◌≤◌, List, [], ◌∷◌, ◌++◌}
use Rattle.std.proofs.Common.{length, take, drop, refl, ap, sym, ◌∙◌, arith, bit_xor}
use Rattle.std.proofs.lemmas.List.{append-nil, length-append, length-drop, length-take}
use Rattle.std.proofs.lemmas.List.Elements.{All-append, All-cons, All-head, All-nil, All-tail}
use Rattle.std.proofs.lemmas.Nat.{be_bytes_8, from_be_bytes-to_be_bytes_8, xor_lt}
use Rattle.std.specs.Int.{w64, w128, to_be_bytes, from_be_bytes}
use Rattle.std.specs.Int.Bits.{xor_assoc, xor_self, xor_zero_r}
use Rattle.std.specs.List.{All}
use Rattle.aes_planes.specs.Fips197.{IsBlock, IsBytes, cipher_with, inv_cipher_with}
use Rattle.key_wrap.specs.KeyWrap.{integrity_check, number_added, unwrap_step, unwrapped}
use Rattle.key_wrap.specs.KeyWrap.{unwrapped_from, wrap_step, wrapped, wrapped_after, IsSemiblock}
use Rattle.key_wrap.specs.Padded.{block_or_steps, unwrapped_string, wrapped_string}
use Rattle.aes_cipher.proofs.BlockNumbers.{number_block}
use Rattle.aes_planes.proofs.Standard.States.{take_bytes, drop_bytes}
use Rattle.key_wrap.proofs.Padding.{other_strings_as_steps}
use Rattle.key_wrap.proofs.Turns.{unwrap_last}

-- ---- numbers added to semiblocks

-- the bytes of a number are a semiblock
number_semiblock : (n : ℕ) → IsSemiblock (to_be_bytes w64 n)
number_semiblock n = (refl, drop_bytes 8 (to_be_bytes w128 n) (number_block n).1)

-- a semiblock with a number added is a semiblock
pub added_semiblock : (half : List ℕ) (t : ℕ) → IsSemiblock (number_added half t)
unfolding number_added
added_semiblock half t = number_semiblock (bit_xor (from_be_bytes w64 half) t)

-- adding a number once more gives the semiblock back
pub added_twice : (half : List ℕ) (t : ℕ) → IsSemiblock half → t < 2 ^ 64
    → number_added (number_added half t) t ≡ half
unfolding number_added
added_twice half t (long, small) lt =
    let n : ℕ = from_be_bytes w64 half in
    let below : n < 2 ^ 64 =
    omega (arith, small 0, small 1, small 2, small 3, small 4, small 5, small 6, small 7) in
    ap (λ m. to_be_bytes w64 (bit_xor m t))
    (from_be_bytes-to_be_bytes_8 (bit_xor n t) (xor_lt 64 n t below lt))
    ∙ ap (to_be_bytes w64) (xor_assoc n t t ∙ ap (bit_xor n) (xor_self t) ∙ xor_zero_r n)
    ∙ be_bytes_8 half n long small refl

-- ---- what the laws say of the round keys of a value, and of the halves of blocks
module _ (w : List (List ℕ))
    (undone : (b : List ℕ) → IsBlock b → inv_cipher_with w (cipher_with w b) ≡ b)
    (block : (b : List ℕ) → IsBlock b → IsBlock (cipher_with w b))
    (joined : (a b : List ℕ) → length a ≡ 8 → IsBytes a → length b ≡ 8 → IsBytes b
    → IsBlock (a ++ b))
    (first : (a b : List ℕ) → length a ≡ 8 → take 8 (a ++ b) ≡ a)
    (second : (a b : List ℕ) → length a ≡ 8 → drop 8 (a ++ b) ≡ b)
    (back : (b : List ℕ) → take 8 b ++ drop 8 b ≡ b) where
  -- the cipher of two semiblocks is a block, whose halves are semiblocks
  of_two : (a r : List ℕ) → IsSemiblock a → IsSemiblock r → IsBlock (cipher_with w (a ++ r))
  of_two a r is_a is_r = block (a ++ r) (joined a r is_a.0 is_a.1 is_r.0 is_r.1)

  -- the first half of a block is a semiblock
  high_semiblock : (b : List ℕ) → IsBlock b → IsSemiblock (take 8 b)
  high_semiblock b is = (omega (arith, length-take 8 b, is.0), take_bytes 8 b is.1)

  -- the second half of a block is a semiblock
  low_semiblock : (b : List ℕ) → IsBlock b → IsSemiblock (drop 8 b)
  low_semiblock b is = (omega (arith, length-drop 8 b, is.0), drop_bytes 8 b is.1)

  -- the inverse cipher undoes the cipher of two halves
  halves_back : (a r : List ℕ) → IsSemiblock a → IsSemiblock r
      → let b = cipher_with w (a ++ r) in
      (take 8 (inv_cipher_with w (take 8 b ++ drop 8 b)) ≡ a)
      × (drop 8 (inv_cipher_with w (take 8 b ++ drop 8 b)) ≡ r)
  halves_back a r is_a is_r =
      let b : List ℕ = cipher_with w (a ++ r) in
      let whole : inv_cipher_with w (take 8 b ++ drop 8 b) ≡ a ++ r =
      ap (inv_cipher_with w) (back b) ∙ undone (a ++ r) (joined a r is_a.0 is_a.1 is_r.0 is_r.1) in
      (ap (take 8) whole ∙ first a r is_a.0, ap (drop 8) whole ∙ second a r is_a.0)

  -- a step leaves semiblocks
  wrap_step_kept : (t : ℕ) (s : List (List ℕ)) → All IsSemiblock s → All IsSemiblock (wrap_step w t s)
  unfolding wrap_step
  wrap_step_kept t [] all = all
  wrap_step_kept t (a ∷ []) all = all
  wrap_step_kept t (a ∷ r ∷ rs) all =
      let b : List ℕ = cipher_with w (a ++ r) in
      let rest : All IsSemiblock (r ∷ rs) = All-tail IsSemiblock a (r ∷ rs) all in
      let is : IsBlock b =
      of_two a r (All-head IsSemiblock a (r ∷ rs) all) (All-head IsSemiblock r rs rest) in
      All-cons IsSemiblock (number_added (take 8 b) t) (rs ++ drop 8 b ∷ [])
      (added_semiblock (take 8 b) t)
      (All-append IsSemiblock rs (drop 8 b ∷ []) (All-tail IsSemiblock r rs rest)
      (All-cons IsSemiblock (drop 8 b) [] (low_semiblock b is) (All-nil IsSemiblock)))

  -- a step leaves as many semiblocks as there were
  length-wrap_step : (t : ℕ) (s : List (List ℕ)) → length (wrap_step w t s) ≡ length s
  unfolding wrap_step
  length-wrap_step t [] = refl
  length-wrap_step t (a ∷ []) = refl
  length-wrap_step t (a ∷ r ∷ rs) =
      omega (arith, length-append rs (drop 8 (cipher_with w (a ++ r)) ∷ []))

  -- the step of the inverse undoes a step
  step_undone : (t : ℕ) (s : List (List ℕ)) → t < 2 ^ 64 → All IsSemiblock s → 2 ≤ length s
      → unwrap_step w t (wrap_step w t s) ≡ s
  unfolding wrap_step
  step_undone t [] lt all some = absurd (omega arith)
  step_undone t (a ∷ []) lt all some = absurd (omega arith)
  step_undone t (a ∷ r ∷ rs) lt all some =
      let b : List ℕ = cipher_with w (a ++ r) in
      let rest : All IsSemiblock (r ∷ rs) = All-tail IsSemiblock a (r ∷ rs) all in
      let is_a : IsSemiblock a = All-head IsSemiblock a (r ∷ rs) all in
      let is_r : IsSemiblock r = All-head IsSemiblock r rs rest in
      let added : number_added (number_added (take 8 b) t) t ≡ take 8 b =
      added_twice (take 8 b) t (high_semiblock b (of_two a r is_a is_r)) lt in
      let two = halves_back a r is_a is_r in
      unwrap_last w (number_added (take 8 b) t) rs (drop 8 b) t
      ∙ (λ j. let d = inv_cipher_with w (added j ++ drop 8 b) in take 8 d ∷ drop 8 d ∷ rs)
      ∙ (λ j. two.0 j ∷ two.1 j ∷ rs)

  -- the steps of all turns leave semiblocks
  after_kept : (s : List (List ℕ)) (t : ℕ) → All IsSemiblock s
      → All IsSemiblock (wrapped_after w s t)
  unfolding wrapped_after
  after_kept s zero all = all
  after_kept s (suc t) all = wrap_step_kept (suc t) (wrapped_after w s t) (after_kept s t all)

  -- the steps of all turns leave as many semiblocks as there were
  length-wrapped_after : (s : List (List ℕ)) (t : ℕ) → length (wrapped_after w s t) ≡ length s
  unfolding wrapped_after
  length-wrapped_after s zero = refl
  length-wrapped_after s (suc t) = length-wrap_step (suc t) (wrapped_after w s t) ∙ length-wrapped_after s t

  -- the inverse undoes the steps of W
  after_undone : (s : List (List ℕ)) (t : ℕ) → t < 2 ^ 64 → All IsSemiblock s → 2 ≤ length s
      → unwrapped_from w (wrapped_after w s t) t ≡ s
  unfolding wrapped_after unwrapped_from
  after_undone s zero lt all some = refl
  after_undone s (suc t) lt all some =
      ap (λ l. unwrapped_from w l t)
      (step_undone (suc t) (wrapped_after w s t) lt (after_kept s t all)
      (omega (arith, some, length-wrapped_after s t)))
      ∙ after_undone s t (omega arith) all some

  -- unwrapping undoes wrapping, and finds the check in front of the key
  pub wrapped_undone : (key : List (List ℕ)) → All IsSemiblock key → 1 ≤ length key
      → length key < 2 ^ 54
      → unwrapped w (wrapped w key) ≡ integrity_check ∷ key
  unfolding unwrapped wrapped
  wrapped_undone key all some few =
      let s : List (List ℕ) = integrity_check ∷ key in
      let t : ℕ = 6 * length key in
      let count : 6 * (length (wrapped_after w s t) - 1) ≡ t = omega (arith, length-wrapped_after s t) in
      ap (unwrapped_from w (wrapped_after w s t)) count
      ∙ after_undone s t (omega (arith, few))
      (All-cons IsSemiblock integrity_check key (number_semiblock 0xa6a6a6a6a6a6a6a6) all)
      (omega (arith, some))

  -- the inverse of W undoes W on a string of two semiblocks or more
  pub string_undone : (s : List (List ℕ)) → All IsSemiblock s → 2 ≤ length s → length s < 2 ^ 54
      → unwrapped_string w (wrapped_string w s) ≡ s
  unfolding unwrapped_string wrapped_string block_or_steps
  string_undone [] all some few = absurd (omega arith)
  string_undone (a ∷ []) all some few = absurd (omega arith)
  string_undone (a ∷ r ∷ []) all some few =
      let rest : All IsSemiblock (r ∷ []) = All-tail IsSemiblock a (r ∷ []) all in
      let two = halves_back a r (All-head IsSemiblock a (r ∷ []) all)
      (All-head IsSemiblock r [] rest) in
      (λ j. let b = cipher_with w (a ++ append-nil r j) in
      let d = inv_cipher_with w (take 8 b ++ append-nil (drop 8 b) j) in take 8 d ∷ drop 8 d ∷ [])
      ∙ (λ j. two.0 j ∷ two.1 j ∷ [])
  string_undone (a ∷ r ∷ x ∷ rs) all some few =
      let s : List (List ℕ) = a ∷ r ∷ x ∷ rs in
      let n : ℕ = length s - 1 in
      let c : List (List ℕ) = wrapped_after w s (6 * n) in
      let long = length-wrapped_after s (6 * n) in
      ap (block_or_steps (inv_cipher_with w) (unwrapped_from w))
      (sym (other_strings_as_steps (cipher_with w) (wrapped_after w) s n refl (λ two. omega (arith, two))))
      ∙ sym (other_strings_as_steps (inv_cipher_with w) (unwrapped_from w) c n (omega (arith, long))
      (λ two. omega (arith, two, long)))
      ∙ after_undone s (6 * n) (omega (arith, few)) all some
