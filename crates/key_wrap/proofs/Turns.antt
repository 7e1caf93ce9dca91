-- Steps of W in place: the semiblocks that the standard shifts by one in each step are here those
-- from the next one on, and then those before it.
use Rattle.std.proofs.Common.{◌≡◌, ℕ, suc, ◌+◌, ◌-◌, ◌<◌, List, [], ◌∷◌, ◌++◌, length, get_or, set}
use Rattle.std.proofs.Common.{take, drop, ap, sym, ◌∙◌, arith}
use Rattle.std.proofs.Math.Seq.{get_or-append_seam}
use Rattle.std.proofs.lemmas.List.{append_assoc, drop_more, drop-set, drop-set-lt, length-append}
use Rattle.std.proofs.lemmas.List.{take-append-le, take-set-le, take_all, take_more, take_more_set}
use Rattle.aes_planes.specs.Fips197.{cipher_with, inv_cipher_with}
use Rattle.key_wrap.specs.KeyWrap.{number_added, unwrap_step, unwrapped_from, wrap_step}
use Rattle.key_wrap.specs.KeyWrap.{wrapped_after}

-- the semiblocks in the order of the standard before the step with semiblock i
abbrev pub turned : ℕ → List (List ℕ) → List (List ℕ)
turned i rs = drop i rs ++ take i rs

-- the inverse takes the last semiblock
pub unwrap_last : (w : List (List ℕ)) (a : List ℕ) (rs : List (List ℕ)) (r : List ℕ) (t : ℕ)
    → let b = inv_cipher_with w (number_added a t ++ r) in
    unwrap_step w t (a ∷ (rs ++ r ∷ [])) ≡ take 8 b ∷ drop 8 b ∷ rs
unfolding unwrap_step
unwrap_last w a rs r t =
    let n : length (rs ++ r ∷ []) - 1 ≡ length rs = omega (arith, length-append rs (r ∷ [])) in
    let last : get_or (rs ++ r ∷ []) (length (rs ++ r ∷ []) - 1) [] ≡ r =
    ap (λ k. get_or (rs ++ r ∷ []) k []) n ∙ get_or-append_seam rs r [] [] in
    let front : take (length (rs ++ r ∷ []) - 1) (rs ++ r ∷ []) ≡ rs =
    ap (λ k. take k (rs ++ r ∷ [])) n ∙ take-append-le (length rs) rs (r ∷ []) (omega arith)
    ∙ take_all (length rs) rs (omega arith) in
    λ j. let b = inv_cipher_with w (number_added a t ++ last j) in take 8 b ∷ drop 8 b ∷ front j

module _ (w : List (List ℕ)) (a : List ℕ) (rs : List (List ℕ)) (i t : ℕ) (lt : i < length rs) where
  -- one step with semiblock i goes one step of W on
  pub step_wrapped : (a_new r_new : List ℕ)
      → a_new ≡ number_added (take 8 (cipher_with w (a ++ get_or rs i []))) (t + 1)
      → r_new ≡ drop 8 (cipher_with w (a ++ get_or rs i []))
      → (s : List (List ℕ)) → wrapped_after w s t ≡ a ∷ turned i rs
      → wrapped_after w s (t + 1) ≡ a_new ∷ turned (i + 1) (set rs i r_new)
  unfolding wrapped_after wrap_step
  step_wrapped a_new r_new is_a is_r s before =
      let n : t + 1 ≡ suc t = omega arith in
      let b = cipher_with w (a ++ get_or rs i []) in
      let moved : turned (i + 1) (set rs i r_new) ≡ (drop (i + 1) rs ++ take i rs) ++ r_new ∷ [] =
      (λ j. drop-set-lt (i + 1) rs i r_new (omega arith) j ++ take_more_set rs i r_new lt j)
      ∙ sym (append_assoc (drop (i + 1) rs) (take i rs) (r_new ∷ [])) in
      ap (wrapped_after w s) n
      ∙ ap (wrap_step w (suc t)) (before ∙ ap (λ l. a ∷ (l ++ take i rs)) (drop_more rs i [] lt))
      ∙ ap (λ m. number_added (take 8 b) m
      ∷ ((drop (i + 1) rs ++ take i rs) ++ drop 8 b ∷ [])) (sym n)
      ∙ (λ j. sym is_a j ∷ ((drop (i + 1) rs ++ take i rs) ++ sym is_r j ∷ []))
      ∙ ap (λ l. a_new ∷ l) (sym moved)

  -- one step back with semiblock i goes one step of the inverse of W on
  pub step_unwrapped : (a_new r_new : List ℕ)
      → a_new ≡ take 8 (inv_cipher_with w (number_added a (t + 1) ++ get_or rs i []))
      → r_new ≡ drop 8 (inv_cipher_with w (number_added a (t + 1) ++ get_or rs i []))
      → unwrapped_from w (a_new ∷ turned i (set rs i r_new)) t
      ≡ unwrapped_from w (a ∷ turned (i + 1) rs) (t + 1)
  unfolding unwrapped_from
  step_unwrapped a_new r_new is_a is_r =
      let n : t + 1 ≡ suc t = omega arith in
      let r = get_or rs i [] in
      let others = drop (i + 1) rs ++ take i rs in
      let b = inv_cipher_with w (number_added a (suc t) ++ r) in
      let after : turned i (set rs i r_new) ≡ r_new ∷ others =
      (λ j. drop-set rs i r_new lt j ++ take-set-le i rs i r_new (omega arith) j) in
      let before : turned (i + 1) rs ≡ others ++ r ∷ [] =
      ap (λ l. drop (i + 1) rs ++ l) (take_more rs i [] lt)
      ∙ sym (append_assoc (drop (i + 1) rs) (take i rs) (r ∷ []))
      in
      ap (λ l. unwrapped_from w (a_new ∷ l) t) after
      ∙ (λ j. unwrapped_from w (is_a j ∷ is_r j ∷ others) t)
      ∙ ap (λ m. let d = inv_cipher_with w (number_added a m ++ r) in
      unwrapped_from w (take 8 d ∷ drop 8 d ∷ others) t) n
      ∙ ap (λ l. unwrapped_from w l t) (sym (unwrap_last w a others r (suc t)))
      ∙ ap (λ l. unwrapped_from w (a ∷ l) (suc t)) (sym before)
      ∙ ap (unwrapped_from w (a ∷ turned (i + 1) rs)) (sym n)
