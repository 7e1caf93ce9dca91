-- Rotations by rows and columns: where they take each place, and what masks let through.
use Rattle.std.proofs.Common.{◌≡◌, ℕ, ◌+◌, ◌-◌, ◌*◌, ◌/◌, ◌%◌, ◌^◌, ◌<◌, ◌≤◌, ◌&&◌, ◌||◌, not}
use Rattle.std.proofs.Common.{nat_lt, Bool, List, refl, ap, sym, ◌∙◌, ◌⊎◌, inl, inr, arith}
use Rattle.std.proofs.Math.Bool.{and-true, and-false, or-false}
use Rattle.std.proofs.Math.Nat.{mod-eq_of_lt}
use Rattle.std.proofs.lemmas.Bool.{lt-ltb, le-ltb}
use Rattle.aes_planes.specs.Bits.{bit, IsShape}
use Rattle.aes_planes.specs.Planes.{place}
use Rattle.aes_planes.proofs.Bits.BitCases.{same, same_tells}
use Rattle.aes_planes.proofs.Bits.ByteCases.{all_below, all_pairs_tell}
use Rattle.aes_planes.proofs.Planes.Held.{row_on}

module _ {A : Type 0} {bits : A → List Bool} {n B R H Q N S : ℕ}
    (shape : IsShape bits n B R H Q N S) where
  -- moving on by `rows` rows and `cols` columns leads to the place in that row and column, if the
  -- column doesn't wrap
  pub rotated_place : (r c k rows cols : ℕ) → r < 4 → c + cols < 4 → k < n → rows ≤ 3
      → (place n r c k + (rows * R + cols * Q)) % B ≡ place n ((r + rows) % 4) ((c + cols) % 4) k
  rotated_place r c k rows cols h l kn d =
      let e : place n r c k + (rows * (4 * n) + cols * n)
      ≡ place n r (c + cols) k + rows * (4 * n) = grind arith in
      (λ t. (place n r c k + (rows * shape.four t + cols * shape.one t)) % shape.sixteen t)
      ∙ ap (λ v. v % (16 * n)) e ∙ row_on n r (c + cols) k rows h l kn (omega arith)
      ∙ ap (λ v. place n ((r + rows) % 4) v k) (sym (mod-eq_of_lt l))

  -- the place `rows` rows and `cols` columns on, if the column wraps: a rotation of the word by a
  -- row less
  pub wrapped_place : (r c k rows cols : ℕ) → r < 4 → c < 4 → 4 ≤ c + cols → k < n → 1 ≤ rows
      → rows ≤ 3 → cols ≤ 3
      → (place n r c k + ((rows - 1) * R + cols * Q)) % B
      ≡ place n ((r + rows) % 4) ((c + cols) % 4) k
  wrapped_place r c k rows cols h i l kn some d dc =
      let e : ℕ = c + cols - 4 in
      let m : e ≡ (c + cols) % 4 = omega arith in
      let a : (c + cols) * n ≡ (e + 4) * n = ap (λ v. v * n) (omega arith) in
      let b : rows * (4 * n) ≡ (rows - 1 + 1) * (4 * n) = ap (λ v. v * (4 * n)) (omega arith) in
      let s : place n r c k + ((rows - 1) * (4 * n) + cols * n) ≡ place n r e k + rows * (4 * n) =
      grind (arith, a, b) in
      (λ t. (place n r c k + ((rows - 1) * shape.four t + cols * shape.one t)) % shape.sixteen t)
      ∙ ap (λ v. v % (16 * n)) s ∙ row_on n r e k rows h (omega arith) kn (omega arith)
      ∙ ap (λ v. place n ((r + rows) % 4) v k) m

-- bit c of 15 / 2 ^ cols says whether column c, moved on by cols, stays in its row
pub stay_bit : (cols c : ℕ) → cols ≤ 3 → c < 4 → bit (15 / 2 ^ cols) c ≡ nat_lt (c + cols) 4
unfolding all_below same bit
stay_bit cols c h l = same_tells _ _
    (all_pairs_tell 4 4 (λ cols c. same (bit (15 / 2 ^ cols) c) (nat_lt (c + cols) 4)) refl cols c
    (omega arith) l)

-- what a mask lets through of one bit and its complement of another, where the mask's bit is
-- whether x is below 4
pub masked_rotation : (a b m w : Bool) (x : ℕ) → m ≡ nat_lt x 4 → (x < 4 → a ≡ w) → (4 ≤ x → b ≡ w)
    → (x < 4) ⊎ (4 ≤ x)
    → (a && m) || (b && not m) ≡ w
masked_rotation a b m w x e p q (inl lt) =
    ap (λ v. (a && v) || (b && not v)) (e ∙ lt-ltb x 4 lt) ∙ (λ t. and-true a t || and-false b t)
    ∙ or-false a ∙ p lt
masked_rotation a b m w x e p q (inr le) =
    ap (λ v. (a && v) || (b && not v)) (e ∙ le-ltb x 4 le)
    ∙ (λ t. and-false a t || and-true b t) ∙ q le
