-- The numbers by which a swizzle rotates and shifts lanes within sixteen, and what it reads.
use Rattle.std.proofs.Common.{◌≡◌, ℕ, ◌+◌, ◌-◌, ◌%◌, ◌≤◌, ◌<◌, ◌==◌, Bool, true, ◌&&◌, ◌||◌, cond}
use Rattle.std.proofs.Common.{nat_le, nat_lt, bit_and, List, [], ◌∷◌, map, length, get_or, ap, sym}
use Rattle.std.proofs.Common.{◌∙◌, arith, leb-true, T}
use Rattle.std.proofs.lemmas.List.{get_or-map}
use Rattle.std.proofs.lemmas.Bool.{le-ltb, eqb-true, and_parts, cond_both, cond-true, cond-false}
use Rattle.std.proofs.lemmas.Float.{T_from_true}
use lib.Lanes.{pick_l}
use Rattle.aes_planes.proofs.Bits.ByteCases.{all_below, all_below_tells}

-- the numbers of sixteen lanes
abbrev pub lane_numbers : List ℕ
lane_numbers = 0 ∷ 1 ∷ 2 ∷ 3 ∷ 4 ∷ 5 ∷ 6 ∷ 7 ∷ 8 ∷ 9 ∷ 10 ∷ 11 ∷ 12 ∷ 13 ∷ 14 ∷ 15 ∷ []

-- for each lane the number of the one m lanes on, round the end
abbrev pub rotate_to : List ℕ → ℕ → List ℕ
rotate_to lanes m = map (λ j. bit_and ((j + m) % 256) 15) lanes

-- for each lane the number of the one m lanes on, and a number from 128 on where there is none
abbrev pub down_to : List ℕ → ℕ → List ℕ
down_to lanes m = map (λ j. bit_and ((j + (m + 112)) % 256) 143) lanes

-- for each lane the number of the one m lanes back, and a number from 128 on where there is none
abbrev pub up_to : List ℕ → ℕ → List ℕ
up_to lanes m = map (λ j. (j + (256 - m)) % 256) lanes

-- number k names lane i of sixteen, or makes zero where there is none
abbrev pub lane_or_zero : ℕ → ℕ → Bool
lane_or_zero k i = cond (nat_le 128 k) (nat_le 16 i) ((k == i) && nat_lt i 16)

-- what is read there, of the sixteen from lane o on
abbrev pub lane_from : List ℕ → ℕ → ℕ → ℕ
lane_from x o i = cond (nat_lt i 16) (get_or x (o + i) 0) 0

-- an index that passes the test picks the lane that is meant, or a zero
pub picked : (x : List ℕ) (k i o : ℕ) → lane_or_zero k i ≡ true
    → cond (nat_le 128 k) 0 (get_or x (o + k) 0) ≡ lane_from x o i
picked x k i o h = cond_both (nat_le 128 k) 0 (get_or x (o + k) 0) (λ v. v ≡ lane_from x o i)
    (λ t. let far : 16 ≤ i = leb-true 16 i (sym (cond-true _ _ _ t) ∙ h) in
    ap (λ b. cond b (get_or x (o + i) 0) 0) (sym (le-ltb i 16 far)))
    (λ t. let both = and_parts (k == i) (nat_lt i 16) (sym (cond-false _ _ _ t) ∙ h) in
    ap (λ v. get_or x (o + v) 0) (eqb-true k i both.0)
    ∙ ap (λ b. cond b (get_or x (o + i) 0) 0) (sym both.1))

-- lane i of what a swizzle reads is the lane that it names there
pub picked_at : (xs ks : List ℕ) (i o : ℕ) → i < length ks → (get_or ks i 0 == o) ≡ true
    → get_or (pick_l 0 xs ks) i 0 ≡ get_or xs o 0
picked_at xs ks i o h k = get_or-map (λ k. get_or xs k 0) ks i 0 0 h
    ∙ ap (λ v. get_or xs v 0) (eqb-true _ _ k)

-- a number that a swizzle may have at a lane of the sixteen from lane o on, of n lanes: that of one
-- that there is, or one from 128 on, which gives zero
abbrev pub place_ok : ℕ → ℕ → ℕ → Bool
place_ok n o k = nat_le 128 k || (nat_lt k 16 && nat_lt (o + k) n)

-- a number masked with 143 is one, if each byte is
pub masked_place : (n o : ℕ) → all_below 256 (λ v. place_ok n o (bit_and v 143)) ≡ true → (x : ℕ)
    → T (place_ok n o (bit_and (x % 256) 143))
masked_place n o right x =
    T_from_true _ (all_below_tells 256 (λ v. place_ok n o (bit_and v 143)) right (x % 256) (omega arith))
