-- A round constant: one bit of it, in one plane, and all of it.
use Rattle.std.proofs.Common.{◌≡◌, ℕ, ◌*◌, ◌/◌, ◌%◌, ◌^◌, ◌<◌, ◌==◌, ◌&&◌, cond, Bool, true, false}
use Rattle.std.proofs.Common.{List, [], ◌∷◌, set, length, get_or, map, refl, ap, sym, ◌∙◌, arith}
use Rattle.std.proofs.Math.Bool.{and-true, and-false}
use Rattle.std.proofs.lemmas.Bool.{eqb-true, cond_both}
use Rattle.std.proofs.lemmas.List.{map-set, get_or-map, length-map}
use Rattle.aes_planes.specs.Bits.{at, xor, bit, number, IsShape}
use Rattle.aes_planes.specs.Fips197.{field_add, add_round_key}
use Rattle.aes_planes.specs.Planes.{held, held_byte, place, constant_block}
use Rattle.aes_planes.proofs.Standard.States.{byte_at-state, state_same}
use Rattle.aes_planes.proofs.Bits.BitCases.{all_bools, all_bools_tells, same, same_tells}
use Rattle.aes_planes.proofs.Bits.ByteCases.{all_below, all_below_tells, all_pairs, all_pairs_tell}
use Rattle.aes_planes.proofs.Bits.NumberBits.{bit_zero}
use Rattle.aes_planes.proofs.Planes.Held.{build-ext, map-build, place_lt, held_is}
use Rattle.aes_planes.proofs.Shifts.ColumnSwaps.{row_mask}

-- bit b flipped where the first bit says so
flips : ℕ → List Bool → Bool
flips b [] = true
flips b (f ∷ bs) = number (set bs b (xor (at bs b) f)) == field_add (number bs) (cond f (2 ^ b) 0)

-- a flip of bit b where f says so adds 2 ^ b, by all cases
flip_tells : (b : ℕ) (bs : List Bool) (f : Bool) → b < 8 → length bs ≡ 8
    → number (set bs b (xor (at bs b) f)) ≡ field_add (number bs) (cond f (2 ^ b) 0)
unfolding all_below all_bools flips
flip_tells b bs f h l = eqb-true _ _
    (all_bools_tells 9 (flips b) (all_below_tells 8 (λ b. all_bools 9 (flips b)) refl b h) (f ∷ bs)
    (omega arith))

-- a nibble for each row that is 8 v in row 1 and 0 elsewhere has bit v in row 1 and column 3 alone
pub nibble_is : (v r c : ℕ) → v < 2 → r < 4 → c < 4
    → bit (get_or (0 ∷ 8 * v ∷ 0 ∷ 0 ∷ []) r 0) c ≡ ((v == 1) && ((r == 1) && (c == 3)))
unfolding all_below same bit
nibble_is v r c h i j =
    let test = λ (v r c : ℕ). same (bit (get_or (0 ∷ 8 * v ∷ 0 ∷ 0 ∷ []) r 0) c)
    ((v == 1) && ((r == 1) && (c == 3))) in
    same_tells _ _ (all_pairs_tell 4 4 (test v)
    (all_below_tells 2 (λ v. all_pairs 4 4 (test v)) refl v h) r c i j)

-- what words hold plus a constant in every block
added_at : (n x : ℕ) (new old : List (List Bool)) → ((r c k : ℕ) → r < 4 → c < 4 → k < n
    → held_byte new (place n r c k) ≡ field_add (held_byte old (place n r c k))
    (cond ((r == 1) && (c == 3)) x 0))
    → held n new ≡ map (λ s. add_round_key s (constant_block x)) (held n old)
unfolding held add_round_key constant_block
added_at n x new old sums =
    build-ext n _ _ (λ k l. state_same _ _ (λ r c i j. sums r c k i j l
    ∙ (λ t. field_add (sym (byte_at-state (λ r c. held_byte old (place n r c k)) r c i j) t)
    (sym (byte_at-state (λ r c. cond ((r == 1) && (c == 3)) x 0) r c i j) t))))
    ∙ sym (map-build _ n _)

-- planes that are summed with planes of x in row 1 of column 3 hold the old blocks with x added
-- there
pub constant_added : (n B x : ℕ) (new old constants : List (List Bool)) → B ≡ 16 * n
    → ((i : ℕ) → i < B → held_byte new i ≡ field_add (held_byte old i) (held_byte constants i))
    → ((r c k : ℕ) → r < 4 → c < 4 → k < n
    → held_byte constants (place n r c k) ≡ cond ((r == 1) && (c == 3)) x 0)
    → held n new ≡ map (λ s. add_round_key s (constant_block x)) (held n old)
constant_added n B x new old constants eB sums here =
    added_at n x new old (λ r c k i j l.
    let p = place n r c k in
    sums p (omega (arith, eB, place_lt n r c k i j l))
    ∙ ap (field_add (held_byte old p)) (here r c k i j l))

-- eight words of which one has its bits of row 1 and column 3 flipped
pub constant_bit_held : {A : Type 0} {bits : A → List Bool} {n B R H Q N S : ℕ}
    (shape : IsShape bits n B R H Q N S) (b : ℕ)
    (xs : List A) (v d : A) (mask : List Bool) → b < 8 → length xs ≡ 8
    → ((i : ℕ) → i < B → at (bits v) i ≡ xor (at (bits (get_or xs b d)) i) (at mask i))
    → ((i : ℕ) → i < B → at mask i ≡ bit (get_or (0 ∷ 8 ∷ 0 ∷ 0 ∷ []) (i / R) 0) (i % R / Q))
    → held n (map bits (set xs b v)) ≡ map (λ s. add_round_key s (constant_block (2 ^ b)))
    (held n (map bits xs))
constant_bit_held {bits = bits} {n = n} shape b xs v d mask hb len hv hm =
    added_at n (2 ^ b) _ _ (λ r c k i j l.
    let p = place n r c k in
    let look = λ (w : List Bool). at w p in
    let bs = map look (map bits xs) in
    let flag = row_mask shape r c k (0 ∷ 8 ∷ 0 ∷ 0 ∷ []) mask i j l hm
    ∙ nibble_is 1 r c (omega arith) i j in
    ap (λ ws. held_byte ws p) (map-set bits xs b v)
    ∙ ap number (map-set look (map bits xs) b (bits v))
    ∙ ap (λ u. number (set bs b u)) (hv p (omega (arith, shape.sixteen, place_lt n r c k i j l))
    ∙ (λ t. xor (sym (get_or-map look (map bits xs) b (bits d) false
    (omega (arith, length-map xs bits))
    ∙ ap look (get_or-map bits xs b d (bits d) (omega arith))) t) (flag t)))
    ∙ flip_tells b bs ((r == 1) && (c == 3)) hb (simp length-map len))

-- ---- all of its bits

-- a number that is there or not, bit by bit
bit_flagged : (x m : ℕ) (f : Bool) → bit (cond f x 0) m ≡ (bit x m && f)
bit_flagged x m true = sym (and-true (bit x m))
bit_flagged x m false = bit_zero m ∙ sym (and-false (bit x m))

-- eight words that have a byte's bits at a place where a flag says so
pub flagged_byte : {A : Type 0} (bits : A → List Bool) (xs : List A) (d : A) (x i : ℕ)
    (f : Bool) → x < 256
    → length xs ≡ 8 → ((m : ℕ) → m < 8 → at (bits (get_or xs m d)) i ≡ (bit x m && f))
    → held_byte (map bits xs) i ≡ cond f x 0
flagged_byte bits xs d x i f hx l h =
    held_is bits xs d i _ l (cond_both f x 0 (λ v. v < 256) (λ t. hx) (λ t. omega arith))
    (λ m k. h m k ∙ sym (bit_flagged x m f))
