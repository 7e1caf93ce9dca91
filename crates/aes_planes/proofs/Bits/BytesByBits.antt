-- Bytes by their bits, through sums and doubling.
use Rattle.std.proofs.Common.{◌≡◌, ℕ, ◌^◌, ◌<◌, ◌==◌, Bool, false, List, [], ◌∷◌, length}
use Rattle.std.proofs.Common.{get_or, map, refl, sym, ◌∙◌, arith, subst}
use Rattle.std.proofs.lemmas.Bool.{eqb-true}
use Rattle.std.proofs.lemmas.List.{get_or-map, length-map}
use Rattle.std.proofs.lemmas.Nat.{xor_lt}
use Rattle.aes_planes.specs.Bits.{at, bit, xor, number}
use Rattle.aes_planes.specs.Fips197.{field_add, field_mul}
use Rattle.aes_planes.proofs.Bits.BitCases.{all_bools, all_bools_tells}
use Rattle.aes_planes.proofs.Bits.NumberBits.{number_below, number_of_bits, bit_of_number}
use Rattle.aes_planes.proofs.Bits.NumberBits.{bit_of_xor}

-- the number of n bits is below 2 ^ n
number_lt : (n : ℕ) (bs : List Bool) → length bs ≡ n → number bs < 2 ^ n
number_lt n bs e = subst (λ (v : ℕ). number bs < 2 ^ v) e (number_below bs)

-- bytes with the same bits are the same
pub same_byte : (x y : ℕ) → x < 256 → y < 256 → ((p : ℕ) → p < 8 → bit x p ≡ bit y p) → x ≡ y
same_byte x y h k e =
    sym (number_of_bits x h)
    ∙ (λ t. number (e 0 (omega arith) t ∷ e 1 (omega arith) t ∷ e 2 (omega arith) t
    ∷ e 3 (omega arith) t
    ∷ e 4 (omega arith) t ∷ e 5 (omega arith) t ∷ e 6 (omega arith) t ∷ e 7 (omega arith) t ∷ []))
    ∙ number_of_bits y k

-- ---- a bit of each of eight elements

-- eight bits make a byte
pub mapped_lt : {A : Type 0} (f : A → Bool) (xs : List A) → length xs ≡ 8 → number (map f xs) < 256
mapped_lt f xs l = number_lt 8 (map f xs) (simp length-map l)

-- bit p of the byte that eight bits make is that of element p
pub mapped_bit : {A : Type 0} (f : A → Bool) (xs : List A) (d : A) (p : ℕ) → p < length xs
    → bit (number (map f xs)) p ≡ f (get_or xs p d)
mapped_bit f xs d p h = bit_of_number (map f xs) p ∙ get_or-map f xs p d false h

-- eight elements make the byte whose bits they have
pub mapped_is : {A : Type 0} (f : A → Bool) (xs : List A) (d : A) (x : ℕ) → length xs ≡ 8 → x < 256
    → ((p : ℕ) → p < 8 → f (get_or xs p d) ≡ bit x p) → number (map f xs) ≡ x
mapped_is f xs d x l h e =
    same_byte _ x (mapped_lt f xs l) h (λ p k. mapped_bit f xs d p (omega (arith, l)) ∙ e p k)

-- the sum of two bytes where each bit is the sum of theirs
pub mapped_sum : {A B C : Type 0} (f : A → Bool) (g : B → Bool) (h : C → Bool) (zs : List A)
    (xs : List B) (ys : List C)
    (a : A) (b : B) (c : C) → length zs ≡ 8 → length xs ≡ 8 → length ys ≡ 8
    → ((p : ℕ) → p < 8 → f (get_or zs p a) ≡ xor (g (get_or xs p b)) (h (get_or ys p c)))
    → number (map f zs) ≡ field_add (number (map g xs)) (number (map h ys))
mapped_sum f g h zs xs ys a b c l m n e =
    mapped_is f zs a _ l (xor_lt 8 _ _ (mapped_lt g xs m) (mapped_lt h ys n)) (λ p k. e p k
    ∙ sym (bit_of_xor _ _ p ∙ (λ t. xor (mapped_bit g xs b p (omega (arith, m)) t)
    (mapped_bit h ys c p (omega (arith, n)) t))))

-- the double of a byte, bit by bit
abbrev pub double_bits : List Bool → List Bool
double_bits b =
    at b 7 ∷ xor (at b 0) (at b 7) ∷ at b 1 ∷ xor (at b 2) (at b 7) ∷ xor (at b 3) (at b 7) ∷ at b 4
    ∷ at b 5 ∷ at b 6
    ∷ []

-- the double of a byte, given by its bits, is the number of the doubled bits
pub number-double : (b : List Bool) → length b ≡ 8 → number (double_bits b) ≡ field_mul 2 (number b)
unfolding all_bools field_mul
number-double b e =
    eqb-true _ _ (all_bools_tells 8
    (λ b. number (double_bits b) == field_mul 2 (number b)) refl b e)
