-- Circuits of gates as lists, and the step from what they make of all 256 bytes to every place of
-- eight planes.
use Rattle.std.proofs.Common.{◌≡◌, ℕ, zero, suc, ◌+◌, ◌-◌, ◌*◌, ◌/◌, ◌^◌, ◌<◌, Bool, true, not}
use Rattle.std.proofs.Common.{◌&&◌, ◌==◌, List, [], ◌∷◌, length, map, get_or, bit_and, bit_xor}
use Rattle.std.proofs.Common.{refl, ap, sym, ◌∙◌, arith, inl, inr}
use Rattle.std.proofs.lemmas.Bool.{eqb-true, cases_lt}
use Rattle.std.proofs.lemmas.List.{length-map, get_or_past}
use Rattle.std.proofs.lemmas.Simd.{map-map}
use Rattle.aes_planes.specs.Bits.{at, bit, number, xor, IsShape}
use Rattle.aes_planes.specs.Planes.{held, held_byte}
use Rattle.aes_planes.proofs.Bits.BitCases.{same, same_tells, xor_true}
use Rattle.aes_planes.proofs.Bits.ByteCases.{all_below, all_below_tells, all_pairs_tell}
use Rattle.aes_planes.proofs.Bits.BytesByBits.{mapped_lt, mapped_bit}
use Rattle.aes_planes.proofs.Bits.NumberBits.{bit_zero, bit_ones, bit_of_and, bit_of_xor}
use Rattle.aes_planes.proofs.Planes.Held.{bytes_held}

infixr 10 ◌▸◌
-- a gate reads one or two of the bits so far, which are numbered from the newest
pub data Gate : Type 0 where
  Xor : ℕ → ℕ → Gate
  And : ℕ → ℕ → Gate
  Not : ℕ → Gate

-- the bit that a gate makes of the bits so far
abbrev pub gate : Gate → (ℕ → Bool) → Bool
gate (Xor a b) read = xor (read a) (read b)
gate (And a b) read = read a && read b
gate (Not a) read = not (read a)

-- ---- all 256 bytes at once: bit v of a number is what a place has where the byte there is v

-- the bits of every byte v: bit v of number p is bit p of v
abbrev pub all_bytes : List ℕ
all_bytes = map (λ p. (2 ^ 256 - 1) / (2 ^ 2 ^ p + 1) * 2 ^ 2 ^ p)
    (0 ∷ 1 ∷ 2 ∷ 3 ∷ 4 ∷ 5 ∷ 6 ∷ 7 ∷ [])

-- a gate on such numbers, for all bytes at once
gate_of_all : Gate → List ℕ → ℕ
gate_of_all (Xor a b) env = bit_xor (get_or env a 0) (get_or env b 0)
gate_of_all (And a b) env = bit_and (get_or env a 0) (get_or env b 0)
gate_of_all (Not a) env = bit_xor (get_or env a 0) (2 ^ 256 - 1)

-- what the gates leave at these places, from these numbers
unfoldable pub computed : List Gate → List ℕ → List ℕ → List ℕ
unfolding gate_of_all
computed [] places env = map (λ p. get_or env p 0) places
computed (g ∷ gs) places env = computed gs places (gate_of_all g env ∷ env)

-- whether numbers have the bits of f of v at v
unfoldable pub agrees : (ℕ → ℕ) → List ℕ → ℕ → Bool
agrees f outs v = number (map (λ x. bit x v) outs) == f v

-- a circuit makes f of every byte
pub record Computes (gates : List Gate) (places : List ℕ) (f : ℕ → ℕ) : Type 0 where
  -- the gates leave at v the bits of f of v
  pub makes : (v : ℕ) → v < 256
      → number (map (λ n. bit n v) (computed gates places all_bytes)) ≡ f v

-- a circuit makes f of every byte if it makes g of each of the 256, by a test, and g is f there
pub computes_by_test : (gates : List Gate) (places : List ℕ) (f g : ℕ → ℕ)
    → all_below 256 (agrees g (computed gates places all_bytes)) ≡ true
    → ((v : ℕ) → v < 256 → g v ≡ f v)
    → Computes gates places f
unfolding agrees
computes_by_test gates places f g test same = record {
  makes = λ v h. eqb-true _ _
      (all_below_tells 256 (agrees g (computed gates places all_bytes)) test v h) ∙ same v h;
}

-- bit v of what it makes is the gate's bit for the byte v
gate_at : (g : Gate) (env : List ℕ) (v : ℕ) → v < 256
    → gate g (λ p. bit (get_or env p 0) v) ≡ bit (gate_of_all g env) v
unfolding gate_of_all
gate_at (Xor a b) env v h = sym (bit_of_xor (get_or env a 0) (get_or env b 0) v)
gate_at (And a b) env v h = sym (bit_of_and (get_or env a 0) (get_or env b 0) v)
gate_at (Not a) env v h = sym (bit_of_xor (get_or env a 0) (2 ^ 256 - 1) v
    ∙ ap (xor (bit (get_or env a 0) v)) (bit_ones 256 v h) ∙ xor_true (bit (get_or env a 0) v))

-- ---- on planes

-- the bits of planes at a place
abbrev pub bits_at : List (List Bool) → ℕ → List Bool
bits_at planes i = map (λ w. at w i) planes

-- the results come by these gates from these planes of w bits: one step a gate, as the contract of
-- a word's call has it
pub data Runs (w : ℕ) : List Gate → List ℕ → List (List Bool) → List (List Bool) → Type 0 where
  done : {places : List ℕ} {env results : List (List Bool)}
      → ((i : ℕ) → bits_at results i ≡ map (λ p. at (get_or env p []) i) places)
      → Runs w [] places env results
  ◌▸◌ : {g : Gate} {gs : List Gate} {places : List ℕ} {env results : List (List Bool)}
      {x : List Bool}
      → ((i : ℕ) → i < w → at x i ≡ gate g (λ p. at (get_or env p []) i))
      → Runs w gs places (x ∷ env) results
      → Runs w (g ∷ gs) places env results

-- numbers stand for planes at place i, where the byte is v
abbrev Stands : List ℕ → List (List Bool) → ℕ → ℕ → Type 0
Stands ns env i v = (p : ℕ) → at (get_or env p []) i ≡ bit (get_or ns p 0) v

-- one wire more stands there, in front of the others
one_more : (n : ℕ) (ns : List ℕ) (x : List Bool) (env : List (List Bool)) (i v : ℕ)
    → at x i ≡ bit n v
    → Stands ns env i v → Stands (n ∷ ns) (x ∷ env) i v
one_more n ns x env i v e s zero = e
one_more n ns x env i v e s (suc p) = s p

-- a run of a circuit has at place i what the test computed for the byte there
run_at : {w : ℕ} {gs : List Gate} {places : List ℕ} {env results : List (List Bool)}
    → Runs w gs places env results
    → (ns : List ℕ) (i v : ℕ) → i < w → v < 256 → Stands ns env i v
    → bits_at results i ≡ map (λ n. bit n v) (computed gs places ns)
unfolding computed
run_at (done {places = places} e) ns i v h k s =
    e i ∙ (λ t. map (λ p. s p t) places) ∙ sym (map-map (λ n. bit n v) (λ p. get_or ns p 0) places)
run_at (◌▸◌ {g = g} {env = env} {x = x} e r) ns i v h k s =
    run_at r (gate_of_all g ns ∷ ns) i v h k
    (one_more _ ns x env i v (e i h ∙ (λ t. gate g (λ p. s p t)) ∙ gate_at g ns v k) s)

-- at first the bits of every byte stand for eight planes
at_first : (planes : List (List Bool)) (i : ℕ) → length planes ≡ 8
    → Stands all_bytes planes i (held_byte planes i)
unfolding all_below bit same
at_first planes i l p = elim (cases_lt p 8) [
  | inl lt ↦ sym (mapped_bit (λ w. at w i) planes [] p (omega arith))
      ∙ sym (same_tells _ _ (all_pairs_tell 256 8
      (λ v p. same (bit (get_or all_bytes p 0) v) (bit v p)) refl _ p
      (mapped_lt (λ w. at w i) planes l) lt))
  | inr le ↦ ap (λ w. at w i) (get_or_past planes p [] (omega arith))
      ∙ sym (ap (λ n. bit n (held_byte planes i)) (get_or_past all_bytes p 0 le)
      ∙ bit_zero (held_byte planes i))
]

-- words made by the gates of a circuit for f, from eight old ones, hold f of each byte of the old
-- blocks
pub circuit_held : {A : Type 0} {bits : A → List Bool} {n B R H Q N S : ℕ} {gates : List Gate}
    {places : List ℕ}
    {f : ℕ → ℕ} {xs ys : List A} {new : List (List Bool)} → IsShape bits n B R H Q N S
    → Computes gates places f
    → xs ≡ ys → length ys ≡ 8 → Runs B gates places (map bits ys) new
    → held n new ≡ map (map f) (held n (map bits xs))
circuit_held {bits = bits} {n = n} {gates = gates} {places = places} {f = f}
    {ys = ys} shape claim same l ran =
    let old = map bits ys in
    let eight : length old ≡ 8 = simp length-map l in
    bytes_held f n _ _ (λ i h.
    let v = held_byte old i in
    let k : v < 256 = mapped_lt (λ w. at w i) old eight in
    ap number (run_at ran all_bytes i v (omega (arith, shape.sixteen)) k (at_first old i eight))
    ∙ claim.makes v k)
    ∙ ap (λ ys. map (map f) (held n (map bits ys))) (sym same)
