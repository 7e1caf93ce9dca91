-- A state by its bytes, and lists of bytes.
use Rattle.std.proofs.Common.{◌≡◌, ℕ, zero, suc, ◌+◌, ◌*◌, ◌/◌, ◌%◌, ◌<◌, nat_lt, true, List, []}
use Rattle.std.proofs.Common.{◌∷◌, length, get_or, slice_index_or, take, drop, ◌++◌, refl, ap, sym}
use Rattle.std.proofs.Common.{◌∙◌, arith}
use Rattle.std.proofs.lemmas.Bool.{and_parts, ltb-true}
use Rattle.std.proofs.lemmas.List.{get_or-drop}
use Rattle.std.proofs.Math.Nat.{mod-lt}
use Rattle.std.specs.List.{list_all}
use Rattle.aes_planes.specs.Fips197.{byte_at, state, IsBytes, IsBlock}
use Rattle.aes_planes.proofs.Lists.{get_or-build, build_is, build_each}

-- a state has sixteen bytes
pub length-state : (f : ℕ → ℕ → ℕ) → length (state f) ≡ 16
unfolding state
length-state f = refl

-- a state that is built of f has the byte f r c in row r and column c
pub byte_at-state : (f : ℕ → ℕ → ℕ) (r c : ℕ) → r < 4 → c < 4 → byte_at (state f) r c ≡ f r c
unfolding state
byte_at-state f r c h k =
    let p : (r + 4 * c) % 4 ≡ r = omega (arith, h) in
    let q : (r + 4 * c) / 4 ≡ c = omega (arith, h) in
    get_or-build 16 (r + 4 * c) (λ i. f (i % 4) (i / 4)) 0 (omega arith) ∙ (λ i. f (p i) (q i))

-- a block is the state of its bytes
pub state_is : (f : ℕ → ℕ → ℕ) (s : List ℕ) → length s ≡ 16
    → ((r c : ℕ) → r < 4 → c < 4 → f r c ≡ byte_at s r c)
    → state f ≡ s
unfolding state
state_is f s l h = build_is 16 (λ i. f (i % 4) (i / 4)) s 0 l
    (λ i lt. h (i % 4) (i / 4) (mod-lt i (omega arith)) (omega arith)
    ∙ (let e : i % 4 + 4 * (i / 4) ≡ i = omega arith in ap (λ v. get_or s v 0) e))

-- states with the same bytes are the same
pub state_same : (f g : ℕ → ℕ → ℕ) → ((r c : ℕ) → r < 4 → c < 4 → f r c ≡ g r c) → state f ≡ state g
state_same f g h =
    state_is f (state g) (length-state g) (λ r c p q. h r c p q ∙ sym (byte_at-state g r c p q))

-- a state of bytes is a list of bytes
pub state_bytes : (f : ℕ → ℕ → ℕ) → ((r c : ℕ) → f r c < 256) → IsBytes (state f)
unfolding state
state_bytes f h =
    build_each (λ x. x < 256) 0 (omega arith) 16 (λ i. f (i % 4) (i / 4)) (λ i. h (i % 4) (i / 4))

-- a state of bytes is a block
pub state_block : (f : ℕ → ℕ → ℕ) → ((r c : ℕ) → f r c < 256) → IsBlock (state f)
state_block f h = (length-state f, state_bytes f h)

-- lists of bytes in each place
abbrev pub RowsBytes : List (List ℕ) → Type 0
RowsBytes m = (i : ℕ) → IsBytes (slice_index_or m i [])

-- a list whose numbers all pass the test for a byte is a list of bytes
pub bytes_by_test : (s : List ℕ) → list_all (λ x. nat_lt x 256) s ≡ true → IsBytes s
bytes_by_test [] h i = omega arith
bytes_by_test (x ∷ s) h zero =
    ltb-true x 256 (and_parts (nat_lt x 256) (list_all (λ x. nat_lt x 256) s) h).0
bytes_by_test (x ∷ s) h (suc i) =
    bytes_by_test s (and_parts (nat_lt x 256) (list_all (λ x. nat_lt x 256) s) h).1 i

-- the first n of a list of bytes are bytes
pub take_bytes : (n : ℕ) (s : List ℕ) → IsBytes s → IsBytes (take n s)
take_bytes zero s h i = omega arith
take_bytes (suc n) [] h i = omega arith
take_bytes (suc n) (x ∷ s) h zero = h 0
take_bytes (suc n) (x ∷ s) h (suc i) = take_bytes n s (λ j. h (suc j)) i

-- what is left of a list of bytes without the first n are bytes
pub drop_bytes : (n : ℕ) (s : List ℕ) → IsBytes s → IsBytes (drop n s)
drop_bytes n s h i = omega (arith, get_or-drop n s i 0, h (n + i))

-- two lists of bytes, one after the other, are a list of bytes
pub append_bytes : (s t : List ℕ) → IsBytes s → IsBytes t → IsBytes (s ++ t)
append_bytes [] t h k i = k i
append_bytes (x ∷ s) t h k zero = h 0
append_bytes (x ∷ s) t h k (suc i) = append_bytes s t (λ j. h (suc j)) k i

-- a matrix whose numbers all pass the test for a byte has rows of bytes
pub rows_by_test : (m : List (List ℕ)) → list_all (list_all (λ x. nat_lt x 256)) m ≡ true
    → RowsBytes m
rows_by_test [] h r = λ i. omega arith
rows_by_test (row ∷ m) h zero =
    bytes_by_test row (and_parts (list_all (λ x. nat_lt x 256) row)
    (list_all (list_all (λ x. nat_lt x 256)) m) h).0
rows_by_test (row ∷ m) h (suc r) =
    rows_by_test m (and_parts (list_all (λ x. nat_lt x 256) row)
    (list_all (list_all (λ x. nat_lt x 256)) m) h).1 r
