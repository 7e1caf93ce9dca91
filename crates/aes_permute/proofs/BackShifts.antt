-- InvShiftRows that are left out: as ShiftRows, and those of round keys.
use Rattle.std.proofs.Common.{◌≡◌, ℕ, zero, suc, ◌+◌, ◌-◌, ◌%◌, ◌<◌, ◌≤◌}
use Rattle.std.proofs.Common.{List, length, map, refl, ap}
use Rattle.std.proofs.Common.{◌∙◌, arith}
use Rattle.std.proofs.lemmas.List.{length-map}
use Rattle.aes_planes.specs.Fips197.{build, state}
use Rattle.aes_planes.specs.Fips197.{shift_rows}
use Rattle.aes_planes.specs.Fips197.{shift_times, inv_shift_rows, inv_shift_times}
use Rattle.aes_planes.proofs.Bits.ByteCases.{by_four}
use Rattle.aes_planes.proofs.Lists.{same_on_block}
use Rattle.aes_planes.proofs.Standard.Steps.{length-inv_shift_rows}
use Rattle.aes_permute.specs.MixedRows.{permuted, places_in}
use Rattle.aes_permute.specs.declared.tables.TheConstants.{SHIFTED_ROWS}
use Rattle.aes_permute.proofs.DeferredRows.{before}
use Rattle.aes_permute.proofs.DeferredRows.{shifted_is, times_map}

-- any number of InvShiftRows leave sixteen bytes
pub length-inv_shift_times : (k : ℕ) (s : List ℕ) → length s ≡ 16 → length (inv_shift_times k s) ≡ 16
unfolding inv_shift_times
length-inv_shift_times zero s l = l
length-inv_shift_times (suc k) s l = length-inv_shift_rows (inv_shift_times k s)

-- a change of each byte and one InvShiftRows can be exchanged
inv_shift_map : (f : ℕ → ℕ) (s : List ℕ) → length s ≡ 16
    → map f (inv_shift_rows s) ≡ inv_shift_rows (map f s)
unfolding build state inv_shift_rows
inv_shift_map f = same_on_block (λ s. map f (inv_shift_rows s)) (λ s. inv_shift_rows (map f s)) (λ g. refl)

-- a change of each byte and any number of InvShiftRows can be exchanged
pub inv_times_map : (f : ℕ → ℕ) (k : ℕ) (s : List ℕ) → length s ≡ 16
    → map f (inv_shift_times k s) ≡ inv_shift_times k (map f s)
unfolding inv_shift_times
inv_times_map f zero s l = refl
inv_times_map f (suc k) s l =
    inv_shift_map f (inv_shift_times k s) (length-inv_shift_times k s l)
    ∙ ap inv_shift_rows (inv_times_map f k s l)

-- some ShiftRows are the others of four shifts back
pub others_back : (k : ℕ) → k < 4 → (x : List ℕ) → length x ≡ 16
    → shift_times ((4 - k) % 4) x ≡ inv_shift_times k x
unfolding build state shift_rows shift_times inv_shift_rows inv_shift_times
others_back = by_four (λ k. (x : List ℕ) → length x ≡ 16
    → shift_times ((4 - k) % 4) x ≡ inv_shift_times k x)
    (same_on_block (shift_times 0) (inv_shift_times 0) (λ f. refl))
    (same_on_block (shift_times 3) (inv_shift_times 1) (λ f. refl))
    (same_on_block (shift_times 2) (inv_shift_times 2) (λ f. refl))
    (same_on_block (shift_times 1) (inv_shift_times 3) (λ f. refl))

-- one InvShiftRows after those before it: as many as after it
pub shifted_back_on : (k : ℕ) → k < 4 → (x : List ℕ) → length x ≡ 16
    → inv_shift_times k x ≡ inv_shift_rows (inv_shift_times (before k) x)
unfolding build state inv_shift_rows inv_shift_times
shifted_back_on = by_four (λ k. (x : List ℕ) → length x ≡ 16
    → inv_shift_times k x ≡ inv_shift_rows (inv_shift_times (before k) x))
    (same_on_block (inv_shift_times 0) (λ x. inv_shift_rows (inv_shift_times 3 x)) (λ f. refl))
    (same_on_block (inv_shift_times 1) (λ x. inv_shift_rows (inv_shift_times 0 x)) (λ f. refl))
    (same_on_block (inv_shift_times 2) (λ x. inv_shift_rows (inv_shift_times 1 x)) (λ f. refl))
    (same_on_block (inv_shift_times 3) (λ x. inv_shift_rows (inv_shift_times 2 x)) (λ f. refl))

-- a places back of the shifts that a places forth and b more are: b are left
abbrev Between : ℕ → ℕ → Type 0
Between a b = (x : List ℕ) → length x ≡ 16
    → inv_shift_times a (shift_times ((a + b) % 4) x) ≡ shift_times b x

-- `Between` of blocks that are built of a function, for each number of places back and forth
between_on_lanes : (a b : ℕ) → a < 4 → b < 4 → (f : ℕ → ℕ)
    → inv_shift_times a (shift_times ((a + b) % 4) (build 16 f)) ≡ shift_times b (build 16 f)
unfolding build state shift_rows shift_times inv_shift_rows inv_shift_times
between_on_lanes a b few small f =
    let Left : ℕ → ℕ → Type 0 = λ a b. inv_shift_times a (shift_times ((a + b) % 4) (build 16 f))
    ≡ shift_times b (build 16 f) in
    by_four (λ a. Left a b) (by_four (Left 0) refl refl refl refl b small)
    (by_four (Left 1) refl refl refl refl b small) (by_four (Left 2) refl refl refl refl b small)
    (by_four (Left 3) refl refl refl refl b small) a few

-- `Between` of any numbers of places
between : (a b : ℕ) → a < 4 → b < 4 → Between a b
between a b few small = same_on_block (λ x. inv_shift_times a (shift_times ((a + b) % 4) x))
    (shift_times b) (between_on_lanes a b few small)

-- a block that is shifted as often as `last`, with the rows shifted back as those at a place, has
-- them as those counted from the last
pub moved_between : (place last : ℕ) (f : ℕ → ℕ) (x : List ℕ) {y : List ℕ} → place ≤ last
    → length x ≡ 16 → y ≡ permuted x (places_in SHIFTED_ROWS (last % 4))
    → inv_shift_times (place % 4) (map f y) ≡ shift_times ((last - place) % 4) (map f x)
moved_between place last f x inside long e =
    let a : ℕ = place % 4 in
    let b : ℕ = (last - place) % 4 in
    let all : last % 4 ≡ (a + b) % 4 = omega (arith, inside) in
    ap (λ v. inv_shift_times a (map f v))
    (e ∙ shifted_is (last % 4) (omega arith) x long ∙ ap (λ n. shift_times n x) all)
    ∙ ap (inv_shift_times a) (times_map f ((a + b) % 4) x long)
    ∙ between a b (omega arith) (omega arith) (map f x) (length-map x f ∙ long)
