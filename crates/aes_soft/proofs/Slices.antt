-- Slices that are copied element by element, and worked batch by batch.
use Rattle.std.proofs.Common.{◌≡◌, ℕ, ◌+◌, ◌-◌, ◌*◌, ◌/◌, ◌%◌, ◌<◌, ◌≤◌, List, ◌++◌, length, map}
use Rattle.std.proofs.Common.{take, drop, refl, sym, ap, subst, ◌∙◌, arith}
use Rattle.std.proofs.Math.Nat.{add-div_right, mod-eq-sub-mod}
use Rattle.std.proofs.lemmas.List.{length-map}
use borrow.Rule.Slice.PartMut.{put_mid, same_len_mid}
use Rattle.aes_cipher.proofs.SliceRuns.{finished, finished_run}

-- one batch of s fits, if whole batches are left, and not none
pub one_fits : (m s : ℕ) → 0 < m → m % s ≡ 0 → s ≤ m
one_fits m s some e = grind (arith, some, e)

-- what is left after one batch of s more is whole batches still
whole_left : (m s : ℕ) → s ≤ m → m % s ≡ 0 → (m - s) % s ≡ 0
whole_left m s le e = sym (mod-eq-sub-mod le) ∙ e

-- the rounds that are left, of r a batch, after one batch of s more
pub one_batch_less : (r m s : ℕ) → 0 < s → s ≤ m → r * (m / s) ≡ r + r * ((m - s) / s)
one_batch_less r m s some le =
    let same : m - s + s ≡ m = omega arith in
    let e : m / s ≡ (m - s) / s + 1 = ap (λ v. v / s) (sym same) ∙ add-div_right (m - s) some in
    ap (λ v. r * v) e ∙ grind arith

-- a loop that applies f to each element of a list, some at a time, and has come to the place `done`
pub record Worked {X : Type 0} (f : X → X) (done : ℕ) (old now : List X) : Type 0 where
  pub within : done ≤ length now
  pub same : length now ≡ length old
  pub value : finished f done now ≡ map f old

-- the loop comes n places further: f of each of n more elements stands in its place
pub next_run : {X : Type 0} (f : X → X) (done n k : ℕ) (old now ys : List X)
    → Worked f done old now → k ≡ n → done + n ≤ length now
    → ys ≡ map f (take k (drop done now)) → Worked f (done + n) old (put_mid done k now ys)
next_run f done n k old now ys b e fits is =
    let sized : length (put_mid done k now ys) ≡ length now =
    same_len_mid done k now ys (ap length is ∙ length-map (take k (drop done now)) f) in
    record {
      within = omega (arith, sized, fits);
      same = sized ∙ b.same;
      value = finished_run f done n k now ys e fits is ∙ b.value;
    }

-- such a loop by batches of `size`, when whole batches are left
pub record Batched {X : Type 0} (f : X → X) (size done : ℕ) (old now : List X) : Type 0 where
  pub some : 0 < size
  pub worked : Worked f done old now
  pub whole : (length now - done) % size ≡ 0

-- one more whole batch is replaced by f of each of its elements, and the loop has come that much
-- further
pub next_batch : {X : Type 0} (f : X → X) (size done k : ℕ) (old now ys : List X)
    → Batched f size done old now
    → done < length now → k ≡ size → ys ≡ map f (take k (drop done now))
    → Batched f size (done + size) old (put_mid done k now ys)
next_batch f size done k old now ys b some same is =
    let fits = one_fits (length now - done) size (omega arith) b.whole in
    let next = next_run f done size k old now ys b.worked same (omega (arith, fits, some)) is in
    let left : length (put_mid done k now ys) - (done + size) ≡ length now - done - size =
    omega (arith, next.same, b.worked.same) in
    record {
      some = b.some;
      worked = next;
      whole = ap (λ v. v % size) left ∙ whole_left (length now - done) size fits b.whole;
    }

-- once f of the first n elements is written in their places, the loop leaves f of every element in
-- the end
pub front_finished : {X : Type 0} (f : X → X) (n : ℕ) (xs ys : List X) → n ≤ length xs
    → ys ≡ map f (take n xs)
    → finished f n (ys ++ drop n xs) ≡ map f xs
front_finished f n xs ys le is =
    let e : 0 + n ≡ n = omega arith in
    subst (λ k. finished f k (ys ++ drop n xs) ≡ map f xs) e
    (finished_run f 0 n n xs ys refl (omega arith) is)

-- f of no elements: all are left to finish
pub none_finished : {X : Type 0} (f : X → X) (n : ℕ) (xs : List X) → n ≡ 0
    → finished f n xs ≡ map f xs
none_finished f n xs e = ap (λ k. finished f k xs) e
