-- How long a list is that is built of a function, and the shape of words whose bits are built: the
-- one proof among the definitions, since the law of an implementation may cite no file of proofs of
-- its own crate.
use Rattle.std.proofs.Common.{◌≡◌, ℕ, zero, suc, ◌+◌, ◌*◌, ◌≤◌, Bool, length, refl, ap}
use Rattle.aes_planes.specs.Bits.{IsShape}
use Rattle.aes_planes.specs.Fips197.{build, build_from}

-- how long a list is that is built from any start, by recursion
length-build_from : {A : Type 0} (a n : ℕ) (f : ℕ → A) → length (build_from a n f) ≡ n
unfolding build_from
length-build_from a zero f = refl
length-build_from a (suc n) f = ap suc (length-build_from (a + 1) n f)

-- how long a list is that is built of a function
pub length-build : {A : Type 0} (n : ℕ) (f : ℕ → A) → length (build n f) ≡ n
unfolding build
length-build n f = length-build_from 0 n f

-- words of sixteen bits for each of n blocks
pub built_shape : {A : Type 0} (f : A → ℕ → Bool) (n size : ℕ) → 1 ≤ n → n ≤ 16 → size ≤ 32
    → IsShape (λ x. build (16 * n) (f x)) n (16 * n) (4 * n) (2 * n) n n size
built_shape f n size some few fits = record {
  sized = λ x. length-build (16 * n) (f x);
  some_block = some;
  few_blocks = few;
  sixteen = refl;
  four = refl;
  two = refl;
  one = refl;
  as_many = refl;
  small = fits;
}
