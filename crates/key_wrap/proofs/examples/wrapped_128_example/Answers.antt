-- The wrapped key by the twelve steps of W, each by the block that it encrypts.
use Rattle.std.proofs.Common.{◌≡◌, ℕ, suc, List, [], ◌∷◌, ◌++◌, ◌∙◌, ap, drop, refl, take}
use Rattle.aes_planes.specs.BigEndian.{bytes}
use Rattle.aes_planes.specs.Fips197.{cipher_with, key_expansion}
use Rattle.key_wrap.specs.KeyWrap.{integrity_check, number_added, wrap_step, wrapped, wrapped_after}
use Rattle.key_wrap.proofs.examples.wrapped_128_example.Goals as goal

-- the round keys of the example
abbrev w : List (List ℕ)
w = key_expansion (bytes 16 0x000102030405060708090a0b0c0d0e0f)

-- what W begins with: the integrity check, and the two semiblocks of the key
abbrev begun : List (List ℕ)
begun = integrity_check ∷ bytes 8 0x0011223344556677 ∷ bytes 8 0x8899aabbccddeeff ∷ []

-- one step of W follows from the cipher of its block
step : {a r next b : List ℕ} (t : ℕ) → wrapped_after w begun t ≡ a ∷ r ∷ next ∷ []
    → cipher_with w (a ++ r) ≡ b
    → wrapped_after w begun (suc t) ≡ number_added (take 8 b) (suc t) ∷ next ∷ drop 8 b ∷ []
unfolding wrapped_after wrap_step
step {next = next} t before known =
    ap (wrap_step w (suc t)) before
    ∙ ap (λ c. number_added (take 8 c) (suc t) ∷ next ∷ drop 8 c ∷ []) known

pub returns : goal.returns
unfolding bytes wrapped wrapped_after number_added
returns c =
    let known = c.encrypted_blocks.ensures in
    let after_one = step 0 refl known.one in
    let after_two = step 1 after_one known.two in
    let after_three = step 2 after_two known.three in
    let after_four = step 3 after_three known.four in
    let after_five = step 4 after_four known.five in
    let after_six = step 5 after_five known.six in
    let after_seven = step 6 after_six known.seven in
    let after_eight = step 7 after_seven known.eight in
    let after_nine = step 8 after_eight known.nine in
    let after_ten = step 9 after_nine known.ten in
    let after_eleven = step 10 after_ten known.eleven in
    step 11 after_eleven known.twelve
