-- Working states, by the calls that lead to them.
use Rattle.std.proofs.Common.{◌≡◌, ℕ, ◌+◌, List, ◌∙◌, ap, take, drop, replicate}
use Rattle.ctr_drbg.specs.CtrDrbg.{State, seed_padded, exclusive_or, v_after, blocks_for, output, update}
use Rattle.ctr_drbg.specs.CtrDrbg.{instantiate, reseed, prepared, generate}

-- the working state that an update leaves, by the Key, V and reseed_counter before it
abbrev updated : List ℕ → List ℕ → List ℕ → ℕ → State
updated provided_data key v counter =
    let temp = exclusive_or (output key v 48) provided_data in
    record { key = take 32 temp; v = drop 32 temp; reseed_counter = counter }

-- an update by seed_material of a working state whose reseed_counter is 1 is a reseed
pub reseeded_by : (entropy string material : List ℕ) (s counted t : State)
    → t ≡ update material counted
    → material ≡ exclusive_or entropy (seed_padded string) → counted.key ≡ s.key → counted.v ≡ s.v
    → counted.reseed_counter ≡ 1 → t ≡ reseed entropy string s
unfolding update reseed
reseeded_by entropy string material s counted t is seed key v counter =
    is ∙ (λ i. updated (seed i) (key i) (v i) (counter i))

-- a reseed of the working state of zeros is an instantiation
pub instantiated_by : (entropy string : List ℕ) (zeros t : State) → t ≡ reseed entropy string zeros
    → zeros.key ≡ replicate 32 0 → zeros.v ≡ replicate 16 0 → t ≡ instantiate entropy string
unfolding update reseed instantiate
instantiated_by entropy string zeros t is key v =
    is ∙ (λ i. updated (exclusive_or entropy (seed_padded string)) (key i) (v i) 1)

-- a request: what is prepared, V moved on, one more request counted, and the update
pub generated_by : (n : ℕ) (string provided : List ℕ) (s before moved counted t : State)
    → t ≡ update provided counted
    → provided ≡ seed_padded string → before ≡ prepared string s → moved.key ≡ before.key
    → moved.v ≡ v_after before.v (blocks_for n) → counted.key ≡ moved.key → counted.v ≡ moved.v
    → counted.reseed_counter ≡ s.reseed_counter + 1 → t ≡ generate n string s
unfolding update generate
generated_by n string provided s before moved counted t is padding first key v same_key
    same_v counter =
    let whole_key : counted.key ≡ (prepared string s).key = same_key ∙ key
    ∙ ap (λ p. p.key) first in
    let whole_v : counted.v ≡ v_after (prepared string s).v (blocks_for n) =
    same_v ∙ v ∙ ap (λ p. v_after p.v (blocks_for n)) first in
    is ∙ (λ i. updated (padding i) (whole_key i) (whole_v i) (counter i))
