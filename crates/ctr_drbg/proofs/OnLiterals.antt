-- CTR_DRBG on literals: what a lemma unfolds to compute it, and an update by its three blocks.
use Rattle.std.proofs.Common.{◌≡◌, ℕ, List, ◌++◌, take, drop}
use Rattle.std.specs.Prelude.{⊤}
use Rattle.aes_planes.specs.Fips197.{build, build_from, cipher}
use Rattle.aes_planes.specs.BigEndian.{bytes}
use Rattle.ctr_drbg.specs.CtrDrbg.{State, seed_padded, exclusive_or, v_after, temp_after, blocks_for, output}
use Rattle.ctr_drbg.specs.CtrDrbg.{update, instantiate, reseed, v_plus_one, returned_bits, generate}

-- the definitions to unfold, so that strings on literals are computed
unfoldable pub strings_on_literals : ⊤
unfolding bytes build build_from seed_padded exclusive_or instantiate reseed update
strings_on_literals = tt

-- the definitions of a turn, so that V on literals is counted on
unfoldable pub turns_on_literals : ⊤
unfolding bytes v_plus_one v_after temp_after
turns_on_literals = tt

-- the definitions of the calls, by their steps
unfoldable pub requests : ⊤
unfolding seed_padded exclusive_or output update instantiate returned_bits generate
requests = tt

-- the working state whose Key and V are temp
abbrev pub state_of : List ℕ → ℕ → State
state_of temp counter = record { key = take 32 temp; v = drop 32 temp; reseed_counter = counter }

-- an update follows from the ciphers x, y and z of the three blocks after V
pub updated_by : (key v provided_data x y z : List ℕ) (counter : ℕ) → cipher key (v_after v 1) ≡ x
    → cipher key (v_after v 2) ≡ y → cipher key (v_after v 3) ≡ z
    → update provided_data (record { key = key; v = v; reseed_counter = counter })
    ≡ state_of (exclusive_or (take 48 (x ++ y ++ z)) provided_data) counter
unfolding update output temp_after blocks_for
updated_by key v provided_data x y z counter one two three =
    λ i. state_of (exclusive_or (take 48 (one i ++ two i ++ three i)) provided_data) counter
