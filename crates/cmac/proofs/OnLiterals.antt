-- CMAC on literals: what a lemma unfolds to compute it, and a tag by its steps.
use Rattle.std.proofs.Common.{◌≡◌, ℕ, suc, ◌*◌, ◌-◌, ◌==◌, if◌then◌else◌, List, ◌∷◌, ◌++◌, length}
use Rattle.std.proofs.Common.{replicate, ap, ◌∙◌}
use Rattle.std.specs.Prelude.{⊤}
use Rattle.std.specs.List.{slice_range}
use Rattle.aes_planes.specs.Fips197.{build, cipher_with, add_round_key}
use Rattle.aes_planes.proofs.OnLiterals.{aes_on_literals}
use Rattle.aes_cipher.specs.Blocks.{padded}
use Rattle.cmac.specs.Chain.{block_at, chained, chained_through}
use Rattle.cmac.specs.Cmac.{first_bit, shifted, doubled, doubled_block, subkey_1, subkey_2}
use Rattle.cmac.specs.Cmac.{before_last, last_block, cmac}

-- the definitions to unfold, so that CMAC on literals is computed
unfoldable pub cmac_on_literals : ⊤
unfolding aes_on_literals build doubled_block
cmac_on_literals = tt

-- the definitions that the rules of subkeys state
unfoldable pub subkey_rules : ⊤
unfolding first_bit shifted doubled doubled_block subkey_1 subkey_2
subkey_rules = tt

-- the definitions that the rules of examples state
unfoldable pub cmac_rules : ⊤
unfolding before_last block_at chained chained_through cmac
cmac_rules = tt

-- the definitions that the rules of the last block state
unfoldable pub padding_rules : ⊤
unfolding padded last_block
padding_rules = tt

-- the last block by the cipher of the block of zeros, l
unfoldable pub last_by : List ℕ → List ℕ → List ℕ
last_by l rest = if length rest == 16 then add_round_key (doubled_block l) rest
    else add_round_key (doubled_block (doubled_block l))
    (rest ++ 0x80 ∷ replicate (15 - length rest) 0)

-- the rest of a message before which n blocks stand
abbrev pub rest_after : ℕ → List ℕ → List ℕ
rest_after n message = slice_range message (16 * n) (length message)

-- the tag follows from the cipher of the block of zeros and the chaining value before the last
-- block
pub by_steps : (w : List (List ℕ)) (message l value : List ℕ) → cipher_with w (replicate 16 0) ≡ l
    → chained w (replicate 16 0) message (before_last (length message)) ≡ value
    → cmac w message
    ≡ cipher_with w (add_round_key value
    (last_by l (rest_after (before_last (length message)) message)))
unfolding cmac last_block subkey_1 subkey_2 last_by
by_steps w message l value zeros before =
    let rest = rest_after (before_last (length message)) message in
    ap (λ v. cipher_with w (add_round_key v (last_block w rest))) before
    ∙ ap (λ z. cipher_with w (add_round_key value (last_by z rest))) zeros

-- the next chaining value is the cipher of the value before it plus a block
pub next_step : (w : List (List ℕ)) (message value : List ℕ) (i : ℕ)
    → chained w (replicate 16 0) message i ≡ value
    → chained w (replicate 16 0) message (suc i)
    ≡ cipher_with w (add_round_key value (block_at message i))
unfolding chained
next_step w message value i before =
    ap (λ v. cipher_with w (add_round_key v (block_at message i))) before
