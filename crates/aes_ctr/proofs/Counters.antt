-- Counter blocks, one after the other.
use Rattle.std.proofs.Common.{◌≡◌, ℕ, ◌+◌, ◌%◌, ◌^◌, ◌<◌, List, [], length, get_or}
use Rattle.std.proofs.Common.{set, sym, ap, refl, ◌∙◌, arith}
use Rattle.std.proofs.lemmas.List.Edits.{fill_by_more}
use Rattle.std.specs.Int.{w128, to_be_bytes, from_be_bytes}
use Rattle.aes_cipher.proofs.BlockNumbers.{number_back}
use Rattle.aes_ctr.specs.CounterMode.{counter, counter_block}

-- the counter that counting begins with
pub counter_first : (iv : List ℕ) (j : ℕ)
    → (from_be_bytes w128 iv + j) % 2 ^ 128 ≡ counter iv (j + 0)
unfolding counter
counter_first iv j = ap (λ m. (from_be_bytes w128 iv + m) % 2 ^ 128) (omega arith)

-- the next counter is one more, modulo 2 ^ 128
pub counter_next : (iv : List ℕ) (j i n : ℕ) → n ≡ counter iv (j + i)
    → counter iv (j + (i + 1)) ≡ (n + 1) % 2 ^ 128
unfolding counter
counter_next iv j i n is = sym (ap (λ m. (m + 1) % 2 ^ 128) is ∙ omega arith)

-- one more counter block is written
pub counter_block_written : (iv : List ℕ) (blocks : List (List ℕ)) (j i k n : ℕ) (block : List ℕ)
    → n ≡ counter iv (j + i)
    → block ≡ to_be_bytes w128 n → i < length blocks
    → ((m : ℕ) → m < i → get_or blocks m [] ≡ counter_block iv (j + m)) → k < i + 1
    → get_or (set blocks i block) k [] ≡ counter_block iv (j + k)
unfolding counter_block
counter_block_written iv blocks j i k n block is made fits before below =
    rw (made ∙ ap (to_be_bytes w128) is)
    (fill_by_more (λ m. counter_block iv (j + m)) blocks i [] fits before k below)

-- a counter block is the one before it, counted on by one
pub block_on : (iv : List ℕ) (j : ℕ)
    → counter_block iv (j + 1) ≡ counter_block (counter_block iv j) 1
unfolding counter counter_block
block_on iv j =
    let m = from_be_bytes w128 iv in
    ap (to_be_bytes w128)
    (on m j ∙ ap (λ q. (q + 1) % 2 ^ 128) (sym (number_back ((m + j) % 2 ^ 128) _ (omega arith) refl)))
  where
    on : (m j : ℕ) → (m + (j + 1)) % 2 ^ 128 ≡ ((m + j) % 2 ^ 128 + 1) % 2 ^ 128
    on m j = omega arith

-- what a loop over counter blocks uses: its first counter, the next one, and one more block written
pub ruleset counted = (counter_first, counter_next, counter_block_written)
