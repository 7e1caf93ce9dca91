-- The first 32 bits of a counter block are counted on, from any block and by any number.
use Rattle.std.proofs.Common.{◌≡◌, ℕ, ◌+◌, ◌%◌, ◌^◌, ◌<◌, List, [], ◌++◌, length, get_or, set, refl}
use Rattle.std.proofs.Common.{sym, ap, drop, take, ◌∙◌, arith}
use Rattle.std.proofs.lemmas.List.Edits.{fill_by_more}
use Rattle.std.proofs.lemmas.Nat.{from_le_bytes-to_le_bytes_4}
use Rattle.std.specs.Int.{w32, to_le_bytes, from_le_bytes}
use Rattle.aes_ctr.specs.CounterMode.{plus_stream}
use Rattle.aes_ctr.specs.Streams.{stream_byte}
use Rattle.gcm_siv.specs.GcmSiv.{counter, counter_block, counter_mode, keystream_byte}

-- the first counter of a run of counter blocks
pub counter_first : (start : List ℕ) (j n : ℕ) → n ≡ from_le_bytes w32 (take 4 start)
    → (n + j % 2 ^ 32) % 2 ^ 32 ≡ counter start (j + 0)
unfolding counter
counter_first start j n is =
    ap (λ m. (m + j % 2 ^ 32) % 2 ^ 32) is ∙ wrapped (from_le_bytes w32 (take 4 start)) j
  where
    wrapped : (m j : ℕ) → (m + j % 2 ^ 32) % 2 ^ 32 ≡ (m + (j + 0)) % 2 ^ 32
    wrapped m j = omega arith

-- the counter after the next block is one more
pub counter_next : (start : List ℕ) (j i n : ℕ) → n ≡ counter start (j + i)
    → counter start (j + (i + 1)) ≡ (n + 1) % 2 ^ 32
unfolding counter
counter_next start j i n is =
    sym (ap (λ m. (m + 1) % 2 ^ 32) is ∙ on (from_le_bytes w32 (take 4 start)) j i)
  where
    on : (m j i : ℕ) → ((m + (j + i)) % 2 ^ 32 + 1) % 2 ^ 32 ≡ (m + (j + (i + 1))) % 2 ^ 32
    on m j i = omega arith

-- after one more counter block is written, each one up to it is a counter block
pub siv_counter_block_written : (start : List ℕ) (blocks : List (List ℕ)) (j i k n : ℕ)
    (block : List ℕ)
    → n ≡ counter start (j + i)
    → block ≡ to_le_bytes w32 n ++ drop 4 start → i < length blocks
    → ((m : ℕ) → m < i → get_or blocks m [] ≡ counter_block start (j + m)) → k < i + 1
    → get_or (set blocks i block) k [] ≡ counter_block start (j + k)
unfolding counter_block
siv_counter_block_written start blocks j i k n block is made fits before below =
    rw (made ∙ ap (λ m. to_le_bytes w32 m ++ drop 4 start) is)
    (fill_by_more (λ m. counter_block start (j + m)) blocks i [] fits before k below)

-- what a loop over counter blocks uses: its first counter, the next one, and one more block written
pub ruleset counted = (counter_first, counter_next, siv_counter_block_written)

-- a counter block is the one before it, counted on by one
pub block_on : (block : List ℕ) (j : ℕ)
    → counter_block block (j + 1) ≡ counter_block (counter_block block j) 1
unfolding counter counter_block
block_on block j =
    let m = from_le_bytes w32 (take 4 block) in
    ap (λ q. to_le_bytes w32 q ++ drop 4 block)
    (on m j ∙ ap (λ q. (q + 1) % 2 ^ 32) (sym (from_le_bytes-to_le_bytes_4 ((m + j) % 2 ^ 32) (omega arith))))
  where
    on : (m j : ℕ) → (m + (j + 1)) % 2 ^ 32 ≡ ((m + j) % 2 ^ 32 + 1) % 2 ^ 32
    on m j = omega arith

-- counter mode adds the keystream of its counter blocks
pub mode_is : (w : List (List ℕ)) (start x : List ℕ)
    → plus_stream (stream_byte w (counter_block start)) 0 x ≡ counter_mode w start x
unfolding stream_byte keystream_byte counter_mode
mode_is w start x = refl
