-- Which block of a batch a byte falls in, and sums of data and a batch of blocks.
use Rattle.std.proofs.Common.{◌≡◌, ℕ, ◌+◌, ◌*◌, ◌/◌, ◌%◌, ◌<◌, ◌≤◌, List, [], length}
use Rattle.std.proofs.Common.{slice_index, slice_index_or, ◌⊎◌, inl, inr, ◌-◌, map, take, drop, set}
use Rattle.std.proofs.Common.{ap, refl, ◌∙◌, sym, arith}
use Rattle.std.proofs.lemmas.Bool.{cases_lt}
use Rattle.std.proofs.lemmas.List.{get_or-drop, get_or-map, get_or-take, get_or_append_left}
use Rattle.std.proofs.lemmas.List.{drop-drop, drop-set-lt, length-take-le}
use Rattle.aes_planes.specs.Fips197.{cipher_with}
use Rattle.aes_cipher.specs.Blocks.{EachOrUnchanged}
use Rattle.aes_cipher.proofs.FirstBlocks.{one_of_firsts}
use Rattle.aes_cipher.proofs.SliceRuns.{finished, finished_one}
use Rattle.aes_ctr.specs.CounterMode.{counter_block, keystream_byte, plus_stream}
use Rattle.aes_ctr.specs.Streams.{stream_byte}
use Rattle.aes_ctr.specs.Private.{byte_of_blocks}
use Rattle.aes_ctr.proofs.Sums.{plus-ext}

-- a byte of the block that place p falls in, as its byte q
pub byte_of_block : (blocks : List (List ℕ)) (p q i : ℕ) → q ≡ p % 16 → q + i < 16
    → slice_index (slice_index_or blocks (p / 16) []) (q + i) ≡ byte_of_blocks blocks (p + i)
unfolding byte_of_blocks
byte_of_block blocks p q i at inside =
    let block : p / 16 ≡ (p + i) / 16 = omega arith in
    let place : q + i ≡ (p + i) % 16 = omega arith in
    ap (λ m. slice_index (slice_index_or blocks m []) (q + i)) block
    ∙ ap (slice_index (slice_index_or blocks ((p + i) / 16) [])) place

-- blocks of the keystream, from the one that place p falls in, hold the bytes of the keystream
pub byte_of_keystream : (w : List (List ℕ)) (block : ℕ → List ℕ)
    (blocks : List (List ℕ)) (n p i : ℕ)
    → ((m : ℕ) → m < n → slice_index_or blocks m [] ≡ cipher_with w (block (p / 16 + m)))
    → p % 16 + i < 16 * n → byte_of_blocks blocks (p % 16 + i) ≡ stream_byte w block (p + i)
unfolding byte_of_blocks stream_byte
byte_of_keystream w block blocks n p i filled inside =
    let same : p / 16 + (p % 16 + i) / 16 ≡ (p + i) / 16 = omega arith in
    let place : (p % 16 + i) % 16 ≡ (p + i) % 16 = omega arith in
    ap (λ b. slice_index b ((p % 16 + i) % 16)) (filled ((p % 16 + i) / 16) (omega arith))
    ∙ ap (λ m. slice_index (cipher_with w (block m)) ((p % 16 + i) % 16)) same
    ∙ ap (slice_index (cipher_with w (block ((p + i) / 16)))) place

-- data from place p on plus the keystream is the data plus the keystream blocks from the one of
-- place p on
pub plus_blocks : (w : List (List ℕ)) (block : ℕ → List ℕ) (blocks : List (List ℕ)) (p : ℕ)
    (data_bytes : List ℕ)
    → ((m : ℕ) → m < length blocks → slice_index_or blocks m []
    ≡ cipher_with w (block (p / 16 + m)))
    → p % 16 + length data_bytes ≤ 16 * length blocks
    → plus_stream (stream_byte w block) p data_bytes
    ≡ plus_stream (byte_of_blocks blocks) (p % 16) data_bytes
plus_blocks w block blocks p data_bytes filled within =
    plus-ext (stream_byte w block) (byte_of_blocks blocks) p (p % 16) data_bytes
    (λ i h. sym (byte_of_keystream w block blocks (length blocks) p i filled (omega arith)))

-- whole blocks of data plus the keystream are the data plus the cipher of counter blocks from
-- `first` on
pub plus_batch : (w : List (List ℕ)) (block : ℕ → List ℕ) (blocks counted : List (List ℕ))
    (first n : ℕ) (data_bytes : List ℕ)
    → blocks ≡ map (cipher_with w) counted → length counted ≡ n
    → ((m : ℕ) → m < n → slice_index_or counted m [] ≡ block (first + m))
    → length data_bytes ≡ 16 * n
    → plus_stream (stream_byte w block) (16 * first) data_bytes
    ≡ plus_stream (byte_of_blocks blocks) 0 data_bytes
plus_batch w block blocks counted first n data_bytes all long at sized =
    let filled : (m : ℕ) → m < n → slice_index_or blocks m []
    ≡ cipher_with w (block (16 * first / 16 + m)) =
    λ m h. ap (λ l. slice_index_or l m []) all
    ∙ get_or-map (cipher_with w) counted m [] [] (omega (arith, long))
    ∙ ap (cipher_with w) (at m h ∙ ap (λ q. block (q + m)) (omega arith)) in
    plus-ext (stream_byte w block) (byte_of_blocks blocks) (16 * first) 0 data_bytes
    (λ j inside. sym (ap (byte_of_blocks blocks) (omega arith)
    ∙ byte_of_keystream w block blocks n (16 * first) j filled (omega arith)))

-- a block that a loop makes the cipher of what it was leaves those after it as they were
pub left_after_one : (i : ℕ) (xs counted : List (List ℕ)) (y : List ℕ) → drop i xs ≡ drop i counted
    → drop (i + 1) (set xs i y) ≡ drop (i + 1) counted
left_after_one i xs counted y left =
    let next : (l : List (List ℕ)) → drop (i + 1) l ≡ drop 1 (drop i l) =
    λ l. sym (drop-drop 1 i l) in
    drop-set-lt (i + 1) xs i y (omega arith) ∙ next xs ∙ ap (drop 1) left ∙ sym (next counted)

-- a loop over the first n counter blocks leaves the cipher of each of them
pub ciphered : (w : List (List ℕ)) (block : ℕ → List ℕ) (first n k m : ℕ)
    (xs counted : List (List ℕ)) → n ≤ length xs
    → finished (cipher_with w) n xs ≡ map (cipher_with w) counted → m ≤ length counted
    → ((i : ℕ) → i < m → slice_index_or counted i [] ≡ block (first + i)) → n ≤ m → k < n
    → slice_index_or xs k [] ≡ cipher_with w (block (first + k))
ciphered w block first n k m xs counted inside kept long at fits lt =
    let f = cipher_with w in
    let among : k < length (take n xs) = omega (arith, lt, length-take-le n xs inside) in
    sym (get_or-take n xs k [] lt)
    ∙ sym (get_or_append_left (take n xs) (map f (drop n xs)) [] k among)
    ∙ ap (λ l. slice_index_or l k []) kept
    ∙ get_or-map f counted k [] [] (omega (arith, long, fits, lt))
    ∙ ap f (at k (omega (arith, fits, lt)))

-- a loop over the first n counter blocks leaves the cipher of each of them, and the others as they
-- were
pub ciphered_or_left : (w : List (List ℕ)) (block : ℕ → List ℕ) (first n k m : ℕ)
    (xs counted : List (List ℕ)) → n ≤ length xs
    → finished (cipher_with w) n xs ≡ map (cipher_with w) counted → drop n xs ≡ drop n counted
    → m ≤ length counted
    → ((i : ℕ) → i < m → slice_index_or counted i [] ≡ block (first + i)) → n ≤ m → k < m
    → (slice_index_or xs k [] ≡ cipher_with w (block (first + k)))
    ⊎ (slice_index_or xs k [] ≡ block (first + k))
ciphered_or_left w block first n k m xs counted inside kept left long at fits lt =
    elim (cases_lt k n) [
      | inl below ↦ inl (ciphered w block first n k m xs counted inside kept long at fits below)
      | inr past ↦
          let place : n + (k - n) ≡ k = omega (arith, past) in
          let read : (l : List (List ℕ)) → slice_index_or (drop n l) (k - n) []
          ≡ slice_index_or l k [] =
          λ l. get_or-drop n l (k - n) [] ∙ ap (λ m. slice_index_or l m []) place in
          inr (sym (read xs) ∙ ap (λ l. slice_index_or l (k - n) []) left ∙ read counted ∙ at k lt)
    ]

-- the first counter blocks of a batch, ciphered, are blocks of the keystream
pub ciphered_first : (w : List (List ℕ)) (block : ℕ → List ℕ) (first n k : ℕ)
    (xs ys : List (List ℕ))
    → take n ys ≡ map (cipher_with w) (take n xs) → n ≤ length xs
    → ((i : ℕ) → i < n → slice_index_or xs i [] ≡ block (first + i)) → k < n
    → slice_index_or ys k [] ≡ cipher_with w (block (first + k))
ciphered_first w block first n k xs ys firsts fits at lt =
    one_of_firsts (cipher_with w) n k xs ys [] firsts lt fits ∙ ap (cipher_with w) (at k lt)

-- any block of a batch is a block of the keystream or its counter block, if each is ciphered or
-- left
pub ciphered_or_counted : (w : List (List ℕ)) (block : ℕ → List ℕ) (first k m : ℕ)
    (xs ys : List (List ℕ))
    → EachOrUnchanged (cipher_with w) xs ys → m ≤ length xs
    → ((i : ℕ) → i < m → slice_index_or xs i [] ≡ block (first + i)) → k < m
    → (slice_index_or ys k [] ≡ cipher_with w (block (first + k)))
    ⊎ (slice_index_or ys k [] ≡ block (first + k))
ciphered_or_counted w block first k m xs ys each long at lt =
    elim (each k (omega (arith, long, lt))) [
      | inl done ↦ inl (done ∙ ap (cipher_with w) (at k lt))
      | inr same ↦ inr (same ∙ at k lt)
    ]

-- what a call uses that writes blocks of the keystream by a backend
pub ruleset filled = (
  ciphered,
  ciphered_or_left,
  ciphered_first,
  ciphered_or_counted,
  finished_one,
  left_after_one,
)

-- the keystream of blocks that are whole counters is the standard's
pub whole_blocks : (w : List (List ℕ)) (iv : List ℕ) (p : ℕ) (data_bytes : List ℕ)
    → plus_stream (stream_byte w (counter_block iv)) p data_bytes
    ≡ plus_stream (keystream_byte w iv) p data_bytes
unfolding stream_byte keystream_byte
whole_blocks w iv p data_bytes = refl
