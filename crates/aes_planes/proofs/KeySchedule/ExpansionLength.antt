-- The key expansion gives Nr + 1 blocks.
use Rattle.std.proofs.Common.{◌≡◌, ℕ, zero, suc, ◌+◌, ◌-◌, ◌*◌, ◌/◌, ◌%◌, ◌<◌, ◌==◌, ◌&&◌, nat_lt}
use Rattle.std.proofs.Common.{Bool, true, false, List, [], ◌∷◌, ◌++◌, length, slice_index}
use Rattle.std.proofs.Common.{slice_index_or, refl, arith}
use Rattle.aes_planes.specs.Fips197.{IsBytes, sbox, field_add, word, key_words, rounds, power_of_x}
use Rattle.aes_planes.specs.Fips197.{round_constant, added_word, added_word_if, next_word_if}
use Rattle.aes_planes.specs.Fips197.{expanded_words, key_expansion, sub_word, rot_word, add_words}
use Rattle.aes_planes.proofs.SBox.InverseSBox.{sbox_byte}
use Rattle.aes_planes.proofs.Lists.{length-build, build_each}
use Rattle.aes_planes.proofs.Standard.FieldLaws.{xtime_byte, field_add_byte}
use Rattle.aes_planes.proofs.Standard.States.{RowsBytes, bytes_by_test}
use Rattle.aes_planes.proofs.Standard.Steps.{mapped_bytes, state_bytes}

-- a key of Nr rounds expands to Nr + 1 round keys
pub length-key_expansion : (key : List ℕ) → length (key_expansion key) ≡ rounds key + 1
unfolding key_expansion
length-key_expansion key = length-build (rounds key + 1) _

-- what makes words makes bytes, step by step up to the whole expansion
word_bytes : (f : ℕ → ℕ) → ((i : ℕ) → f i < 256) → IsBytes (word f)
word_bytes f h zero = h 0
word_bytes f h (suc zero) = h 1
word_bytes f h (suc (suc zero)) = h 2
word_bytes f h (suc (suc (suc zero))) = h 3
word_bytes f h (suc (suc (suc (suc i)))) = omega arith

-- a power of x is a byte, since each doubling is reduced
power_byte : (n : ℕ) → power_of_x n < 256
unfolding power_of_x
power_byte zero = omega arith
power_byte (suc n) = xtime_byte (power_of_x n) (power_byte n)

-- a round constant is a word of bytes
constant_bytes : (i : ℕ) → IsBytes (round_constant i)
unfolding round_constant
constant_bytes i zero = power_byte (i - 1)
constant_bytes i (suc j) = bytes_by_test (0 ∷ 0 ∷ 0 ∷ []) refl j

-- the sum of two words of bytes is a word of bytes
word_sum_bytes : (v w : List ℕ) → IsBytes v → IsBytes w → IsBytes (add_words v w)
word_sum_bytes v w h k =
    word_bytes (λ i. field_add (slice_index v i) (slice_index w i))
    (λ i. field_add_byte (slice_index v i) (slice_index w i) (h i) (k i))

-- what a step adds to a word is a word of bytes, whichever of the three it is
added_bytes : (p q : Bool) (j : ℕ) (w : List ℕ) → IsBytes w → IsBytes (added_word_if p q j w)
unfolding added_word_if
added_bytes true q j w h =
    word_sum_bytes (sub_word (rot_word w)) (round_constant j)
    (mapped_bytes sbox sbox_byte (rot_word w))
    (constant_bytes j)
added_bytes false true j w h = mapped_bytes sbox sbox_byte w
added_bytes false false j w h = h

-- the next word is a word of bytes, if the key and all words so far are bytes
next_bytes : (p : Bool) (key : List ℕ) (ws : List (List ℕ)) (i : ℕ) → IsBytes key → RowsBytes ws
    → IsBytes (next_word_if p key ws i)
unfolding next_word_if
next_bytes true key ws i h g = word_bytes (λ j. slice_index key (4 * i + j)) (λ j. h (4 * i + j))
next_bytes false key ws i h g =
    word_sum_bytes (slice_index_or ws (i - key_words key) [])
    (added_word (key_words key) i (slice_index_or ws (i - 1) []))
    (g (i - key_words key))
    (added_bytes (i % key_words key == 0) (nat_lt 6 (key_words key) && (i % key_words key == 4))
    (i / key_words key)
    (slice_index_or ws (i - 1) []) (g (i - 1)))

-- one word of bytes more leaves all words bytes
word_appended : (ws : List (List ℕ)) (w : List ℕ) → RowsBytes ws → IsBytes w
    → RowsBytes (ws ++ w ∷ [])
word_appended [] w h k zero = k
word_appended [] w h k (suc i) = λ j. omega arith
word_appended (v ∷ ws) w h k zero = h 0
word_appended (v ∷ ws) w h k (suc i) = word_appended ws w (λ j. h (suc j)) k i

-- the words of the key schedule of a key of bytes are bytes
words_bytes : (key : List ℕ) (n : ℕ) → IsBytes key → RowsBytes (expanded_words key n)
unfolding expanded_words
words_bytes key zero h = λ i j. omega arith
words_bytes key (suc n) h =
    word_appended (expanded_words key n)
    (next_word_if (nat_lt n (key_words key)) key (expanded_words key n) n)
    (words_bytes key n h)
    (next_bytes (nat_lt n (key_words key)) key (expanded_words key n) n h (words_bytes key n h))

-- the round keys of a key of bytes are bytes
pub expansion_bytes : (key : List ℕ) → IsBytes key → RowsBytes (key_expansion key)
unfolding key_expansion
expansion_bytes key h =
    build_each IsBytes [] (λ i. omega arith) (rounds key + 1) _ (λ j. state_bytes _
    (λ r c. words_bytes key (4 * (rounds key + 1)) h (4 * j + c) r))
