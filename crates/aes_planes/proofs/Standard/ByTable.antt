-- The ciphers and the key expansion by the tables of the S-boxes, for examples: by the definition,
-- each byte takes a search.
use mathlib.Core.Path.{fun_ext}
use Rattle.std.proofs.Common.{◌≡◌, ℕ, zero, suc, ◌+◌, ◌-◌, ◌*◌, ◌/◌, ◌%◌, ◌<◌, ◌==◌, Bool, true}
use Rattle.std.proofs.Common.{false, ◌&&◌, cond, nat_lt, List, [], ◌∷◌, ◌++◌, map, slice_index_or}
use Rattle.std.proofs.Common.{refl, ap, sym, ◌∙◌}
use Rattle.std.proofs.lemmas.Bool.{cond_both, ltb-true}
use Rattle.aes_planes.specs.Fips197.{sbox, inv_sbox, sub_bytes, inv_sub_bytes, shift_rows}
use Rattle.aes_planes.specs.Fips197.{inv_shift_rows, mix_columns, inv_mix_columns, add_round_key}
use Rattle.aes_planes.specs.Fips197.{round_key, last_round, inv_state_after, cipher_with, cipher}
use Rattle.aes_planes.specs.Fips197.{inv_cipher_with, inv_cipher, rot_word, add_words}
use Rattle.aes_planes.specs.Fips197.{round_constant, key_words, key_word, rounds, added_word_if}
use Rattle.aes_planes.specs.Fips197.{next_word_if, expanded_words, expanded_word, blocks_of_words}
use Rattle.aes_planes.specs.Fips197.{key_expansion, inverted_keys}
use Rattle.aes_planes.specs.Rounds.{all_rounds}
use Rattle.aes_planes.proofs.SBox.InverseSBox.{listed, inv_listed, sbox_listed, inv_sbox_listed}
use Rattle.aes_planes.proofs.Standard.AllRounds.{cipher_is}

-- ---- the definitions, with any function in the place of the S-box

-- the states of InvCipher
inv_state_with_sbox : (ℕ → ℕ) → List (List ℕ) → List ℕ → ℕ → List ℕ
inv_state_with_sbox s w b zero = add_round_key b (round_key w (last_round w))
inv_state_with_sbox s w b (suc n) =
    inv_mix_columns (add_round_key (map s (inv_shift_rows (inv_state_with_sbox s w b n)))
    (round_key w (last_round w - suc n)))

-- what is added to a word of the key expansion
added_with_sbox : (ℕ → ℕ) → Bool → Bool → ℕ → List ℕ → List ℕ
added_with_sbox s true b j w = add_words (map s (rot_word w)) (round_constant j)
added_with_sbox s false true j w = map s w
added_with_sbox s false false j w = w

-- word i of the key expansion, from the words before it
next_word_with_sbox : (ℕ → ℕ) → Bool → List ℕ → List (List ℕ) → ℕ → List ℕ
next_word_with_sbox s true key ws i = key_word key i
next_word_with_sbox s false key ws i =
    let nk : ℕ = key_words key in
    add_words (slice_index_or ws (i - nk) [])
    (added_with_sbox s (i % nk == 0) (nat_lt 6 nk && (i % nk == 4)) (i / nk)
    (slice_index_or ws (i - 1) []))

-- the first n words of the key expansion
words_with_sbox : (ℕ → ℕ) → List ℕ → ℕ → List (List ℕ)
words_with_sbox s key zero = []
words_with_sbox s key (suc n) = let ws = words_with_sbox s key n in
    ws ++ next_word_with_sbox s (nat_lt n (key_words key)) key ws n ∷ []

-- the round keys of the key expansion
expansion_with_sbox : (ℕ → ℕ) → List ℕ → List (List ℕ)
expansion_with_sbox s key =
    blocks_of_words (rounds key + 1) (words_with_sbox s key (4 * (rounds key + 1)))

-- ---- with the S-box they are the standard's

-- InvCipher's states, with the inverse S-box, are the standard's
standard_inv_state : (w : List (List ℕ)) (b : List ℕ) (n : ℕ)
    → inv_state_after w b n ≡ inv_state_with_sbox inv_sbox w b n
unfolding inv_state_after inv_sub_bytes inv_state_with_sbox
standard_inv_state w b zero = refl
standard_inv_state w b (suc n) =
    ap (λ x. inv_mix_columns (add_round_key (inv_sub_bytes (inv_shift_rows x))
    (round_key w (last_round w - suc n)))) (standard_inv_state w b n)

-- what is added to a word of the key expansion, in each of the three cases
standard_added : (a b : Bool) (j : ℕ) (w : List ℕ)
    → added_word_if a b j w ≡ added_with_sbox sbox a b j w
unfolding added_word_if added_with_sbox
standard_added true b j w = refl
standard_added false true j w = refl
standard_added false false j w = refl

-- the standard's word i, from the words before it, is that by the S-box
standard_next_word : (a : Bool) (key : List ℕ) (ws : List (List ℕ)) (i : ℕ)
    → next_word_if a key ws i ≡ next_word_with_sbox sbox a key ws i
unfolding next_word_if next_word_with_sbox
standard_next_word true key ws i = refl
standard_next_word false key ws i =
    let nk : ℕ = key_words key in
    ap (add_words (slice_index_or ws (i - nk) []))
    (standard_added (i % nk == 0) (nat_lt 6 nk && (i % nk == 4)) (i / nk)
    (slice_index_or ws (i - 1) []))

-- the standard's first n words are those by the S-box
standard_words : (key : List ℕ) (n : ℕ) → expanded_words key n ≡ words_with_sbox sbox key n
unfolding expanded_words words_with_sbox
standard_words key zero = refl
standard_words key (suc n) =
    ap (λ ws. ws ++ next_word_if (nat_lt n (key_words key)) key ws n ∷ []) (standard_words key n)
    ∙ ap (λ v. words_with_sbox sbox key n ++ v ∷ [])
    (standard_next_word (nat_lt n (key_words key)) key (words_with_sbox sbox key n) n)

-- the standard's round keys are those by the S-box
standard_expansion : (key : List ℕ) → key_expansion key ≡ expansion_with_sbox sbox key
unfolding key_expansion expansion_with_sbox
standard_expansion key =
    ap (blocks_of_words (rounds key + 1)) (standard_words key (4 * (rounds key + 1)))

-- ---- with the tables too

-- a function that is looked up in a table at bytes
looked_up : (ℕ → ℕ) → (ℕ → ℕ) → ℕ → ℕ
looked_up f table b = cond (nat_lt b 256) (table b) (f b)

-- a function with the table's values at all bytes is looked up there
looked_up_is : (f table : ℕ → ℕ) → ((b : ℕ) → b < 256 → f b ≡ table b) → f ≡ looked_up f table
unfolding looked_up
looked_up_is f table e = fun_ext (λ b. cond_both (nat_lt b 256) (table b) (f b) (λ v. f b ≡ v)
    (λ t. e b (ltb-true b 256 t)) (λ t. refl))

-- the key expansion, by the table of the S-box
unfoldable pub expansion_by_table : List ℕ → List (List ℕ)
unfolding expansion_with_sbox words_with_sbox next_word_with_sbox added_with_sbox looked_up
expansion_by_table key = expansion_with_sbox (looked_up sbox listed) key

-- word i of the key expansion, by that table
unfoldable pub word_by_table : List ℕ → ℕ → List ℕ
unfolding words_with_sbox next_word_with_sbox added_with_sbox looked_up
word_by_table key i = slice_index_or (words_with_sbox (looked_up sbox listed) key (i + 1)) i []

-- Cipher under a key, by that table
unfoldable pub cipher_by_table : List ℕ → List ℕ → List ℕ
unfolding expansion_by_table all_rounds looked_up
cipher_by_table key b =
    let sub = map (looked_up sbox listed) in
    all_rounds (λ b. mix_columns (shift_rows (sub b))) (λ b. shift_rows (sub b))
    (expansion_by_table key) b

-- InvSubBytes, by the table of the inverse S-box
unfoldable pub inv_sub_by_table : List ℕ → List ℕ
unfolding looked_up
inv_sub_by_table b = map (looked_up inv_sbox inv_listed) b

-- InvCipher under a key, by both tables
unfoldable pub inv_cipher_by_table : List ℕ → List ℕ → List ℕ
unfolding expansion_by_table inv_state_with_sbox inv_sub_by_table
inv_cipher_by_table key b =
    let w : List (List ℕ) = expansion_by_table key in
    add_round_key (inv_sub_by_table
    (inv_shift_rows (inv_state_with_sbox (looked_up inv_sbox inv_listed) w b
    (last_round w - 1)))) (round_key w 0)

-- ---- so an example is what the tables compute

-- a word of the key expansion is what the table gives
pub word_by_table_tells : (key : List ℕ) (i : ℕ) (v : List ℕ) → word_by_table key i ≡ v
    → expanded_word key i ≡ v
unfolding expanded_word word_by_table
word_by_table_tells key i v e = ap (λ ws. slice_index_or ws i []) (standard_words key (i + 1)
    ∙ ap (λ s. words_with_sbox s key (i + 1)) (looked_up_is sbox listed sbox_listed)) ∙ e

-- the key expansion is what the table gives
pub expansion_by_table_tells : (key : List ℕ) (w : List (List ℕ)) → expansion_by_table key ≡ w
    → key_expansion key ≡ w
unfolding expansion_by_table
expansion_by_table_tells key w e =
    standard_expansion key
    ∙ ap (λ s. expansion_with_sbox s key) (looked_up_is sbox listed sbox_listed) ∙ e

-- a round key for the equivalent inverse cipher is what the table gives
pub inverted_key_tells : (key : List ℕ) (i : ℕ) (k : List ℕ)
    → round_key (inverted_keys (expansion_by_table key)) i ≡ k
    → round_key (inverted_keys (key_expansion key)) i ≡ k
inverted_key_tells key i k e =
    ap (λ w. round_key (inverted_keys w) i) (expansion_by_table_tells key _ refl) ∙ e

-- Cipher by the table is Cipher
pub cipher_is_by_table : (key b : List ℕ) → cipher key b ≡ cipher_by_table key b
unfolding cipher_by_table sub_bytes
cipher_is_by_table key b =
    let w : List (List ℕ) = expansion_by_table key in
    ap (λ w. cipher_with w b) (expansion_by_table_tells key w refl) ∙ sym (cipher_is w b)
    ∙ ap (λ s. all_rounds (λ b. mix_columns (shift_rows (map s b))) (λ b. shift_rows (map s b)) w b)
    (looked_up_is sbox listed sbox_listed)

-- InvSubBytes of a block is what the table gives
pub inv_sub_bytes_tells : (b c : List ℕ) → inv_sub_by_table b ≡ c → inv_sub_bytes b ≡ c
unfolding inv_sub_by_table inv_sub_bytes
inv_sub_bytes_tells b c e = ap (λ s. map s b) (looked_up_is inv_sbox inv_listed inv_sbox_listed) ∙ e

-- InvCipher by the tables is InvCipher
pub inv_cipher_is_by_table : (key b : List ℕ) → inv_cipher key b ≡ inv_cipher_by_table key b
unfolding inv_cipher_by_table inv_cipher_with inv_sub_by_table inv_sub_bytes
inv_cipher_is_by_table key b =
    let w : List (List ℕ) = expansion_by_table key in
    let n : ℕ = last_round w - 1 in
    ap (λ w. inv_cipher_with w b) (expansion_by_table_tells key w refl)
    ∙ ap (λ x. add_round_key (inv_sub_bytes (inv_shift_rows x)) (round_key w 0))
    (standard_inv_state w b n)
    ∙ ap (λ s. add_round_key (map s (inv_shift_rows (inv_state_with_sbox s w b n))) (round_key w 0))
    (looked_up_is inv_sbox inv_listed inv_sbox_listed)
