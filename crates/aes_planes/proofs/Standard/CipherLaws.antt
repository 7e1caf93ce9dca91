-- The laws in the words of their contracts.
use Rattle.std.proofs.Common.{◌≡◌, ℕ, ◌+◌, ◌<◌, ◌≤◌, List, [], length, map, get_or, slice_index_or}
use Rattle.std.proofs.Common.{ap, sym, ◌∙◌, ◌^◌, slice_index, arith}
use Rattle.std.proofs.lemmas.List.{get_or-map, length-map, same_lists, get_or_default}
use Rattle.aes_planes.specs.Each.{Each}
use Rattle.aes_planes.specs.Fips197.{IsBytes, IsBlock, AreRoundKeys, add_round_key, cipher}
use Rattle.aes_planes.specs.Fips197.{inv_cipher, rounds, key_expansion, eq_inv_cipher_with}
use Rattle.aes_planes.specs.Fips197.{inverted_keys}
use Rattle.aes_planes.proofs.KeySchedule.ExpandedWords.{round_key_words}
use Rattle.aes_planes.proofs.KeySchedule.ExpansionLength.{length-key_expansion, expansion_bytes}
use Rattle.aes_planes.proofs.Standard.CipherInverses.{inv_cipher_of_cipher, cipher_of_inv_cipher}
use Rattle.aes_planes.proofs.Standard.CipherInverses.{length-cipher, cipher_bytes}
use Rattle.aes_planes.proofs.Standard.EquivalentInverse.{eq_inv_is_inv}
use Rattle.aes_planes.proofs.Standard.States.{length-state}
use Rattle.aes_planes.proofs.Standard.Steps.{add_block, length-add_round_key, add_key_twice}

-- a key expansion has two blocks and more
pub two_expanded : (key : List ℕ) → 2 ≤ length (key_expansion key)
two_expanded key = let e = length-key_expansion key in omega arith

-- EqInvCipher under a key's inverted round keys is InvCipher under the key
pub inverse_of_expansion : (key b : List ℕ)
    → eq_inv_cipher_with (inverted_keys (key_expansion key)) b ≡ inv_cipher key b
inverse_of_expansion key b = eq_inv_is_inv (key_expansion key) b (two_expanded key)

-- a key of bytes expands to round keys, each of them a block
pub expansion_round_keys : (key : List ℕ) → IsBytes key → AreRoundKeys (key_expansion key)
expansion_round_keys key h = record {
  two = two_expanded key;
  blocks = λ i lt. let j : i < rounds key + 1 = omega (arith, length-key_expansion key) in
      (ap length (round_key_words key i j) ∙ length-state _, expansion_bytes key h i);
}

-- InvCipher undoes Cipher under the same key
pub inv_cipher_undoes : (key b : List ℕ) → IsBytes key → IsBlock b
    → inv_cipher key (cipher key b) ≡ b
inv_cipher_undoes key b k h =
    inv_cipher_of_cipher (key_expansion key) (expansion_round_keys key k) b h

-- Cipher undoes InvCipher under the same key
pub cipher_undoes : (key b : List ℕ) → IsBytes key → IsBlock b → cipher key (inv_cipher key b) ≡ b
cipher_undoes key b k h = cipher_of_inv_cipher (key_expansion key) (expansion_round_keys key k) b h

-- the sum of two blocks has bytes in each place
pub sum_bytes : (b k : List ℕ) (i : ℕ) → IsBlock b → IsBlock k
    → slice_index (add_round_key b k) i < 2 ^ 8
sum_bytes b k i h g = (add_block b k h.1 g.1).1 i

-- adding the same block twice leaves a block as it was
pub sum_twice : (b k : List ℕ) → IsBlock b → add_round_key (add_round_key b k) k ≡ b
sum_twice b k h = add_key_twice b k h.0

-- where a call leaves f of each block, it leaves f of block i in place i
pub each_at : (f : List ℕ → List ℕ) (before after : List (List ℕ)) (i : ℕ) → Each f before after
    → i < length before
    → slice_index_or after i [] ≡ f (slice_index_or before i [])
each_at f before after i e h = ap (λ v. get_or v i []) e ∙ get_or-map f before i [] [] h

-- where each place has f of the block that was there, the call leaves f of each block
pub each_of : (f : List ℕ → List ℕ) (before after : List (List ℕ)) → length after ≡ length before
    → ((i : ℕ) → i < length before → slice_index_or after i [] ≡ f (slice_index_or before i []))
    → Each f before after
each_of f before after l p = same_lists after (map f before) (l ∙ sym (length-map before f))
    (λ i d h. let k : i < length before = omega (arith, l) in
    get_or_default after i d [] h ∙ p i k ∙ sym (get_or-map f before i [] d k))

pub ruleset places_of_each = (each_at, each_of, length-map)

pub ruleset inverse_ciphers = (inv_cipher_undoes, cipher_undoes)

pub ruleset block_sums = (length-cipher, cipher_bytes, length-add_round_key, sum_bytes, sum_twice)
