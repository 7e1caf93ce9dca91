use Rattle.std.proofs.Common.{List, ℕ, [], ◌∷◌, ap, ◌∙◌}
use Rattle.aes_planes.specs.BigEndian.{bytes}
use Rattle.aes_planes.specs.Fips197.{build, build_from, add_round_key, cipher_with, inv_cipher_with}
use Rattle.aes_planes.specs.Fips197.{key_expansion}
use Rattle.cbc.specs.Cbc.{chained, unchained}
use Rattle.cbc.proofs.examples.cbc_128_example.Goals as goal

-- the round keys of the example
abbrev w : List (List ℕ)
w = key_expansion (bytes 16 0x2b7e151628aed2a6abf7158809cf4f3c)

-- the initialization vector
abbrev iv : List ℕ
iv = bytes 16 0x000102030405060708090a0b0c0d0e0f

-- the plaintext blocks
abbrev text_1 : List ℕ
text_1 = bytes 16 0x6bc1bee22e409f96e93d7e117393172a

abbrev text_2 : List ℕ
text_2 = bytes 16 0xae2d8a571e03ac9c9eb76fac45af8e51

-- the ciphertext blocks
abbrev chained_1 : List ℕ
chained_1 = bytes 16 0x7649abac8119b246cee98e9b12e9197d

abbrev chained_2 : List ℕ
chained_2 = bytes 16 0x5086cb9b507219ee95db113a917678b2

pub returns-clause-encrypted : goal.returns-clause-encrypted
unfolding bytes build build_from add_round_key chained
returns-clause-encrypted c =
    let known = c.ciphered_blocks.ensures in
    ap (λ x. x ∷ cipher_with w (add_round_key text_2 x) ∷ []) known.first
    ∙ ap (λ x. chained_1 ∷ x ∷ []) known.second

pub returns-clause-decrypted : goal.returns-clause-decrypted
unfolding bytes build build_from add_round_key unchained
returns-clause-decrypted c =
    let known = c.ciphered_blocks.ensures in
    ap (λ x. add_round_key x iv ∷ add_round_key (inv_cipher_with w chained_2) chained_1 ∷ [])
    known.first_back
    ∙ ap (λ x. text_1 ∷ add_round_key x chained_1 ∷ []) known.second_back
