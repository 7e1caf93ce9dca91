-- The whole text by four blocks of keystream, and the part by the two that it touches.
use Rattle.std.proofs.Common.{◌≡◌, ℕ, ◌+◌, ◌/◌, List, [], ◌∷◌, ◌++◌, slice_index_or, sym, ◌∙◌}
use Rattle.std.proofs.Common.{arith}
use Rattle.aes_planes.specs.BigEndian.{bytes}
use Rattle.aes_planes.specs.Fips197.{build, build_from, cipher_with, key_expansion}
use Rattle.aes_planes.proofs.Bits.ByteCases.{by_two, by_four}
use Rattle.aes_ctr.specs.CounterMode.{counter_block, plus_stream}
use Rattle.aes_ctr.specs.Private.{byte_of_blocks}
use Rattle.aes_ctr.proofs.Places.{plus_blocks, whole_blocks}
use Rattle.aes_ctr.proofs.examples.ctr_128_example.Goals as goal

-- the round keys of the example
abbrev round_keys : List (List ℕ)
round_keys = key_expansion (bytes 16 0x2b7e151628aed2a6abf7158809cf4f3c)

-- the first counter block
abbrev iv : List ℕ
iv = bytes 16 0xf0f1f2f3f4f5f6f7f8f9fafbfcfdfeff

-- the keystream
abbrev four_blocks : List (List ℕ)
four_blocks = bytes 16 0xec8cdf7398607cb0f2d21675ea9ea1e4
    ∷ bytes 16 0x362b7c3c6773516318a077d7fc5073ae
    ∷ bytes 16 0x6a2cc3787889374fbeb4c81b17ba6c44 ∷ bytes 16 0xe89c399ff0f198c6d40a31db156cabfe ∷ []

-- the plaintext
abbrev text : List ℕ
text = bytes 16 0x6bc1bee22e409f96e93d7e117393172a ++ bytes 16 0xae2d8a571e03ac9c9eb76fac45af8e51
    ++ bytes 16 0x30c81c46a35ce411e5fbc1191a0a52ef ++ bytes 16 0xf69f2445df4f9b17ad2b417be66c3710

-- its second and third block
abbrev two_blocks : List (List ℕ)
two_blocks = bytes 16 0x362b7c3c6773516318a077d7fc5073ae
    ∷ bytes 16 0x6a2cc3787889374fbeb4c81b17ba6c44 ∷ []

-- 16 bytes of the text, from place 18 on
abbrev part : List ℕ
part = bytes 16 0x8a571e03ac9c9eb76fac45af8e5130c8

pub returns-clause-whole : goal.returns-clause-whole
unfolding bytes build build_from plus_stream byte_of_blocks
returns-clause-whole c =
    let known = c.keystream_128_example.ensures in
    sym (whole_blocks round_keys iv 0 text)
    ∙ plus_blocks round_keys (counter_block iv) four_blocks 0 text
    (by_four (λ m. slice_index_or four_blocks m [] ≡ cipher_with round_keys
    (counter_block iv (0 / 16 + m)))
    (sym known.first) (sym known.second) (sym known.third) (sym known.fourth)) (omega arith)

pub returns-clause-part : goal.returns-clause-part
unfolding bytes build build_from plus_stream byte_of_blocks
returns-clause-part c =
    let known = c.keystream_128_example.ensures in
    sym (whole_blocks round_keys iv 18 part)
    ∙ plus_blocks round_keys (counter_block iv) two_blocks 18 part
    (by_two (λ m. slice_index_or two_blocks m []
    ≡ cipher_with round_keys (counter_block iv (18 / 16 + m)))
    (sym known.second) (sym known.third)) (omega arith)
