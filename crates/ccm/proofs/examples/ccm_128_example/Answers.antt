-- The text and the tag unfold to ciphers of blocks, and the values that `encrypted_blocks` states
-- are put in their places, from the inside on.
use Rattle.std.proofs.Common.{List, ℕ, [], ◌∷◌, take, slice_index, ap, ◌∙◌}
use Rattle.aes_planes.specs.BigEndian.{bytes}
use Rattle.aes_planes.specs.Fips197.{build, build_from, field_add, add_round_key, cipher_with}
use Rattle.aes_planes.specs.Fips197.{key_expansion}
use Rattle.aes_ctr.specs.CounterMode.{plus_stream}
use Rattle.aes_ctr.specs.Streams.{stream_byte}
use Rattle.cmac.specs.Chain.{chained_through}
use Rattle.ccm.specs.Ccm.{tag, text}
use Rattle.ccm.proofs.examples.ccm_128_example.Goals as goal

abbrev w : List (List ℕ)
w = key_expansion (bytes 16 0x404142434445464748494a4b4c4d4e4f)

abbrev block_1 : List ℕ
block_1 = bytes 16 0x00080001020304050607000000000000

abbrev block_2 : List ℕ
block_2 = bytes 16 0x20212223000000000000000000000000

abbrev counter_0 : List ℕ
counter_0 = bytes 16 0x07101112131415160000000000000000

pub returns-clause-text : goal.returns-clause-text
unfolding bytes build build_from text plus_stream stream_byte
returns-clause-text c =
    ap (λ s. field_add 0x20 (slice_index s 0) ∷ field_add 0x21 (slice_index s 1)
    ∷ field_add 0x22 (slice_index s 2) ∷ field_add 0x23 (slice_index s 3) ∷ [])
    c.encrypted_blocks.ensures.counter_1

pub returns-clause-tag : goal.returns-clause-tag
unfolding bytes build build_from add_round_key tag chained_through
returns-clause-tag c =
    let known = c.encrypted_blocks.ensures in
    ap (λ y. take 4 (add_round_key (cipher_with w (add_round_key
    (cipher_with w (add_round_key y block_1)) block_2)) (cipher_with w counter_0)))
    known.first
    ∙ ap (λ y. take 4 (add_round_key (cipher_with w (add_round_key y block_2))
    (cipher_with w counter_0)))
    known.second
    ∙ ap (λ y. take 4 (add_round_key y (cipher_with w counter_0))) known.third
    ∙ ap (λ s. take 4 (add_round_key (bytes 16 0x6084341b32042bf000b4b7995553a3c5) s))
    known.counter_0
