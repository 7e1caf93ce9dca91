-- Tag and text of the message of eight bytes, by the blocks that are encrypted.
use Rattle.std.proofs.Common.{◌≡◌, ℕ, List, [], ◌∷◌, ◌++◌, take, slice_index_or, ap, sym, ◌∙◌}
use Rattle.std.proofs.Common.{arith}
use Rattle.std.specs.Int.{w128, from_le_bytes}
use Rattle.aes_planes.specs.BigEndian.{bytes}
use Rattle.aes_planes.specs.Fips197.{cipher_with, key_expansion}
use Rattle.aes_planes.proofs.Bits.ByteCases.{by_one}
use Rattle.gcm_siv.specs.GcmSiv.{authentication_key, encryption_key, tag_under, text_under}
use Rattle.gcm_siv.specs.GcmSiv.{first_counter, counter_block}
use Rattle.gcm_siv.proofs.OnLiterals.{siv_on_literals, blocks_by}
use Rattle.gcm_siv.proofs.examples.gcm_siv_128_example.Goals as goal

abbrev key : List ℕ
key = bytes 16 0x01000000000000000000000000000000

abbrev nonce : List ℕ
nonce = bytes 12 0x030000000000000000000000

-- the plaintext
abbrev plain : List ℕ
plain = bytes 8 0x0100000000000000

-- the key that encrypts the message
abbrev derived_key : List ℕ
derived_key = bytes 16 0x4004a0dcd862f2a57360219d2d44ef6c

-- the first counter block, from the tag
abbrev first_block : List ℕ
first_block = first_counter (bytes 16 0x578782fff6013b815b287c22493a364c)

-- the block that is added to the text
abbrev keystream : List (List ℕ)
keystream = bytes 16 0xb4d839330ac7b786a779523a099ca598 ∷ []

pub returns-clause-tag : goal.returns-clause-tag
unfolding siv_on_literals
returns-clause-tag c =
    let known = c.encrypted_blocks.ensures in
    let authentication : authentication_key key nonce
    ≡ bytes 16 0xd9b360279694941ac5dbc6987ada7377 =
    (λ t. take 8 (known.zero t) ++ take 8 (known.one t)) in
    let encryption : encryption_key key nonce ≡ derived_key =
    (λ t. take 8 (known.two t) ++ take 8 (known.three t) ++ []) in
    (λ t. tag_under (key_expansion (encryption t))
    (from_le_bytes w128 (authentication t)) nonce [] plain) ∙ known.tag

pub returns-clause-text : goal.returns-clause-text
unfolding siv_on_literals
returns-clause-text c =
    let known = c.encrypted_blocks.ensures in
    let encryption : encryption_key key nonce ≡ derived_key =
    (λ t. take 8 (known.two t) ++ take 8 (known.three t) ++ []) in
    ap (λ e. text_under (key_expansion e) (bytes 16 0x578782fff6013b815b287c22493a364c)
    plain) encryption
    ∙ blocks_by (key_expansion derived_key) first_block keystream plain
    (by_one (λ m. slice_index_or keystream m [] ≡ cipher_with (key_expansion derived_key)
    (counter_block first_block m)) (sym known.stream))
    (omega arith)
