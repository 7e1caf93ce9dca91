-- Tag and text of the message of twenty bytes, by the blocks that are encrypted.
use Rattle.std.proofs.Common.{◌≡◌, ℕ, List, [], ◌∷◌, slice_index_or, ap, sym, ◌∙◌, arith}
use Rattle.std.specs.Int.{w128, from_le_bytes}
use Rattle.aes_planes.specs.BigEndian.{bytes}
use Rattle.aes_planes.specs.Fips197.{cipher_with, key_expansion}
use Rattle.aes_planes.proofs.Bits.ByteCases.{by_two}
use Rattle.gcm_siv.specs.GcmSiv.{tag_under, text_under, first_counter, counter_block}
use Rattle.gcm_siv.proofs.OnLiterals.{siv_on_literals, blocks_by}
use Rattle.gcm_siv.proofs.examples.gcm_siv_256_example.Goals as goal

abbrev nonce : List ℕ
nonce = bytes 12 0x030000000000000000000000

abbrev additional : List ℕ
additional = bytes 18 0x010000000000000000000000000000000200

-- the plaintext
abbrev plain : List ℕ
plain = bytes 20 0x0300000000000000000000000000000004000000

-- the round keys of the key that encrypts the message
abbrev round_keys : List (List ℕ)
round_keys = key_expansion
    (bytes 32 0xb914f4742be9e1d7a2f84addbf96dec3456e3c6c05ecc157cdbf0700fedad222)

-- the first counter block, from the tag
abbrev first_block : List ℕ
first_block = first_counter (bytes 16 0xb879ad976d8242acc188ab59cabfe307)

-- the two blocks that are added to the text
abbrev keystream : List (List ℕ)
keystream = bytes 16 0x40dd0163cdb48f9fe3212bf61b201976
    ∷ bytes 16 0x027f342b38b58fc6858b73af3aeabecf ∷ []

pub returns-clause-tag : goal.returns-clause-tag
unfolding siv_on_literals
returns-clause-tag c =
    let keys = c.keys_256_example.ensures in
    (λ t. tag_under (key_expansion (keys.encryption t))
    (from_le_bytes w128 (keys.authentication t)) nonce additional plain)
    ∙ c.encrypted_under_256.ensures.tag

pub returns-clause-text : goal.returns-clause-text
unfolding siv_on_literals
returns-clause-text c =
    let known = c.encrypted_under_256.ensures in
    ap (λ e. text_under (key_expansion e) (bytes 16 0xb879ad976d8242acc188ab59cabfe307) plain)
    c.keys_256_example.ensures.encryption
    ∙ blocks_by round_keys first_block keystream plain
    (by_two (λ m. slice_index_or keystream m []
    ≡ cipher_with round_keys (counter_block first_block m))
    (sym known.first) (sym known.second))
    (omega arith)
