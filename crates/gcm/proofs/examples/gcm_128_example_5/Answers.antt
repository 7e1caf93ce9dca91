-- Text and tag of case 5, whose nonce has 8 bytes, by the blocks that are encrypted.
use Rattle.gcm.proofs.Literals.OnLiterals.{gcm_on_literals, tag_by}
use Rattle.gcm.proofs.Literals.TestCases.{text_of}
use Rattle.gcm.proofs.examples.gcm_128_example_5.Goals as goal

pub returns-clause-text : goal.returns-clause-text
unfolding gcm_on_literals
returns-clause-text c =
    let known = c.encrypted_blocks_5.ensures in
    text_of _ _ _ _ _ _ c.encrypted_blocks_4.ensures.zeros c.pre_counter_examples.ensures.eight
    known.text_0 known.text_1 known.text_2 known.text_3

pub returns-clause-tag : goal.returns-clause-tag
unfolding gcm_on_literals
returns-clause-tag c =
    tag_by _ _ _ _ _ _ _ c.encrypted_blocks_4.ensures.zeros
    c.pre_counter_examples.ensures.eight c.encrypted_blocks_5.ensures.first
