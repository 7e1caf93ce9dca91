-- Both requests by the blocks that they encrypt: the update before the output, the output, and the
-- one after it.
use Rattle.std.proofs.Common.{◌≡◌, ℕ, List, ◌∙◌, ap, take}
use Rattle.aes_planes.specs.BigEndian.{bytes}
use Rattle.aes_planes.specs.Fips197.{build, build_from}
use Rattle.ctr_drbg.specs.CtrDrbg.{State, seed_padded, exclusive_or, v_plus_one, v_after, temp_after, blocks_for}
use Rattle.ctr_drbg.specs.CtrDrbg.{output, update, prepared, returned_bits, generate}
use Rattle.ctr_drbg.proofs.OnLiterals.{updated_by}
use Rattle.ctr_drbg.proofs.examples.additional_inputs_example.Goals as goal

-- the additional input of the first request, and that of the second
abbrev first_input : List ℕ
first_input = bytes 48 0x0b081bab6c74d86b4a010e2ded99d14e0c9838f7c3d69afd64f1b66377d95cdcb7f6ec5358e3516034c3339ced7e1638

abbrev second_input : List ℕ
second_input = bytes 48 0xca818f938ae0c7f4f507e4cfec10e7baf51fe34b89a502f754d2d2be7395120fe1fb013c67ac2500b3d17b735da09a6e

-- the working state before the first request
abbrev before_first : State
before_first = record {
  key =
      bytes 32 0x8c717e36ee6fa534a17a5f8c511f51273192e6dbdb87124fa3644d02ef235d62;
  v =
      bytes 16 0x17b0cc9467a617c1e26a28fe20660f9f;
  reseed_counter = 1;
}

-- the state that its update before the output leaves
abbrev first_prepared : State
first_prepared = record {
  key = bytes 32 0xd00e69572d97ded00aed77226ccbac175e777f64c4e3395153f52f333c93dcee;
  v =
      bytes 16 0x5df02caec58d552a9704490728fe5ef9;
  reseed_counter = 1;
}

-- the working state before the second request
abbrev before_second : State
before_second = record {
  key =
      bytes 32 0x4a25ba9d8aff2d82a44346cc858c3c9b69f85aae6b46fa6210b25895aaa37ed2;
  v =
      bytes 16 0xefdfae717be1de26a1a75e8608233b76;
  reseed_counter = 2;
}

-- the state that its update before the output leaves
abbrev second_prepared : State
second_prepared = record {
  key = bytes 32 0xbfb0659e5cdccd895ce16d3fffb2c926e8f140be2f8b6b06ce66cf04b68ea3bc;
  v =
      bytes 16 0xade54aba15b94c79c6c44ae8263eb775;
  reseed_counter = 2;
}

pub returns-clause-first : goal.returns-clause-first
unfolding bytes build build_from seed_padded exclusive_or v_plus_one v_after blocks_for prepared generate
returns-clause-first c =
    let known = c.encrypted_with_inputs.ensures in
    let count : State → State = λ s. record s { reseed_counter = 2 } in
    let before : prepared first_input before_first ≡ first_prepared =
    updated_by before_first.key before_first.v first_input
    (bytes 16 0xdb0672fc41e306bb40ec790f81527d59)
    (bytes 16 0x52ef47930735a3ac370499504b4a8032) (bytes 16 0xea06c0fd9d6e044aa3c77a9bc58048c1) 1
    known.prepared_one known.prepared_two known.prepared_three in
    ap (λ s. count (update first_input (record s { v = v_after s.v 4 }))) before
    ∙ ap count (updated_by first_prepared.key (v_after first_prepared.v 4) first_input
    (bytes 16 0x412da136e68bf5e9ee4248e16815edd5) (bytes 16 0x65606259a890609f7443eef6dd7a220e)
    (bytes 16 0x5829422223028f4695646d1ae55d2d4e)
    1 known.updated_one known.updated_two known.updated_three)

pub returns-clause-second : goal.returns-clause-second
unfolding bytes build build_from seed_padded exclusive_or v_plus_one v_after temp_after blocks_for output prepared returned_bits
returns-clause-second c =
    let known = c.encrypted_with_inputs.ensures in
    let before : prepared second_input before_second ≡ second_prepared =
    updated_by before_second.key before_second.v second_input
    (bytes 16 0x7531ea0dd63c0a7da9e689f013a22e9c)
    (bytes 16 0x1deea3f5a62e69f19ab41dbac51bb1b3) (bytes 16 0x4c1e4b86721569797515319b7b9e2d1b) 2
    known.next_one known.next_two known.next_three in
    ap (λ s. output s.key s.v 16) before ∙ ap (take 16) known.output
