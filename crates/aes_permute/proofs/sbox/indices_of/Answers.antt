-- Each look-up is at an index, by all bytes, and the two indices that are found are
-- `first_of` and `second_of`.
use Rattle.aes_permute.specs.TwoIndices.{both_nibbles, first_of, second_of}
use Rattle.aes_permute.specs.Lookup.{low_nibble, high_nibble}
use Rattle.aes_permute.proofs.FieldInverse.{zip_of_maps, second_sum, over_is, index_is, made_indices, low_cases}
use Rattle.aes_permute.proofs.FieldInverse.{high_cases, both_cases, over_high_cases, over_both_cases}
use Rattle.aes_permute.proofs.FieldInverse.{first_cases, second_cases}
use Rattle.aes_permute.proofs.sbox.indices_of.Goals as goal

pub lookup-scaled-requires : goal.lookup-scaled-requires
lookup-scaled-requires g c = record {
  are_indices = λ i. made_indices low_nibble low_cases _ (c.blocks_have_16_bytes.ensures i)
      (c.low_nibbles-low.ensures i);
}

pub lookup-high_inverse-requires : goal.lookup-high_inverse-requires
lookup-high_inverse-requires g c = record {
  are_indices = λ i. made_indices high_nibble high_cases _ (c.blocks_have_16_bytes.ensures i)
      (c.high_nibbles-high.ensures i);
}

pub lookup-both_inverse-requires : goal.lookup-both_inverse-requires
lookup-both_inverse-requires g c = record {
  are_indices = λ i. made_indices both_nibbles both_cases _ (c.blocks_have_16_bytes.ensures i)
      (zip_of_maps high_nibble low_nibble _ (c.sum-both.ensures i) (c.high_nibbles-high.ensures i)
      (c.low_nibbles-low.ensures i));
}

pub lookup-at_high-requires : goal.lookup-at_high-requires
lookup-at_high-requires g c = record {
  are_indices = λ i. made_indices (second_sum high_nibble) over_high_cases _ (c.blocks_have_16_bytes.ensures i)
      (over_is high_nibble _ (c.high_nibbles-high.ensures i) (c.low_nibbles-low.ensures i)
      (c.lookup-high_inverse.ensures i) (c.lookup-scaled.ensures i) (c.sum-over_high.ensures i));
}

pub lookup-at_both-requires : goal.lookup-at_both-requires
lookup-at_both-requires g c = record {
  are_indices = λ i. made_indices (second_sum both_nibbles) over_both_cases _ (c.blocks_have_16_bytes.ensures i)
      (over_is both_nibbles _
      (zip_of_maps high_nibble low_nibble _ (c.sum-both.ensures i) (c.high_nibbles-high.ensures i)
      (c.low_nibbles-low.ensures i))
      (c.low_nibbles-low.ensures i) (c.lookup-both_inverse.ensures i) (c.lookup-scaled.ensures i)
      (c.sum-over_both.ensures i));
}

pub returns-clause-first : goal.returns-clause-first
unfolding first_of
returns-clause-first g c i =
    index_is high_nibble both_nibbles _
    (over_is high_nibble _ (c.high_nibbles-high.ensures i) (c.low_nibbles-low.ensures i)
    (c.lookup-high_inverse.ensures i) (c.lookup-scaled.ensures i) (c.sum-over_high.ensures i))
    (c.lookup-at_high.ensures i)
    (zip_of_maps high_nibble low_nibble _ (c.sum-both.ensures i) (c.high_nibbles-high.ensures i)
    (c.low_nibbles-low.ensures i))
    (c.sum-first.ensures i)

pub returns-clause-second : goal.returns-clause-second
unfolding second_of
returns-clause-second g c i =
    index_is both_nibbles high_nibble _
    (over_is both_nibbles _
    (zip_of_maps high_nibble low_nibble _ (c.sum-both.ensures i) (c.high_nibbles-high.ensures i)
    (c.low_nibbles-low.ensures i))
    (c.low_nibbles-low.ensures i) (c.lookup-both_inverse.ensures i) (c.lookup-scaled.ensures i)
    (c.sum-over_both.ensures i))
    (c.lookup-at_both.ensures i) (c.high_nibbles-high.ensures i) (c.sum-second.ensures i)

pub returns-clause-first_indices : goal.returns-clause-first_indices
returns-clause-first_indices g c i =
    made_indices first_of first_cases _ (c.blocks_have_16_bytes.ensures i) (returns-clause-first g c i)

pub returns-clause-second_indices : goal.returns-clause-second_indices
returns-clause-second_indices g c i =
    made_indices second_of second_cases _ (c.blocks_have_16_bytes.ensures i) (returns-clause-second g c i)
