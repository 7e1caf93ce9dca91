-- Each of the three loops finishes the blocks before its count: two vectors a turn, one vector, and
-- one block.
use Rattle.std.proofs.Common.{ℕ, ◌+◌, ◌*◌, List, [], length, get_or, ap, ◌∙◌, arith}
use Rattle.aes_cipher.proofs.SliceRuns.{finished}
use Rattle.aes_planes.specs.Rounds.{all_rounds}
use Rattle.aes_permute.specs.Stored.{round_keys_of}
use Rattle.aes_permute.specs.Vectors.{written}
use Rattle.aes_permute.proofs.WrittenBlocks.{length-written, finished_written, finished_two}
use Rattle.aes_permute.proofs.blocks.process_on_lanes.Goals as goal

pub pairs-preserved : goal.pairs-preserved
pairs-preserved g c =
    let f = all_rounds g.D.Direction.step g.D.Direction.last_step
    (round_keys_of g.D.LaneRounds.form c.args.keys.now) in
    let n = g.L.Lanes.BLOCKS in
    let i = c.pairs.done in
    let before = c.pairs.blocks in
    let first = g.L.Lanes.block c.process_two_vectors-first.result.0 in
    let second = g.L.Lanes.block c.process_two_vectors-first.result.1 in
    let size = c.BLOCKS-size.ensures in
    record {
      within = omega (arith, c.pairs-test.true, c.pairs.invariant.within);
      same_length = ap length c.store-in-pairs.ensures ∙ length-written second n _ _
          ∙ ap length c.store.ensures
          ∙ length-written first n _ _ ∙ c.pairs.invariant.same_length;
      value = ap (finished f (i + 2 * c.BLOCKS-size.result))
          (c.store-in-pairs.ensures ∙ (λ t. written second n (i + size t) (c.store.ensures t)))
          ∙ ap (λ m. finished f (i + 2 * m)
          (written second n (i + n) (written first n i before))) size
          ∙ finished_two f first second n i before
          (omega (
            arith,
            size,
            c.pairs-test.true,
            c.pairs.invariant.within,
            c.pairs.invariant.same_length,
          ))
          (λ k below. c.process_two_vectors-first.ensures.one k ∙ ap f (c.load-one.ensures k below))
          (λ k below. c.process_two_vectors-first.ensures.other k
          ∙ ap f (c.load-other.ensures k below ∙ ap (λ m. get_or before (i + m + k) []) size))
          ∙ c.pairs.invariant.value;
    }

pub vectors-preserved : goal.vectors-preserved
vectors-preserved g c =
    let f = all_rounds g.D.Direction.step g.D.Direction.last_step
    (round_keys_of g.D.LaneRounds.form c.args.keys.now) in
    let n = g.L.Lanes.BLOCKS in
    let i = c.vectors.done in
    let before = c.vectors.blocks in
    let processed = g.L.Lanes.block c.process_vector-processed.result in
    let size = c.BLOCKS-size.ensures in
    record {
      within = omega (arith, c.vectors-test.true, c.vectors.invariant.within);
      same_length = ap length c.store-in-vectors.ensures ∙ length-written processed n _ _
          ∙ c.vectors.invariant.same_length;
      value = ap (finished f (i + c.BLOCKS-size.result)) c.store-in-vectors.ensures
          ∙ ap (λ m. finished f (i + m) (written processed n i before)) size
          ∙ finished_written f processed n i before
          (omega (
            arith,
            size,
            c.vectors-test.true,
            c.vectors.invariant.within,
            c.vectors.invariant.same_length,
          ))
          (λ k below. c.process_vector-processed.ensures k
          ∙ ap f (c.load-one-in-vectors.ensures k below))
          ∙ c.vectors.invariant.value;
    }

pub singles-preserved : goal.singles-preserved
singles-preserved g c =
    let f = all_rounds g.D.Direction.step g.D.Direction.last_step
    (round_keys_of g.D.LaneRounds.form c.args.keys.now) in
    let i = c.singles.done in
    let before = c.singles.blocks in
    let processed : ℕ → List ℕ = λ k. c.process_vector-processed-in-singles.result in
    record {
      within = omega (arith, c.singles-test.true);
      same_length = ap length c.store-in-singles.ensures ∙ length-written processed 1 _ _
          ∙ c.singles.invariant.same_length;
      value = ap (finished f (i + 1)) c.store-in-singles.ensures
          ∙ finished_written f processed 1 i before
          (omega (arith, c.singles-test.true, c.singles.invariant.same_length))
          (λ k below. c.process_vector-processed-in-singles.ensures k
          ∙ ap f (c.load-one-in-singles.ensures k below))
          ∙ c.singles.invariant.value;
    }
