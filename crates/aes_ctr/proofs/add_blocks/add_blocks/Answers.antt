-- The bytes are summed in runs: with what is left of the first block, with whole blocks, and with
-- part of the last.
use Rattle.std.proofs.Common.{◌≡◌, ℕ, ◌∙◌, ◌+◌, ◌-◌, ◌/◌, ◌%◌, [], slice_index}
use Rattle.std.proofs.Common.{slice_index_or, length, refl, ap, arith}
use borrow.Rule.Slice.PartMut.{same_len_mid}
use Rattle.aes_ctr.specs.CounterMode.{plus_stream}
use Rattle.aes_ctr.specs.Private.{added_from, byte_of_blocks}
use Rattle.aes_ctr.proofs.Places.{byte_of_block}
use Rattle.aes_ctr.proofs.Runs.{added_run, added_all, first_run}
use Rattle.aes_ctr.proofs.add_blocks.add_blocks.Goals as goal
use Rattle.aes_ctr.proofs.add_blocks.add_blocks.Goals.{then-from-ne0, else-from-ne0}

pub whole-init : goal.whole-init
whole-init c =
    let blocks = c.args.blocks.now in
    let stream = byte_of_blocks blocks in
    let from = c.args.from in
    elim c.if-from-ne0.branch [
      | then-from-ne0 w ↦ record {
        within = omega (arith, w.done-is, w.min-done.ensures);
        aligned = λ below. omega (arith, below, w.done-is, w.min-done.ensures);
        value = (λ i. added_from stream from (w.done-is i) (w.bytes-is i))
            ∙ first_run stream (slice_index (slice_index_or blocks (from / 16) [])) from
            (from % 16) w.min-done.result
            c.args.bytes.now w.add_part.new.bytes (omega (arith, w.min-done.ensures))
            w.add_part.ensures
            (λ j inside. byte_of_block blocks from _ j refl
            (omega (arith, inside, w.min-done.ensures)));
      }
      | else-from-ne0 w ↦
          let start : from + 0 ≡ from = omega arith in
          record {
            within = omega (arith, w.done-is);
            aligned = λ below. omega (arith, w.done-is, w.if-from-ne0.false);
            value = (λ i. added_from stream from (w.done-is i) (w.bytes-is i))
                ∙ ap (λ m. plus_stream stream m c.args.bytes.now) start;
          }
    ]

pub whole-preserved : goal.whole-preserved
whole-preserved c =
    let blocks = c.args.blocks.now in
    let done = c.whole.done in
    let place : ℕ = c.args.from + done in
    let aligned : place % 16 ≡ 0 = c.whole.invariant.aligned (omega arith) in
    record {
      within = omega arith;
      aligned = λ below. omega (arith, aligned);
      value =
          added_run (byte_of_blocks blocks) (slice_index (slice_index_or blocks (place / 16) []))
          c.args.from 0 done 16 _
          c.whole.bytes _ (omega arith) (omega arith) c.add_part-in-whole.ensures
          (λ j inside. byte_of_block blocks place 0 j (omega (arith, aligned))
          (omega (arith, inside)))
          ∙ c.whole.invariant.value;
    }

pub returns-then-done-bytes : goal.returns-then-done-bytes
returns-then-done-bytes c =
    let blocks = c.args.blocks.now in
    let stream = byte_of_blocks blocks in
    let bytes = c.whole.bytes in
    let done = c.whole.done in
    let n : ℕ = length bytes - done in
    let place : ℕ = c.args.from + done in
    let aligned : place % 16 ≡ 0 = c.whole.invariant.aligned (omega arith) in
    let long = same_len_mid done n bytes c.add_part-then-done-bytes.new.bytes
    c.add_part-then-done-bytes.auto.bytes in
    added_all stream c.args.from (done + n) _ c.args.bytes.now (omega (arith, long))
    (added_run stream (slice_index (slice_index_or blocks (place / 16) []))
    c.args.from 0 done n n bytes _ refl
    (omega arith) c.add_part-then-done-bytes.ensures
    (λ j inside. byte_of_block blocks place 0 j (omega (arith, aligned)) (omega arith))
    ∙ c.whole.invariant.value)

pub returns-else-done-bytes : goal.returns-else-done-bytes
returns-else-done-bytes c =
    added_all (byte_of_blocks c.args.blocks.now) c.args.from c.whole.done c.whole.bytes _
    (omega arith) c.whole.invariant.value
