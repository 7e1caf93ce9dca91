use Rattle.std.proofs.Common.{◌≡◌, ℕ, ◌+◌, ◌-◌, ◌*◌, ◌/◌, length, ap, ◌∙◌, arith}
use borrow.Rule.Slice.PartMut.{put_mid}
use Rattle.aes_soft.specs.Stored.{rounds_of}
use Rattle.aes_soft.proofs.Slices.{next_batch, one_fits, one_batch_less}
use Rattle.aes_soft.proofs.soft.blocks.slices.process_batches_under.Goals as goal

pub loop-done-preserved : goal.loop-done-preserved
loop-done-preserved g c =
    let n : ℕ = length c.loop-done.blocks in
    let size : ℕ = c.LEN-size.result in
    let done : ℕ = c.loop-done.done in
    let so_far = c.loop-done.invariant.blocks in
    let fits = one_fits (n - done) size (omega arith) so_far.whole in
    let left : length (put_mid done (done + size - done)
    c.loop-done.blocks c.process_batch_under.new.blocks) - (done + size)
    ≡ n - done - size = omega arith in
    record {
      blocks = next_batch _ _ done _ _ _ _ so_far c.loop-done-test.true
          (omega arith) c.process_batch_under.ensures.blocks;
      layers = ap (λ v. c.process_batch_under.new.layers
          + rounds_of (length c.args.words.now) * (v / size)) left
          ∙ omega (
            arith,
            c.process_batch_under.ensures.layers,
            c.loop-done.invariant.layers,
            one_batch_less (rounds_of (length c.args.words.now)) (n - done) size so_far.some fits,
          );
    }
