use Rattle.std.proofs.Common.{◌≡◌, ◌∙◌, ◌*◌, ◌/◌, ◌%◌, ◌+◌, ◌^◌, ap, arith}
use Rattle.aes_ctr.specs.Streams.{stream_byte}
use Rattle.aes_ctr.proofs.Runs.{added_run, added_all}
use Rattle.aes_ctr.proofs.add_in_batches.add_by_backend.Goals as goal

pub whole-preserved : goal.whole-preserved
whole-preserved g c =
    let w = g.B.RoundKeysUser.round_keys c.args.backend.now in
    let block = g.K.CounterBlocks.block c.args.counters.now in
    let n = 16 * c.PAR_BLOCKS-size.result in
    let first = (c.args.position + c.whole.done) % 2 ^ 64 / 16 in
    let aligned : (c.args.position + c.whole.done) % 16 ≡ 0 = c.whole.invariant.aligned (omega (
      arith,
      c.PAR_BLOCKS-size.ensures,
      g.B.ParBlocksSizeUser.at_least_one,
    )) in
    record {
      within = omega arith;
      aligned = λ below. omega (arith, aligned);
      value = λ ends.
          let is : 16 * first ≡ c.args.position + c.whole.done = omega (arith, ends, aligned) in
          added_run (stream_byte w block) (stream_byte w block) c.args.position
          (16 * first) c.whole.done n _
          c.whole.bytes _
          (omega arith) (omega arith) c.add_batch.ensures
          (λ j inside. ap (λ m. stream_byte w block (m + j)) is)
          ∙ c.whole.invariant.value ends;
    }

pub returns : goal.returns
returns g c = λ ends.
    let stream = stream_byte (g.B.RoundKeysUser.round_keys c.args.backend.now)
    (g.K.CounterBlocks.block c.args.counters.now) in
    added_all stream c.args.position c.rest.done c.rest.bytes _ (omega arith)
    (c.rest.invariant.value ends)
