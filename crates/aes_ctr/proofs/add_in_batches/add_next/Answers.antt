use Rattle.std.proofs.Common.{◌≡◌, ℕ, ◌<◌, ◌∙◌, ◌+◌, ◌%◌, ◌^◌, ap, arith}
use Rattle.aes_ctr.specs.Streams.{stream_byte}
use Rattle.aes_ctr.specs.Private.{byte_of_blocks}
use Rattle.aes_ctr.proofs.Places.{byte_of_keystream}
use Rattle.aes_ctr.proofs.Runs.{added_run}
use Rattle.aes_ctr.proofs.add_in_batches.add_next.Goals as goal

pub returns-clause-added : goal.returns-clause-added
returns-clause-added g c = λ ends.
    let w = g.B.RoundKeysUser.round_keys c.args.backend.now in
    let block = g.K.CounterBlocks.block c.args.counters.now in
    let place : ℕ = (c.args.position + c.args.done) % 2 ^ 64 in
    let blocks = c.fill_by_backend.new.blocks in
    let n = c.div_ceil-count.result in
    let part = c.min-part.result in
    let is : place ≡ c.args.position + c.args.done = omega (arith, ends, c.requires) in
    let agree : (j : ℕ) → j < part → byte_of_blocks blocks (place % 16 + j)
    ≡ stream_byte w block (c.args.position + c.args.done + j) =
    λ j inside. byte_of_keystream w block blocks n place j c.fill_by_backend.ensures.first
    (omega arith)
    ∙ ap (λ m. stream_byte w block (m + j)) is in
    added_run (stream_byte w block) (byte_of_blocks blocks) c.args.position
    (place % 16) c.args.done part _
    c.args.bytes.now _ (omega arith) (omega arith) c.add_blocks.ensures agree
