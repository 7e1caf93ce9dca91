use Rattle.std.proofs.Common.{◌≡◌, ◌∙◌, ◌+◌, ◌-◌, ◌*◌, ◌/◌, ◌≤◌, ap, arith, drop, length}
use Rattle.std.proofs.Common.{length-take, map, take, sym}
use Rattle.std.specs.Simd.{first_chunks}
use Rattle.aes_cipher.proofs.ByteBlocks.{processed_run}
use Rattle.aes_cipher.proofs.bytes.processing.process_bytes.Goals as goal

pub loop-done-preserved : goal.loop-done-preserved
loop-done-preserved g c =
    let f = g.D.Direction.processed (g.C.RoundKeysUser.round_keys c.args.cipher.now) in
    let xs = c.loop-done.bytes in
    let ys = c.process_part.new.bytes in
    let i = c.loop-done.done in
    let n = c.min-count.result in
    let m = length c.args.bytes.now / 16 in
    let many : length (take n c.loop-done.room) ≡ n =
    omega (arith, length-take n c.loop-done.room) in
    let inside : 16 * m ≤ length xs = omega arith in
    let fits : i + n ≤ m = omega arith in
    let long : length ys ≡ 16 * n = omega (arith, c.process_part.auto.bytes) in
    record {
      within = fits;
      value =
          processed_run f m i n _ _ xs ys (omega arith) (omega arith) fits inside long
          (ap (λ k. first_chunks 16 k ys) (sym many) ∙ c.process_part.ensures
          ∙ ap (λ k. map f (first_chunks 16 k (take (16 * (i + n) - 16 * i) (drop (16 * i) xs))))
          many)
          ∙ c.loop-done.invariant.value;
    }
