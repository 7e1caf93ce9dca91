use Rattle.std.proofs.Common.{◌≡◌, ◌∙◌, ap, arith, length, map, sym}
use Rattle.std.specs.List.{concat}
use Rattle.std.specs.Simd.{first_chunks}
use Rattle.std.proofs.lemmas.List.Concat.{concat_is}
use Rattle.aes_cipher.proofs.ByteBlocks.{chunks_of_joined}
use Rattle.aes_cipher.proofs.bytes.processing.process_part.Goals as goal

pub returns : goal.returns
returns g c =
    let f = g.D.Direction.processed (g.C.RoundKeysUser.round_keys c.args.cipher.now) in
    let bytes = c.args.bytes.now in
    let blocks = c.process_blocks.new.blocks in
    let n = length c.args.room.now in
    let many : length blocks ≡ n = omega arith in
    let put : c.copy_from_slice-2.new.self ≡ concat blocks =
    c.copy_from_slice-2.ensures.after ∙ c.as_flattened.ensures.value ∙ sym (concat_is blocks) in
    let taken : c.copy_from_slice.new.self ≡ first_chunks 16 n bytes =
    c.copy_from_slice.ensures.after ∙ c.as_chunks.ensures.front
    ∙ ap (λ k. first_chunks 16 k bytes) (omega (arith, c.requires.as_many)) in
    ap (first_chunks 16 n) put ∙ ap (λ k. first_chunks 16 k (concat blocks)) (sym many)
    ∙ chunks_of_joined blocks c.blocks_have_16_bytes.ensures
    ∙ c.process_blocks.ensures ∙ ap (map f) taken
