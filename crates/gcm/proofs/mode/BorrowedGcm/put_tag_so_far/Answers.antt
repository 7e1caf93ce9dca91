-- The hash of what came in pieces, with the lengths that were counted, under the mask of J_0.
use Rattle.std.proofs.Common.{◌≡◌, ℕ, ◌*◌, ◌/◌, ◌∙◌, ◌++◌, inl, inr, ap, arith, bit_xor, length}
use Rattle.std.specs.Int.{w64, w128, to_be_bytes, from_be_bytes}
use Rattle.aes_cipher.specs.Blocks.{padded}
use Rattle.gcm.specs.Gcm.{gctr, hash_subkey, hashed, product, tag}
use Rattle.gcm.specs.Pieces.{hashed_padded}
use Rattle.gcm.proofs.Messages.InPieces.{no_text, so_far, summed}
use Rattle.gcm.proofs.mode.BorrowedGcm.put_tag_so_far.Goals as goal

pub returns : goal.returns
unfolding tag
returns g c phase iv a t other at =
    let h : ℕ = hash_subkey c.args.self.now in
    let v : ℕ = c.hash_so_far-value.result in
    let m : ℕ = c.min-additional.result in
    let n : ℕ = c.min-text.result in
    let known = so_far phase c.args.self.now iv a t c.args.message.now at in
    let subkey : c.self.inside.room ≡ h = c.self.invariant ∙ ap hash_subkey c.self.view_is in
    let value : v ≡ hashed h (hashed_padded h a) (padded t) (length (padded t) / 16) =
    elim at [
      | inl b ↦ no_text h v a t (c.hash_so_far-value.ensures.additional iv a b.0) b.1
      | inr is ↦ c.hash_so_far-value.ensures.text phase iv a t other is
    ] in
    let additional : m ≡ length a = omega (arith, known.additional, known.short) in
    let text : n ≡ length t = omega (arith, known.text, known.short_text) in
    let sum = c.hash_lengths-value.ensures
    ∙ ap (λ k. product
    (bit_xor v (from_be_bytes w128 (to_be_bytes w64 (8 * m) ++ to_be_bytes w64 (8 * n)))) k) subkey
    ∙ summed h v m n a t value additional text in
    let w = g.C.RoundKeysUser.round_keys c.self.inside.cipher in
    c.add_masked.ensures w (from_be_bytes w128 c.args.message.now.first) c.put_mask.ensures
    ∙ (λ i. gctr (c.self.view_is i) (known.first i) (to_be_bytes w128 (sum i)))
