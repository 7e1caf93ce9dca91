-- POLYVAL by GCM's products, block by block: with H times x^-1, and bytes in the other order.
use Rattle.std.proofs.Common.{ℕ, List, ◌/◌, ◌∙◌, ap, bit_xor, length}
use Rattle.std.specs.Int.{w128, from_le_bytes}
use Rattle.aes_cipher.specs.Blocks.{padded}
use Rattle.gcm.specs.Gcm.{product}
use Rattle.gcm.specs.Hashed.{hashed_as}
use Rattle.gcm_siv.proofs.Hashing.{hash_is}
use Rattle.gcm_siv.proofs.hash.hash_by.Goals as goal

pub returns : goal.returns
returns b c h small is =
    let g : ℕ = b.F.Factor.subkey c.args.factor.now in
    let a : List ℕ = c.args.additional.now in
    let p : List ℕ = c.args.text.now in
    let on = λ (s : ℕ) (x : List ℕ). hashed_as (from_le_bytes w128) g s (padded x)
    (length (padded x) / 16) in
    c.hash_block.ensures
    ∙ ap (λ v. product v g) (λ t. bit_xor ((c.hash_singly-second.ensures
    ∙ ap (λ s. on s p) (c.hash_singly-first.ensures ∙ ap (λ s. on s a) c.requires.zero)) t)
    (c.last_block.ensures t))
    ∙ hash_is h g a p is small
