-- POLYVAL by GCM's products, three blocks at a time: with H times x^-1, and bytes in the other
-- order.
use Rattle.std.proofs.Common.{ℕ, List, ◌/◌, ◌∙◌, ap, bit_xor, length}
use Rattle.std.specs.Int.{w128, from_le_bytes, to_le_bytes}
use Rattle.aes_cipher.specs.Blocks.{padded}
use Rattle.gcm.specs.Gcm.{product}
use Rattle.gcm.specs.Hashed.{hashed_as}
use Rattle.gcm_siv.proofs.Hashing.{hash_is}
use Rattle.gcm_siv.proofs.hash.MultiplesRoomPolyvalRoom.hash.Goals as goal

pub returns : goal.returns
returns c h small is =
    let g : ℕ = c.new-multiples.result in
    let a : List ℕ = c.args.additional.now in
    let p : List ℕ = c.args.text.now in
    let on = λ (s : ℕ) (x : List ℕ). hashed_as (from_le_bytes w128) g s (padded x)
    (length (padded x) / 16) in
    c.bytes_of.ensures
    ∙ ap (to_le_bytes w128) (c.hash_string_and_end.ensures
    ∙ (λ t. product (bit_xor (on (c.hash_string-value.ensures t) p) (c.last_block-end.ensures t)) g)
    ∙ hash_is h g a p (c.new-multiples.ensures ∙ is) small)
