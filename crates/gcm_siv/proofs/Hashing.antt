-- POLYVAL of additional data, a text and their lengths, by products of GCM's field.
use Rattle.std.proofs.Common.{◌≡◌, ℕ, ◌+◌, ◌/◌, ◌^◌, ◌<◌, List, ◌++◌, length, bit_xor, refl, ap}
use Rattle.std.proofs.Common.{sym, ◌∙◌}
use Rattle.std.specs.Int.{w128, from_le_bytes}
use Rattle.aes_cipher.specs.Blocks.{padded}
use Rattle.gcm.specs.Gcm.{next_v, product}
use Rattle.gcm.specs.Hashed.{hashed_as}
use Rattle.aes_cipher.proofs.Strings.{length-padded}
use Rattle.gcm.proofs.Messages.Hashing.{hashed_as_pieces}
use Rattle.gcm_siv.specs.GcmSiv.{hash, length_block, polyval}
use Rattle.gcm_siv.proofs.Field.{polyval_summed}

-- GCM's products make S_s of additional data and a text
pub hash_is : (h g : ℕ) (a p : List ℕ) → g ≡ next_v h → h < 2 ^ 128
    → let on = λ (s : ℕ) (x : List ℕ). hashed_as (from_le_bytes w128) g s (padded x)
    (length (padded x) / 16) in
    product (bit_xor (on (on 0 a) p) (from_le_bytes w128 (length_block a p))) g ≡ hash h a p
unfolding hash polyval length_block
hash_is h g a p is small =
    let x : List ℕ = padded a ++ padded p ++ length_block a p in
    sym (hashed_as_pieces (from_le_bytes w128) g (padded a) (padded p) (length_block a p)
    ((length a + 15) / 16)
    ((length p + 15) / 16) (length-padded a) (length-padded p) refl)
    ∙ ap (λ v. hashed_as (from_le_bytes w128) v 0 x (length x / 16)) is
    ∙ polyval_summed h 0 x (length x / 16) small
