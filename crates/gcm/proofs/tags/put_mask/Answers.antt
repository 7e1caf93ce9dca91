-- The mask is the cipher of J_0, read as a number and written again.
use Rattle.std.proofs.Common.{◌∙◌, ap, sym}
use Rattle.std.specs.Int.{w128, to_be_bytes}
use Rattle.aes_planes.specs.Fips197.{cipher_with}
use Rattle.gcm.proofs.tags.put_mask.Goals as goal

pub returns : goal.returns
returns g c =
    let w = g.C.RoundKeysUser.round_keys c.args.cipher.now in
    c.encrypt_block.ensures
    ∙ ap (cipher_with w) (sym c.number_of_block.ensures.back
    ∙ ap (to_be_bytes w128) c.number_of_block.ensures.number)
