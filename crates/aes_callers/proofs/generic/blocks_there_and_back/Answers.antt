-- Each block comes back, since InvCipher undoes Cipher on lists of blocks.
use Rattle.std.proofs.Common.{◌∙◌, ap, map}
use Rattle.aes_planes.specs.Fips197.{inv_cipher_with}
use Rattle.aes_callers.proofs.generic.blocks_there_and_back.Goals as goal

pub returns : goal.returns
returns g c =
    let w = g.C.RoundKeysUser.round_keys c.args.cipher.now in
    c.decrypt_blocks.ensures ∙ ap (map (inv_cipher_with w)) c.encrypt_blocks.ensures
    ∙ c.inverse_ciphers_on_blocks.ensures.inv_after w c.args.blocks.now c.round_keys_are_blocks.ensures
    c.blocks_have_16_bytes.ensures
