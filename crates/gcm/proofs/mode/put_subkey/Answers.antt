-- H is the cipher of the block of zeros.
use Rattle.std.proofs.Common.{◌∙◌, ap, [], slice_index_or}
use Rattle.std.specs.Int.{w128, from_be_bytes}
use Rattle.aes_planes.specs.Fips197.{cipher_with}
use Rattle.gcm.specs.Gcm.{hash_subkey}
use Rattle.gcm.proofs.Messages.Hashing.{one_block_of}
use Rattle.gcm.proofs.mode.put_subkey.Goals as goal

pub returns-clause-subkey : goal.returns-clause-subkey
unfolding hash_subkey
returns-clause-subkey g c =
    let w = g.C.RoundKeysUser.round_keys c.args.cipher.now in
    let lent = c.value_mut.ensures.value ∙ c.zeroed-subkey.ensures in
    c.put.ensures.subkey ∙ c.number_of_block.ensures.number
    ∙ ap (from_be_bytes w128) (one_block_of _ _ _ _ _ lent c.value.ensures
    ∙ c.encrypt_block.ensures ∙ ap (λ l. cipher_with w (slice_index_or l 0 [])) lent)
