-- The cipher of the hash, summed with the nonce and with its last bit cleared, is the tag.
use Rattle.std.proofs.Common.{◌∙◌, ◌%◌, [], ◌∷◌, ◌++◌, ap, replicate, slice_index, take}
use Rattle.aes_planes.specs.Fips197.{add_round_key, cipher_with, key_expansion}
use Rattle.gcm_siv.specs.GcmSiv.{tag_input, tag_under}
use Rattle.gcm_siv.proofs.message.put_tag.Goals as goal

pub returns : goal.returns
unfolding tag_input tag_under
returns g c h small is =
    c.encrypt_block.ensures
    ∙ ap (cipher_with (key_expansion (g.K.MessageKey.own_key c.args.key.now))) (c.tag_input.ensures
    ∙ ap (λ s. let block = add_round_key s (c.args.nonce.now ++ replicate 4 0) in
    take 15 block ++ slice_index block 15 % 128 ∷ []) (c.hash.ensures h small is))
