use Rattle.std.proofs.Common.{◌∙◌, ◌++◌, length, ap}
use Rattle.aes_planes.specs.Fips197.{cipher_with, add_round_key}
use Rattle.cmac.specs.Chain.{chained_through}
use Rattle.ccm.specs.Ccm.{chain_end, encoded_length}
use Rattle.ccm.proofs.message.put_tag.Goals as goal

pub returns : goal.returns
unfolding chain_end
returns g c =
    let w = g.C.RoundKeysUser.round_keys c.args.cipher.now in
    let a = c.args.additional.now in
    let begun = c.encrypt_block.ensures ∙ ap (cipher_with w) c.first_block.ensures in
    let additional = c.chain_additional.ensures
    ∙ ap (λ y. chained_through w y (encoded_length (length a) ++ a)) begun in
    let end = c.chain.ensures ∙ ap (λ y. chained_through w y c.args.text.now) additional in
    let mask = c.«encrypt_block-2».ensures ∙ ap (cipher_with w) c.first_counter-mask.ensures in
    c.sum_of_blocks.ensures ∙ (λ t. add_round_key (end t) (mask t))
