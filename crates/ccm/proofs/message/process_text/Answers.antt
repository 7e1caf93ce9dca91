use Rattle.std.proofs.Common.{◌∙◌}
use Rattle.ccm.proofs.Counters.{text_by_blocks}
use Rattle.ccm.proofs.message.process_text.Goals as goal

pub returns : goal.returns
returns g c =
    let w = g.C.RoundKeysUser.round_keys c.args.cipher.now in
    c.add_keystream.ensures
    ∙ text_by_blocks w c.args.nonce.now c.first_counter-block.result c.args.text.now
    c.block_has_16_bytes.ensures c.first_counter-block.ensures c.requires.shortest c.requires.longest c.requires.fits
