use Rattle.aes_permute.specs.declared.tables.TheConstants.{KEY_5_LOW, KEY_5_HIGH, KEY_4_LOW}
use Rattle.aes_permute.specs.declared.tables.TheConstants.{KEY_4_HIGH}
use Rattle.aes_permute.proofs.MixedBack.{key_made_4, key_made_5, key_multiplied, mixed_key_is}
use Rattle.aes_permute.proofs.rounds.decrypting_key.Goals as goal

pub returns : goal.returns
returns c =
    mixed_key_is c.args.number c.args.key _ (c.mixed_back.ensures 0 c.args.key c.requires
    (key_multiplied 5 KEY_5_LOW KEY_5_HIGH c.args.key key_made_5 c.requires.1
    (c.looked_up_by_nibbles-by_5.ensures 0))
    (key_multiplied 4 KEY_4_LOW KEY_4_HIGH c.args.key key_made_4 c.requires.1
    (c.looked_up_by_nibbles-by_4.ensures 0)))
