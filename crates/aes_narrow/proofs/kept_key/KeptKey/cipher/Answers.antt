-- The key that the words are read as has as many bytes as the struct says.
use Rattle.std.proofs.Common.{◌∙◌, ap, arith, length}
use Rattle.aes_narrow.specs.KeptWord.{kept_bits, kept_blocks}
use Rattle.aes_narrow.proofs.KeyLength.{sized_key}
use Rattle.aes_narrow.proofs.kept_key.KeptKey.cipher.Goals as goal

pub returns-clause-size : goal.returns-clause-size
returns-clause-size c =
    ap length c.new.ensures
    ∙ sized_key kept_bits kept_blocks c.args.self.now.length c.keys_in_room.result.now
    (omega arith) c.requires.holds c.keys_in_room.ensures.count
