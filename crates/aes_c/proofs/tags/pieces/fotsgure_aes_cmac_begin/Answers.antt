-- A message begins under every list of round keys.
use Rattle.aes_c.specs.Form.{round_keys_in}
use Rattle.aes_c.proofs.tags.pieces.fotsgure_aes_cmac_begin.Goals as goal

pub returns-clause-begun : goal.returns-clause-begun
returns-clause-begun c done = c.begin.ensures (round_keys_in c.args.aes.now.key)
