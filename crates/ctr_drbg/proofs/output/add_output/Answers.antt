-- Counter mode from V + 1 on adds the output blocks of Key and V.
use Rattle.ctr_drbg.proofs.Keystream.{output_plus}
use Rattle.ctr_drbg.proofs.output.add_output.Goals as goal

pub returns : goal.returns
returns g c =
    output_plus (g.C.RoundKeysUser.round_keys c.args.cipher.now)
    (g.C.KeyInit.own_key c.args.cipher.now) c.args.v.now
    c.args.bytes.now c.add_keystream.new.bytes c.add_keystream.ensures
    (g.met.C.KeyInit.expanded c.args.cipher.now)
