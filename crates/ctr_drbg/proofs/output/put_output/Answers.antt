-- Output that is added to zeros is the output.
use Rattle.std.proofs.Common.{◌≡◌, ◌∙◌, ap, replicate, length}
use Rattle.ctr_drbg.specs.CtrDrbg.{exclusive_or, output}
use Rattle.ctr_drbg.proofs.Keystream.{output_plus_zeros}
use Rattle.ctr_drbg.proofs.output.put_output.Goals as goal

pub returns : goal.returns
returns g c =
    let key = g.C.KeyInit.own_key c.args.cipher.now in
    let v = c.args.v.now in
    let n = length c.args.bytes.now in
    let zeros : c.fill.new.self ≡ replicate n 0 = c.fill.ensures.after (λ y same. same) in
    c.add_output.ensures
    ∙ ap (λ m. exclusive_or (output key v m) c.fill.new.self) c.fill.ensures.len
    ∙ ap (λ l. exclusive_or (output key v n) l) zeros
    ∙ output_plus_zeros key v n
