use Rattle.std.proofs.Common.{◌≡◌, ◌∙◌, ◌-◌, ◌∷◌, ◌++◌, length, sym, arith}
use Rattle.ccm.specs.Ccm.{counter_block}
use Rattle.ccm.proofs.Bytes.{bytes_zero}
use Rattle.ccm.proofs.formatting.first_counter.Goals as goal

pub returns : goal.returns
unfolding counter_block
returns c =
    let nonce = c.args.nonce.now in
    let q = 15 - length nonce in
    let first : 14 - length nonce ≡ q - 1 = omega (arith, c.requires.longest) in
    c.framed.ensures ∙ (λ t. first t ∷ (nonce ++ sym (bytes_zero q) t))
