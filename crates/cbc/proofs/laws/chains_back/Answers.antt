use Rattle.cbc.proofs.Chains.{unchained_chained}
use Rattle.cbc.proofs.laws.chains_back.Goals as goal

pub returns : goal.returns
returns c w iv blocks keys first all =
    unchained_chained w (λ b. c.inverse_ciphers_with.ensures.inv_after w b keys)
    (λ b. c.sums_of_blocks.ensures.cipher w b keys)
    c.sums_of_blocks.ensures.sum c.sums_of_blocks.ensures.twice iv blocks
    first all
