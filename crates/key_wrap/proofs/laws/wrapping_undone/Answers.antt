use Rattle.key_wrap.proofs.Undone.{wrapped_undone}
use Rattle.key_wrap.proofs.laws.wrapping_undone.Goals as goal

pub returns : goal.returns
returns c w key keys all some few =
    let halves = c.halves_and_blocks.ensures in
    wrapped_undone w (λ b. c.inverse_ciphers_with.ensures.inv_after w b keys)
    (λ b. c.sums_of_blocks.ensures.cipher w b keys)
    halves.block halves.first halves.second halves.back key all some few
