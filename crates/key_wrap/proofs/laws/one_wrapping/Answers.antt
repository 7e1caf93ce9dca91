use Rattle.key_wrap.proofs.Rewrapped.{wrapped_again}
use Rattle.key_wrap.proofs.laws.one_wrapping.Goals as goal

pub returns : goal.returns
returns c w key sealed keys all some few is =
    let halves = c.halves_and_blocks.ensures in
    wrapped_again w keys (λ b. c.inverse_ciphers_with.ensures.inv_before w b keys)
    halves.block halves.first halves.second halves.back key sealed all some few is
