use Rattle.std.proofs.Common.{◌≡◌, arith, subst, sym}
use Rattle.key_wrap.specs.Padded.{headed, key_in, wrapped_padded, IsPadded}
use Rattle.key_wrap.proofs.Headed.{headed_found, length-headed, headed_semiblocks}
use Rattle.key_wrap.proofs.Undone.{string_undone}
use Rattle.key_wrap.proofs.laws.padding_undone.Goals as goal

pub returns : goal.returns
unfolding wrapped_padded
returns c w key keys small some few =
    let halves = c.halves_and_blocks.ensures in
    let long = length-headed key in
    let undone =
    string_undone w (λ b. c.inverse_ciphers_with.ensures.inv_after w b keys)
    (λ b. c.sums_of_blocks.ensures.cipher w b keys)
    halves.block halves.first halves.second halves.back (headed key)
    (headed_semiblocks key small) (omega (arith, long, some)) (omega (arith, long, few)) in
    subst (λ s. IsPadded s × (key_in s ≡ key)) (sym undone) (headed_found key some few)
