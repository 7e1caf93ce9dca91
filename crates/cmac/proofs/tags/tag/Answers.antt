use Rattle.std.proofs.Common.{◌≡◌, ◌∙◌, ℕ, List, ◌-◌, ◌*◌, ◌/◌, length, replicate, ap, arith}
use Rattle.std.specs.List.{slice_range}
use Rattle.aes_planes.specs.Fips197.{cipher_with, add_round_key}
use Rattle.cmac.specs.Chain.{chained}
use Rattle.cmac.specs.Cmac.{before_last, cmac, last_block}
use Rattle.cmac.proofs.Chains.{through_first}
use Rattle.cmac.proofs.tags.tag.Goals as goal

pub returns : goal.returns
unfolding before_last cmac
returns g c =
    let w = g.C.RoundKeysUser.round_keys c.args.cipher.now in
    let m = c.args.message.now in
    let zeros : List ℕ = replicate 16 0 in
    let before : ℕ = c.saturating_sub-before.result / 16 in
    let count : before ≡ (length m - 1) / 16 = omega (arith, c.saturating_sub-before.ensures) in
    let chain = c.chain.ensures ∙ through_first w zeros m before (omega (arith, count)) in
    c.tag_at_end.ensures
    ∙ ap (λ v. cipher_with w (add_round_key v (last_block w (slice_range m (16 * before) (length m))))) chain
    ∙ ap (λ n. cipher_with w (add_round_key (chained w zeros m n)
    (last_block w (slice_range m (16 * n) (length m)))))
    count
