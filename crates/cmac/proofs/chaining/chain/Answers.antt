use Rattle.std.proofs.Common.{◌≡◌, ◌∙◌, ◌+◌, suc, ap, refl, arith}
use Rattle.aes_planes.specs.Fips197.{cipher_with, add_round_key}
use Rattle.aes_cipher.specs.Blocks.{padded}
use Rattle.cmac.specs.Chain.{chained, chained_through}
use Rattle.aes_cipher.proofs.Strings.{padded_blocks}
use Rattle.cmac.proofs.Chains.{part_padded}
use Rattle.cmac.proofs.chaining.chain.Goals as goal

pub loop-i-init : goal.loop-i-init
unfolding chained
loop-i-init g c = refl

pub loop-i-preserved : goal.loop-i-preserved
unfolding chained
loop-i-preserved g c =
    let w = g.C.RoundKeysUser.round_keys c.args.cipher.now in
    let s = c.args.bytes.now in
    let next : suc c.loop-i.i ≡ c.loop-i.i + 1 = omega arith in
    let part = part_padded s _ c.loop-i.i c.min-end.result
    (omega (arith, c.loop-i-test.true, c.div_ceil-i-end.ensures))
    (omega (arith, c.min-end.ensures)) refl in
    c.chain_block.ensures
    ∙ (λ t. cipher_with w (add_round_key (c.loop-i.invariant t) (part t)))
    ∙ ap (chained w c.args.value.now (padded s)) next

pub returns : goal.returns
unfolding chained_through
returns g c =
    let w = g.C.RoundKeysUser.round_keys c.args.cipher.now in
    let s = c.args.bytes.now in
    c.loop-i.invariant
    ∙ ap (chained w c.args.value.now (padded s)) (omega (arith, padded_blocks s))
