use Rattle.std.proofs.Common.{◌≡◌, ◌∙◌, ◌-◌, List, ℕ, length, arith, min, ◌<◌, ◌≤◌}
use Rattle.cmac.specs.Chain.{chained_through}
use Rattle.ccm.specs.Ccm.{encoded_length}
use Rattle.ccm.proofs.Lengths.{filled_block, first_and_rest, no_data}
use Rattle.ccm.proofs.message.chain_additional.Goals as goal

pub returns-then-additional-eq0 : goal.returns-then-additional-eq0
returns-then-additional-eq0 g c =
    no_data (g.C.RoundKeysUser.round_keys c.args.cipher.now) c.args.value.now c.args.additional.now
    (omega (arith, c.if-additional-eq0.true))

pub returns : goal.returns
returns g c =
    let w = g.C.RoundKeysUser.round_keys c.args.cipher.now in
    let y = c.args.value.now in
    let a = c.args.additional.now in
    let e : List ℕ = encoded_length (length a) in
    let size = c.put_length-size in
    let some : 0 < length e = omega (arith, size.ensures.size, size.ensures.some) in
    let few : length e ≤ 16 = omega (arith, size.ensures.size, size.ensures.few) in
    let least : c.min.result ≡ min (length a) (16 - length e) =
    omega (arith, size.ensures.size, c.min.ensures) in
    let block = filled_block e a size.new.block c.copy_from_slice.new.self size.result _
    c.min.result size.ensures.size size.ensures.length
    (c.copy_from_slice.ensures.after ∙ c.split_at.ensures.front) c.split_at.ensures.front_len in
    c.chain-2.ensures
    ∙ (λ t. chained_through w (c.chain.ensures t) (c.split_at.ensures.back t))
    ∙ first_and_rest w y e a _ c.min.result some few least block
