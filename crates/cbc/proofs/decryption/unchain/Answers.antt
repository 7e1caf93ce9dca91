-- The finished blocks, followed by what is left, unchained from the last encrypted block so far,
-- are the whole chain throughout: each part moves the place between them.
use Rattle.std.proofs.Common.{◌≡◌, ◌+◌, ◌≤◌, ◌∙◌, length, sym, refl, arith}
use Rattle.cbc.specs.Cbc.{unchained}
use Rattle.cbc.proofs.Chains.{chain_finished, chain_passed, last_part, unchained_part}
use Rattle.cbc.proofs.decryption.unchain.Goals as goal

pub loop-done-preserved : goal.loop-done-preserved
loop-done-preserved g c =
    let w = g.B.RoundKeysUser.round_keys c.args.backend.now in
    let part = c.unchain_part.new in
    let fits : c.loop-done.done + c.min-count.result ≤ length c.loop-done.blocks =
    omega (arith, c.min-count.ensures) in
    record {
      within = omega (arith, c.min-count.ensures, c.loop-done.auto.blocks);
      value = rw (c.unchain_part.ensures.previous)
          (unchained_part c.loop-done.done c.min-count.result _ c.loop-done.blocks part.blocks
          (omega arith) fits
          c.unchain_part.auto.blocks w c.loop-done.previous c.unchain_part.ensures.unchained
          ∙ c.loop-done.invariant.value);
      last = rw (c.unchain_part.ensures.previous)
          (last_part c.loop-done.done c.min-count.result _ c.loop-done.blocks part.blocks
          (omega arith) fits
          c.unchain_part.auto.blocks c.loop-done.previous
          ∙ c.loop-done.invariant.last);
    }

pub returns-clause-unchained : goal.returns-clause-unchained
unfolding unchained
returns-clause-unchained g c =
    let w = g.B.RoundKeysUser.round_keys c.args.backend.now in
    let ended : c.loop-done.done ≡ length c.loop-done.blocks =
    omega (arith, c.loop-done.invariant.within, c.loop-done.auto.blocks) in
    sym (chain_finished (unchained w c.loop-done.previous)
    refl c.loop-done.blocks c.loop-done.blocks c.loop-done.done
    ended ended)
    ∙ c.loop-done.invariant.value

pub returns-clause-previous : goal.returns-clause-previous
returns-clause-previous g c =
    chain_passed c.loop-done.previous c.loop-done.blocks c.loop-done.done
    (omega (arith, c.loop-done.invariant.within, c.loop-done.auto.blocks))
    ∙ c.loop-done.invariant.last
