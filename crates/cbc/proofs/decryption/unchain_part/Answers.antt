-- All blocks are decrypted first, and each turn of the loop adds to one the encrypted block before
-- it, which the copy still has: the finished blocks and what is left are the whole chain
-- throughout.
use Rattle.std.proofs.Common.{◌≡◌, ◌<◌, [], ◌∙◌, ap, get_or, length, map, sym, refl, arith}
use Rattle.std.proofs.lemmas.List.{get_or-map}
use Rattle.aes_planes.specs.Fips197 as fips
use Rattle.cbc.specs.Cbc.{unchained}
use Rattle.cbc.proofs.Chains.{chain_finished, chain_passed, last_left, same_ahead, still_ahead}
use Rattle.cbc.proofs.Chains.{unchained_next}
use Rattle.cbc.proofs.decryption.unchain_part.Goals as goal

pub loop-k-preserved : goal.loop-k-preserved
loop-k-preserved g c =
    let w = g.B.RoundKeysUser.round_keys c.args.backend.now in
    let f = fips.inv_cipher_with w in
    let ys = c.args.blocks.now in
    let xs = c.loop-k.blocks in
    let k = c.loop-k.k in
    let inside : k < length ys = omega arith in
    let copied : get_or c.copy_from_slice.new.self k [] ≡ get_or ys k [] =
    ap (λ l. get_or l k []) c.copy_from_slice.ensures.after in
    let plain : get_or xs k [] ≡ f (get_or ys k []) =
    same_ahead xs (map f ys) k c.loop-k.invariant.ahead ∙ get_or-map f ys k [] [] inside in
    record {
      ahead = still_ahead xs (map f ys) k c.loop-k.invariant.ahead c.sum_of_blocks.result;
      value = rw (copied)
          (unchained_next w c.loop-k.previous xs k c.sum_of_blocks.result (omega arith) ys inside
          (c.sum_of_blocks.ensures ∙ ap (λ b. fips.add_round_key b c.loop-k.previous) plain)
          ∙ c.loop-k.invariant.value);
      last = rw (copied) (last_left c.loop-k.previous ys k inside ∙ c.loop-k.invariant.last);
    }

pub returns-clause-unchained : goal.returns-clause-unchained
unfolding unchained
returns-clause-unchained g c =
    let w = g.B.RoundKeysUser.round_keys c.args.backend.now in
    sym (chain_finished (unchained w c.loop-k.previous)
    refl c.loop-k.blocks c.args.blocks.now c.loop-k.k (omega arith)
    (omega arith))
    ∙ c.loop-k.invariant.value

pub returns-clause-previous : goal.returns-clause-previous
returns-clause-previous g c =
    chain_passed c.loop-k.previous c.args.blocks.now c.loop-k.k (omega arith)
    ∙ c.loop-k.invariant.last
