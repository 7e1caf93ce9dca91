use Rattle.std.proofs.Common.{◌∙◌, ap, sym, refl, length-set, arith}
use Rattle.aes_planes.specs.Fips197 as fips
use Rattle.cbc.specs.Cbc.{chained, last_of}
use Rattle.cbc.proofs.Chains.{chained_next, chain_finished, last_written}
use Rattle.cbc.proofs.chain.Cbc.encrypt_blocks.Goals as goal

pub loop-i-init : goal.loop-i-init
unfolding last_of
loop-i-init g c = record { sized = refl; done = refl; last = refl }

pub loop-i-preserved : goal.loop-i-preserved
loop-i-preserved g c =
    let w = g.C.RoundKeysUser.round_keys c.args.cipher.now in
    record {
      sized = length-set c.loop-i.blocks c.loop-i.i c.encrypt_block.new.block
          ∙ c.loop-i.invariant.sized;
      done = chained_next w c.loop-i.previous c.loop-i.blocks c.loop-i.i c.encrypt_block.new.block
          (omega arith)
          (c.encrypt_block.ensures ∙ ap (fips.cipher_with w) c.sum_of_blocks-previous.ensures)
          ∙ c.loop-i.invariant.done;
      last = last_written c.args.self.now.previous c.loop-i.blocks c.loop-i.i
          c.encrypt_block.new.block (omega arith);
    }

pub returns-clause-blocks : goal.returns-clause-blocks
unfolding chained
returns-clause-blocks g c =
    let w = g.C.RoundKeysUser.round_keys c.args.cipher.now in
    sym (chain_finished (chained w c.loop-i.previous)
    refl c.loop-i.blocks c.loop-i.blocks c.loop-i.i (omega arith)
    (omega arith))
    ∙ c.loop-i.invariant.done
