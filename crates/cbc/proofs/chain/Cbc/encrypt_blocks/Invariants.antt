use Rattle.std.proofs.Common.{◌≡◌, ◌++◌, length, take, drop}
use Rattle.cbc.specs.Cbc.{chained, last_of}
use Rattle.cbc.proofs.chain.Cbc.encrypt_blocks.Given as goal

abbrev pub invariant-loop-i : goal.invariant-loop-i
invariant-loop-i g l =
    let w = g.C.RoundKeysUser.round_keys l.cipher in record {
      sized : length l.blocks ≡ length l.fn.blocks;
      done : take l.i l.blocks ++ chained w l.previous (drop l.i l.blocks)
          ≡ chained w l.fn.self.previous l.fn.blocks;
      last : last_of l.fn.self.previous (take l.i l.blocks) ≡ l.previous;
    }
