use Rattle.std.proofs.Common.{◌≡◌, ◌≤◌, ◌-◌, ◌++◌, length, take, drop}
use Rattle.cbc.specs.Cbc.{last_of, unchained}
use Rattle.cbc.proofs.decryption.unchain.Given as goal

abbrev pub invariant-loop-done : goal.invariant-loop-done
invariant-loop-done g l =
    let w = g.B.RoundKeysUser.round_keys l.backend in record {
      within : l.done ≤ length l.fn.blocks;
      value : take l.done l.blocks ++ unchained w l.previous (drop l.done l.blocks)
          ≡ unchained w l.fn.previous l.fn.blocks;
      last : last_of l.previous (drop l.done l.blocks) ≡ last_of l.fn.previous l.fn.blocks;
    }

abbrev pub decreases-loop-done : goal.decreases-loop-done
decreases-loop-done g l = length l.fn.blocks - l.done
