-- Of two loops, over batches and over single blocks: to finish what is left gives every block
-- processed.
use Rattle.std.proofs.Common.{length, ◌-◌, ◌≡◌, ◌≤◌, map}
use Rattle.aes_planes.specs.Fips197 as fips
use Rattle.aes_cipher.proofs.SliceRuns.{finished}
use Rattle.surface.proofs.own_closures.decrypt_each.Given as goal

abbrev pub invariant-loop-blocks : goal.invariant-loop-blocks
invariant-loop-blocks g l =
    let f = fips.inv_cipher_with (g.B.RoundKeysUser.round_keys l.backend) in record {
      some : 1 ≤ l.size;
      within : l.done ≤ length l.blocks;
      value : finished f l.done l.blocks ≡ map f l.fn.blocks;
    }

abbrev pub decreases-loop-blocks : goal.decreases-loop-blocks
decreases-loop-blocks g l = length l.fn.blocks - l.done

abbrev pub invariant-loop-done : goal.invariant-loop-done
invariant-loop-done g l =
    let f = fips.inv_cipher_with (g.B.RoundKeysUser.round_keys l.backend) in record {
      within : l.done ≤ length l.blocks;
      value : finished f l.done l.blocks ≡ map f l.fn.blocks;
    }

abbrev pub decreases-loop-done : goal.decreases-loop-done
decreases-loop-done g l = length l.fn.blocks - l.done
