use Rattle.std.proofs.Common.{◌≡◌, ◌++◌, take, drop, map}
use Rattle.aes_planes.specs.Fips197 as fips
use Rattle.cbc.specs.Cbc.{last_of, unchained}
use Rattle.cbc.proofs.decryption.unchain_part.Given as goal

abbrev pub invariant-loop-k : goal.invariant-loop-k
invariant-loop-k g l =
    let w = g.B.RoundKeysUser.round_keys l.backend in record {
      ahead : drop l.k l.blocks ≡ drop l.k (map (fips.inv_cipher_with w) l.fn.blocks);
      value : take l.k l.blocks ++ unchained w l.previous (drop l.k l.fn.blocks)
          ≡ unchained w l.fn.previous l.fn.blocks;
      last : last_of l.previous (drop l.k l.fn.blocks) ≡ last_of l.fn.previous l.fn.blocks;
    }
