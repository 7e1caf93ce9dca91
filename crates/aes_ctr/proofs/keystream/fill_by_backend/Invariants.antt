use Rattle.std.proofs.Common.{◌≡◌, map, drop}
use Rattle.aes_planes.specs.Fips197.{cipher_with}
use Rattle.aes_cipher.proofs.SliceRuns.{finished}
use Rattle.aes_ctr.proofs.keystream.fill_by_backend.Given as goal

abbrev pub invariant-loop-i : goal.invariant-loop-i
invariant-loop-i g l =
    let f = cipher_with (g.B.RoundKeysUser.round_keys l.backend) in
    record {
      done : finished f l.i l.blocks ≡ map f l.initial.blocks;
      left : drop l.i l.blocks ≡ drop l.i l.initial.blocks;
    }
