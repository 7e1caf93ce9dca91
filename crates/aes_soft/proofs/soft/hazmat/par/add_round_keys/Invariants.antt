use Rattle.std.proofs.Common.{◌≡◌, length}
use Rattle.aes_planes.specs.Fips197.{add_round_key}
use Rattle.aes_planes.specs.SingleRounds.{rounds_by_place}
use Rattle.aes_soft.proofs.ByPlace.{zipped_from}
use Rattle.aes_soft.proofs.soft.hazmat.par.add_round_keys.Given as goal

abbrev pub invariant-loop-i : goal.invariant-loop-i
invariant-loop-i l = record {
  long : length l.blocks ≡ 8;
  value : zipped_from add_round_key l.i l.blocks l.round_keys
      ≡ rounds_by_place add_round_key l.fn.blocks l.round_keys;
}
