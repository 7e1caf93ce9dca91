-- The first i bytes of the string are added to the seed.
use Rattle.std.proofs.Common.{◌≡◌, take}
use Rattle.ctr_drbg.specs.CtrDrbg.{exclusive_or}
use Rattle.ctr_drbg.proofs.seeds.add_padded.Given as goal

abbrev pub invariant-loop-i : goal.invariant-loop-i
invariant-loop-i l = l.seed ≡ exclusive_or l.fn.seed (take l.i l.string)
