use Rattle.std.proofs.Common.{◌≡◌, length, take}
use Rattle.key_wrap.specs.Padded.{padded, semiblocks}
use Rattle.key_wrap.proofs.padded.fill.Given as goal

abbrev pub invariant-loop-i : goal.invariant-loop-i
invariant-loop-i l = record {
  sized : length l.others ≡ length l.fn.others;
  filled : take l.i l.others ≡ semiblocks (padded l.key) l.i;
}
