use Rattle.std.proofs.Common.{◌≡◌, ◌+◌, ◌*◌, length}
use Rattle.aes_planes.proofs.KeySchedule.ExpandedBlocks.{words_from}
use Rattle.aes_planes.proofs.KeySchedule.Forms.{AreStored}
use Rattle.aes_planes.proofs.expansion.expand_256.Given as goal

abbrev pub invariant-expand : goal.invariant-expand
invariant-expand g l = record {
  done : AreStored (g.F.FourWords.IsStored l.stored 14) l.key (2 * l.i + 2);
  first_four : g.F.FourWords.AreWords l.even (words_from l.key (8 * l.i));
  last_four : g.F.FourWords.AreWords l.odd (words_from l.key (8 * l.i + 4));
  layers : l.layers ≡ l.fn.layers + 2 * l.i * g.F.FourWords.LAYERS;
  same_length : length l.stored ≡ g.F.FourWords.length_for 14;
}
