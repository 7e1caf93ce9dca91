use Rattle.std.proofs.Common.{◌≡◌, ◌+◌, ◌*◌, length}
use Rattle.aes_planes.proofs.KeySchedule.ExpandedBlocks.{words_from}
use Rattle.aes_planes.proofs.KeySchedule.Forms.{AreStored}
use Rattle.aes_planes.proofs.expansion.expand_192.Given as goal

abbrev pub invariant-expand : goal.invariant-expand
invariant-expand g l = record {
  done : AreStored (g.F.FourWords.IsStored l.stored 12) l.key (3 * l.i + 1);
  first_four : g.F.FourWords.AreWords l.front (words_from l.key (12 * l.i));
  last_four : g.F.FourWords.AreWords l.back (words_from l.key (12 * l.i + 2));
  layers : l.layers ≡ l.fn.layers + 2 * l.i * g.F.FourWords.LAYERS;
  same_length : length l.stored ≡ g.F.FourWords.length_for 12;
}
