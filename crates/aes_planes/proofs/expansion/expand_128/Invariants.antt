use Rattle.std.proofs.Common.{◌≡◌, ◌+◌, ◌*◌, length}
use Rattle.aes_planes.proofs.KeySchedule.ExpandedBlocks.{words_from}
use Rattle.aes_planes.proofs.KeySchedule.Forms.{AreStored}
use Rattle.aes_planes.proofs.expansion.expand_128.Given as goal

abbrev pub invariant-expand : goal.invariant-expand
invariant-expand g l = record {
  done : AreStored (g.F.FourWords.IsStored l.stored 10) l.key (l.i + 1);
  last_four : g.F.FourWords.AreWords l.words (words_from l.key (4 * l.i));
  layers : l.layers ≡ l.fn.layers + l.i * g.F.FourWords.LAYERS;
  same_length : length l.stored ≡ g.F.FourWords.length_for 10;
}
