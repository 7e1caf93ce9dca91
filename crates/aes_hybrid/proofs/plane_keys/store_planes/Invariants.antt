-- The words of the first i round keys are written, each with its round key in every slot.
use Rattle.std.proofs.Common.{◌≡◌, ◌*◌, ◌-◌, ◌<◌, ℕ, length}
use Rattle.aes_soft.specs.Stored.{full, stored_key}
use Rattle.aes_soft.proofs.WordsInPlace.{HoldsAt}
use Rattle.aes_permute.specs.Keys.{encrypting}
use Rattle.aes_hybrid.proofs.plane_keys.store_planes.Given as goal

abbrev pub invariant-keys : goal.invariant-keys
invariant-keys g l = record {
  done : (j : ℕ) → j < l.i → HoldsAt g.W.Word.bits g.W.Word.BLOCKS l.words (8 * j)
      (stored_key (full (length l.keys - 1)) (encrypting l.keys) j);
  same_length : length l.words ≡ 8 * length l.keys;
}
