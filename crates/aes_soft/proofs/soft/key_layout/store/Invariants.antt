use Rattle.std.proofs.Common.{◌≡◌, ℕ, ◌+◌, ◌*◌, ◌<◌, ◌≤◌, List, length, map}
use Rattle.aes_soft.specs.Stored.{HoldsBlocks}
use Rattle.aes_soft.proofs.StoredRoundKeys.{stored}
use Rattle.aes_soft.proofs.WordsInPlace.{HoldsAt}
use Rattle.aes_soft.proofs.soft.key_layout.store.Given as goal

abbrev pub invariant-keys : goal.invariant-keys
invariant-keys g l = record {
  done : (f : ℕ → List ℕ)
      → HoldsBlocks g.W.Word.BLOCKS (l.rounds + 1) f (map g.W.Word.bits l.fn.round_keys) → (j : ℕ)
      → j < l.i
      → HoldsAt g.W.Word.bits g.W.Word.BLOCKS l.round_keys (8 * j)
      (stored l.rounds g.L.Layout.PERIOD f j);
  rest : (f : ℕ → List ℕ)
      → HoldsBlocks g.W.Word.BLOCKS (l.rounds + 1) f (map g.W.Word.bits l.fn.round_keys) → (j : ℕ)
      → l.i ≤ j → j < l.rounds + 1
      → HoldsAt g.W.Word.bits g.W.Word.BLOCKS l.round_keys (8 * j) (f j);
  same_length : length l.round_keys ≡ length l.fn.round_keys;
}
