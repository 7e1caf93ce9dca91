use Rattle.std.proofs.Common.{◌≡◌, ℕ, ◌<◌, get_or}
use Rattle.aes_cipher.proofs.blocks.difference.Given as goal

abbrev pub invariant-loop-i : goal.invariant-loop-i
invariant-loop-i l = record {
  agree : l.difference ≡ 0 → (k : ℕ) → k < l.i → get_or l.a k 0 ≡ get_or l.b k 0;
  none : ((k : ℕ) → k < l.i → get_or l.a k 0 ≡ get_or l.b k 0) → l.difference ≡ 0;
}
