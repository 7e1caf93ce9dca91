use Rattle.std.proofs.Common.{◌≡◌, ℕ, ◌-◌, ◌<◌, get_or}
use Rattle.key_wrap.proofs.padded.last_bytes.Given as goal

abbrev pub invariant-loop-i : goal.invariant-loop-i
invariant-loop-i l = record {
  zeros : l.bytes ≡ 0 → (k : ℕ) → k < l.i → k < l.count → get_or l.semiblock (7 - k) 0 ≡ 0;
  none : ((k : ℕ) → k < l.i → k < l.count → get_or l.semiblock (7 - k) 0 ≡ 0) → l.bytes ≡ 0;
}
