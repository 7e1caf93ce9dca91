use Rattle.std.proofs.Common.{◌≡◌, ◌-◌, ◌*◌, ◌∷◌, length}
use Rattle.key_wrap.specs.KeyWrap.{unwrapped_from}
use Rattle.key_wrap.proofs.steps.unwrap_in_place.Given as goal

abbrev pub invariant-loop-k : goal.invariant-loop-k
invariant-loop-k g l =
    let w = g.C.RoundKeysUser.round_keys l.cipher in
    let m = length l.fn.others in record {
      sized : length l.others ≡ m;
      state : unwrapped_from w (l.check ∷ l.others) ((6 - l.k) * m)
          ≡ unwrapped_from w (l.fn.check ∷ l.fn.others) (6 * m);
    }
