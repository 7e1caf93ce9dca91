use Rattle.std.proofs.Common.{◌≡◌, ◌+◌, ◌-◌, ◌*◌, ◌∷◌, length}
use Rattle.key_wrap.specs.KeyWrap.{unwrapped_from}
use Rattle.key_wrap.proofs.Turns.{turned}
use Rattle.key_wrap.proofs.steps.unwrap_turn.Given as goal

abbrev pub invariant-loop-k : goal.invariant-loop-k
invariant-loop-k g l =
    let w = g.C.RoundKeysUser.round_keys l.cipher in
    let m = length l.fn.others in
    let before = l.turn * m in record {
      sized : length l.others ≡ m;
      state : unwrapped_from w (l.check ∷ turned (m - l.k) l.others) (before + (m - l.k))
          ≡ unwrapped_from w (l.fn.check ∷ l.fn.others) (before + m);
    }
