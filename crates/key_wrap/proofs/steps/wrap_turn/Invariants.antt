use Rattle.std.proofs.Common.{◌≡◌, ◌+◌, ◌*◌, ◌∷◌, ℕ, List, length}
use Rattle.key_wrap.specs.KeyWrap.{wrapped_after}
use Rattle.key_wrap.proofs.Turns.{turned}
use Rattle.key_wrap.proofs.steps.wrap_turn.Given as goal

abbrev pub invariant-loop-i : goal.invariant-loop-i
invariant-loop-i g l =
    let w = g.C.RoundKeysUser.round_keys l.cipher in
    let before = l.turn * length l.fn.others in record {
      sized : length l.others ≡ length l.fn.others;
      state : (s : List (List ℕ)) → wrapped_after w s before ≡ l.fn.check ∷ l.fn.others
          → wrapped_after w s (before + l.i) ≡ l.check ∷ turned l.i l.others;
    }
