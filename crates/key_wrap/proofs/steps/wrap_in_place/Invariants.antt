use Rattle.std.proofs.Common.{◌≡◌, ◌*◌, ◌∷◌, length}
use Rattle.key_wrap.specs.KeyWrap.{wrapped_after}
use Rattle.key_wrap.proofs.steps.wrap_in_place.Given as goal

abbrev pub invariant-loop-turn : goal.invariant-loop-turn
invariant-loop-turn g l =
    let w = g.C.RoundKeysUser.round_keys l.cipher in record {
      sized : length l.others ≡ length l.fn.others;
      state : wrapped_after w (l.fn.check ∷ l.fn.others) (l.turn * length l.fn.others)
          ≡ l.check ∷ l.others;
    }
