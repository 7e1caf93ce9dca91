-- What the rules of examples unfold.
use Rattle.std.specs.Prelude.{⊤}
use Rattle.key_wrap.specs.KeyWrap.{unwrapped, unwrapped_from, wrapped, wrapped_after}
use Rattle.key_wrap.specs.Padded.{block_or_steps, unwrapped_string, wrapped_string}

-- the definitions that the rules of steps are about
unfoldable pub step_rules : ⊤
unfolding wrapped unwrapped wrapped_after unwrapped_from block_or_steps wrapped_string
    unwrapped_string
step_rules = tt
