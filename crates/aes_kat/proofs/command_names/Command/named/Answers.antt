-- A command with another name isn't the first of that name.
use Rattle.std.proofs.Common.{◌≡◌, ◌<◌, ◌+◌, ℕ, List, false, refl, sym, ap, ◌∙◌, length, get_or}
use Rattle.std.proofs.Common.{drop}
use Rattle.std.proofs.lemmas.List.{drop_more}
use Rattle.std.specs.Str.{bytes_eq}
use Rattle.aes_kat.specs.declared.command_names.Command.{Command}
use Rattle.aes_kat.specs.Reply.{name_of, commands, first_named}
use Rattle.aes_kat.proofs.command_names.Command.named.Goals as goal

-- the command at place i has another name
named_later : (name spelled : List ℕ) (i : ℕ) (d : Command) → i < length commands
    → spelled ≡ name_of (get_or commands i d) → false ≡ bytes_eq spelled name
    → first_named name (drop i commands) ≡ first_named name (drop (i + 1) commands)
unfolding first_named
named_later name spelled i d within is other =
    ap (first_named name) (drop_more commands i d within)
    ∙ rw (sym (other ∙ ap (λ s. bytes_eq s name) is)) refl

pub loop-command-preserved : goal.loop-command-preserved
loop-command-preserved c =
    c.loop-command.invariant
    ∙ named_later _ _ _ _ c.loop-command-test.true c.name.ensures c.if-eq.ensures
