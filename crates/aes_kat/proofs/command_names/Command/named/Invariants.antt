-- A search from this command on finds what one from the first command on finds.
use Rattle.std.proofs.Common.{◌≡◌, drop}
use Rattle.aes_kat.specs.Reply.{command_of, commands, first_named}
use Rattle.aes_kat.proofs.command_names.Command.named.Given as goal

abbrev pub invariant-loop-command : goal.invariant-loop-command
invariant-loop-command l = command_of l.name ≡ first_named l.name (drop l.command-index commands)
