use Rattle.std.proofs.Common.{◌≡◌, ◌++◌}
use Rattle.script_text.proofs.event_line.push_commands.Given as goal

abbrev pub invariant-loop-command : goal.invariant-loop-command
invariant-loop-command l = l.fn.commands ++ l.fn.more.items ≡ l.commands ++ l.command-iterator.rest.items
