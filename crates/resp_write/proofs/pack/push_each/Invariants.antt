use Rattle.std.proofs.Common.{◌≡◌, ◌++◌, drop}
use Rattle.resp_write.specs.Pack.{pack_each}
use Rattle.resp_write.proofs.pack.push_each.Given as goal

-- what is written and what is left are the whole
abbrev pub invariant-loop-command : goal.invariant-loop-command
invariant-loop-command l = l.out ++ pack_each (drop l.command-index l.commands) ≡ l.fn.out ++ pack_each l.commands
