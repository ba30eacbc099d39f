use Rattle.std.proofs.Common.{◌≡◌, take}
use Rattle.resp_write.proofs.pipeline.Pipeline.clone.Given as goal

-- the commands that were passed are copied
abbrev pub invariant-loop-command : goal.invariant-loop-command
invariant-loop-command l = l.commands.items ≡ take l.command-index l.command-items
