use Rattle.std.proofs.Common.{◌≡◌, take}
use Rattle.transactions.specs.Turns.{watch_of}
use Rattle.transactions.proofs.watching.watch_command.Given as goal

abbrev pub invariant-loop-key : goal.invariant-loop-key
invariant-loop-key l = l.command ≡ watch_of (take l.key-index l.keys)
