use Rattle.std.proofs.Common.{◌≡◌, length}
use Rattle.command_table.specs.Routing.{after_streams}
use Rattle.command_table.proofs.routes.after_streams.Given as goal

abbrev pub invariant-loop-args : goal.invariant-loop-args
invariant-loop-args l = after_streams l.args ≡ after_streams l.initial.args

abbrev pub decreases-loop-args : goal.decreases-loop-args
decreases-loop-args l = length l.args
