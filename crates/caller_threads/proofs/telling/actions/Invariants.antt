use Rattle.std.proofs.Common.{◌≡◌, ◌++◌, length}
use Rattle.caller_threads.specs.Submits.{actions_in}
use Rattle.caller_threads.proofs.telling.actions.Given as goal

abbrev pub invariant-loop-turn : goal.invariant-loop-turn
invariant-loop-turn l = l.all.items ++ actions_in l.rest ≡ actions_in l.fn.turns.items

abbrev pub decreases-loop-turn : goal.decreases-loop-turn
decreases-loop-turn l = length l.rest
