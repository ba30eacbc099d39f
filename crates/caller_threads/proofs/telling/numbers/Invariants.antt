use Rattle.std.proofs.Common.{◌≡◌, ◌++◌, length}
use Rattle.caller_threads.specs.Submits.{numbers_of}
use Rattle.caller_threads.proofs.telling.numbers.Given as goal

abbrev pub invariant-loop-turns : goal.invariant-loop-turns
invariant-loop-turns l = l.all.items ++ numbers_of l.turns ≡ numbers_of l.initial.turns

abbrev pub decreases-loop-turns : goal.decreases-loop-turns
decreases-loop-turns l = length l.turns
