use Rattle.std.proofs.Common.{◌≡◌, drop}
use Rattle.script_generator.specs.Summary.{counted_each}
use Rattle.script_generator.proofs.summary.Summary.count_each.Given as goal

abbrev pub invariant-loop-action : goal.invariant-loop-action
invariant-loop-action l = counted_each l.self (drop l.action-index l.actions) ≡ counted_each l.fn.self l.actions
