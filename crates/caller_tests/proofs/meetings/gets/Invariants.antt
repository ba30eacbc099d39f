use Rattle.driver_model.specs.declared.kind.SessionKind.TheVariants.{Single}
use Rattle.session_callers.specs.Rule.{Each}
use Rattle.caller_threads.specs.Submits.{IsAllowed}
use Rattle.caller_tests.proofs.meetings.gets.Given as goal

abbrev pub invariant-loop-i : goal.invariant-loop-i
invariant-loop-i l = Each (IsAllowed Single) l.lines.items
