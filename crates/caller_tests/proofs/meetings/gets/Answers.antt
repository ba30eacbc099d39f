use Rattle.std.proofs.Common.{◌≡◌, ◌++◌, ◌∷◌, [], sym, subst}
use Rattle.driver_model.specs.declared.kind.SessionKind.TheVariants.{Single}
use Rattle.session_callers.specs.Rule.{Each}
use Rattle.caller_threads.specs.Submits.{IsAllowed}
use Rattle.caller_threads.proofs.Places.{each_more}
use Rattle.caller_tests.proofs.meetings.gets.Goals as goal

pub loop-i-preserved : goal.loop-i-preserved
loop-i-preserved c =
    subst (Each (IsAllowed Single)) (sym c.in_ok-push.ensures.items) (each_more (IsAllowed Single) c.loop-i.lines.items _ c.loop-i.invariant c.in_ok-what.ensures)
