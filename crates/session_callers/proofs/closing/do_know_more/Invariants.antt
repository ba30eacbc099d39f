use Rattle.std.proofs.Common.{◌≡◌, ◌≤◌, length}
use Rattle.session_callers.specs.Calls.{Known}
use Rattle.session_callers.specs.Rule.{Each}
use Rattle.session_callers.specs.Closes.{do_know_more}
use Rattle.session_callers.proofs.closing.do_know_more.Given as goal

abbrev pub invariant-loop-callers : goal.invariant-loop-callers
invariant-loop-callers l =
    (do_know_more l.count l.callers ≡ do_know_more l.count l.initial.callers)
    × (Each (λ (c : Known). c.view.most ≤ l.count) l.initial.callers → Each (λ (c : Known). c.view.most ≤ l.count) l.callers)

abbrev pub decreases-loop-callers : goal.decreases-loop-callers
decreases-loop-callers l = length l.callers
