use Rattle.std.proofs.Common.{◌≡◌, ◌++◌, [], List}
use Rattle.session_callers.specs.Rule.{Each}
use Rattle.session_callers.specs.Calls.{Known, IsOf, Gathered}
use Rattle.session_callers.proofs.closing.gather.Given as goal

abbrev pub invariant-loop-next : goal.invariant-loop-next
invariant-loop-next l =
    (l.seat.table_id ≡ l.fn.board.table_id) × (l.seat.me.1 ≡ [])
    × ((taken : List Known) × (l.callers.items ++ taken ≡ l.fn.callers.items) × Gathered l.fn.made taken l.seat.me.0)
    × Each (IsOf l.fn.board.table_id l.fn.made) l.callers.items

abbrev pub decreases-loop-next : goal.decreases-loop-next
decreases-loop-next l = goal.left-loop-next l
