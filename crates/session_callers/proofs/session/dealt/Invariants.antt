use Rattle.std.proofs.Common.{◌≡◌, ◌+◌, ◌-◌, ◌≤◌, ◌++◌, []}
use Rattle.session_callers.specs.Calls.{IsAt, founders_at}
use Rattle.session_callers.specs.Rule.{founders}
use Rattle.session_callers.proofs.session.dealt.Given as goal

abbrev pub invariant-deals : goal.invariant-deals
invariant-deals l =
    let z = l.fn.seat.table_id in
    let config = l.fn.seat.me.0.config in
    let word = l.fn.seat.me.0.word in
    IsAt l.fn.board.table_id l.seat × (l.seat.table_id ≡ z)
    × (l.seat.me ≡ (founders config word l.fn.made l.fn.made l.number l.left, []))
    × (1 ≤ l.left) × (l.number + l.left ≡ l.fn.made)
    × (l.callers.items ++ founders_at z config word l.fn.made l.number l.left ≡ founders_at z config word l.fn.made 0 l.fn.made)

abbrev pub decreases-deals : goal.decreases-deals
decreases-deals l = l.left
