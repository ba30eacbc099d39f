use Rattle.std.proofs.Common.{◌≡◌, ◌++◌, length}
use Rattle.std.specs.Result.{result_map_both}
use Rattle.script_text.specs.Cursor.{events_left}
use Rattle.script_text.proofs.script.all_events.Given as goal

abbrev pub invariant-loop-event : goal.invariant-loop-event
invariant-loop-event l = events_left l.kind l.fn.cursor ≡ result_map_both (λ more. l.events ++ more) (λ n. n) (events_left l.kind l.cursor)

abbrev pub decreases-loop-event : goal.decreases-loop-event
decreases-loop-event l = length l.cursor.left.now
