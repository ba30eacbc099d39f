use Rattle.std.proofs.Common.{◌≡◌, [], drop}
use Rattle.session_program.specs.Notes.{kept_each}
use Rattle.session_program.proofs.counting.kept_of.Given as goal

abbrev pub invariant-loop-event : goal.invariant-loop-event
invariant-loop-event l = kept_each [] l.events ≡ kept_each l.kept (drop l.event-index l.events)
