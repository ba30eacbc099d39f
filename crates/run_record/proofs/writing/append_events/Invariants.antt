use Rattle.std.proofs.Common.{◌≡◌, ◌++◌, take}
use Rattle.text_laws.specs.Records.{event_lines}
use Rattle.run_record.proofs.writing.append_events.Given as goal

-- the line of each event that was passed is written
abbrev pub invariant-loop-event : goal.invariant-loop-event
invariant-loop-event l = l.text ≡ l.initial.text ++ event_lines (take l.event-index l.events)
