use Rattle.std.proofs.Common.{All, take}
use Rattle.text_laws.specs.Fits.{FitsEvent}
use Rattle.run_record.proofs.fits.events_fit.Given as goal

abbrev pub invariant-loop-event : goal.invariant-loop-event
invariant-loop-event l = All FitsEvent (take l.event-index l.events)
