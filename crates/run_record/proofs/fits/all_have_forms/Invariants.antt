use Rattle.std.proofs.Common.{All, take}
use Rattle.text_laws.specs.Fits.{WithForm}
use Rattle.run_record.proofs.fits.all_have_forms.Given as goal

abbrev pub invariant-loop-event : goal.invariant-loop-event
invariant-loop-event l = All (WithForm l.session) (take l.event-index l.events)
