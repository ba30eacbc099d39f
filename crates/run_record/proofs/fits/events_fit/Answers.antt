use Rattle.std.proofs.Common.{All, subst}
use Rattle.std.proofs.lemmas.List.{take_all}
use Rattle.std.proofs.lemmas.List.Elements.{All-more}
use Rattle.text_laws.specs.Fits.{FitsEvent}
use Rattle.run_record.proofs.fits.events_fit.Goals as goal

pub loop-event-preserved : goal.loop-event-preserved
loop-event-preserved c =
    All-more FitsEvent c.args.events.now c.loop-event.event-index c.event-item.result c.loop-event-test.true c.loop-event.invariant (subst FitsEvent c.event-item.is c.event_fits.ensures)

pub returns : goal.returns
returns c = subst (All FitsEvent) (take_all c.loop-event.event-index c.args.events.now c.loop-event-test.false) c.loop-event.invariant
