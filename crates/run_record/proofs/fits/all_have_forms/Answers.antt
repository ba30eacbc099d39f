use Rattle.std.proofs.Common.{All, subst}
use Rattle.std.proofs.lemmas.List.{take_all}
use Rattle.std.proofs.lemmas.List.Elements.{All-more}
use Rattle.text_laws.specs.Fits.{WithForm}
use Rattle.run_record.proofs.fits.all_have_forms.Goals as goal

pub loop-event-preserved : goal.loop-event-preserved
loop-event-preserved c =
    All-more (WithForm c.args.session) c.args.events.now c.loop-event.event-index c.event-item.result c.loop-event-test.true c.loop-event.invariant
    (subst (WithForm c.args.session) c.event-item.is c.if-not-has_form.ensures)

pub returns : goal.returns
returns c = subst (All (WithForm c.args.session)) (take_all c.loop-event.event-index c.args.events.now c.loop-event-test.false) c.loop-event.invariant
