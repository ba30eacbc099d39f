use Rattle.std.proofs.Common.{◌≡◌, ◌+◌, List, [], ◌∷◌, ◌++◌, length, take, refl, sym, ap, ◌∙◌, subst, Some}
use Rattle.std.proofs.lemmas.List.{take_more}
use Rattle.std.proofs.lemmas.Option.{slice_get_read}
use Rattle.std.specs.Prelude.{slice_get}
use Rattle.driver_model.specs.declared.event.Event.{Event}
use Rattle.shared_session.proofs.Replays.{Kept, kept_none, kept_more, bad_stops, spent_stops}
use Rattle.shared_session.proofs.session.Session.replay.Goals as goal

pub loop-event-init : goal.loop-event-init
loop-event-init c = kept_none c.args.config c.args.word c.args.actions.now.items c.new.new.out.items c.in-Ok.session c.in-Ok.ensures.made c.in-Ok.ensures.actions

pub returns-in-Err-BadEvent-clause-stops : goal.returns-in-Err-BadEvent-clause-stops
returns-in-Err-BadEvent-clause-stops c =
    let h = rw c.in-Err-BadEvent.field-0-is at c.in-Err-BadEvent.ensures in
    let all = c.args.events.now in
    let n = c.loop-event.event-index in
    let e : slice_get all n ≡ Some c.in-Ok-clone.event = slice_get_read all (length all) n c.event-item.result refl c.loop-event-test.true c.event-item.is ∙ ap Some (sym c.in-Ok-clone.ensures) in
    bad_stops c.args.config c.args.word all n c.events_taken-index.result c.args.actions.now.items c.loop-event.actions.items c.step.new.out.items
    c.loop-event.session c.step.new.self c.in-Ok-clone.event c.loop-event-test.true e c.loop-event.invariant h.err (h.bad_same refl) (h.bad.0 refl).1 c.events_taken-index.ensures

pub returns-in-Err-Spent-clause-stops : goal.returns-in-Err-Spent-clause-stops
returns-in-Err-Spent-clause-stops c =
    let h = rw c.in-Err-Spent.field-0-is at c.in-Err-Spent.ensures in
    let all = c.args.events.now in
    let n = c.loop-event.event-index in
    let e : slice_get all n ≡ Some c.in-Ok-clone.event = slice_get_read all (length all) n c.event-item.result refl c.loop-event-test.true c.event-item.is ∙ ap Some (sym c.in-Ok-clone.ensures) in
    rw c.in-Err-Spent.field-0-is (spent_stops c.args.config c.args.word all n c.in-Err-Spent.events c.args.actions.now.items c.loop-event.actions.items c.step.new.out.items
    c.loop-event.session c.in-Ok-clone.event c.loop-event-test.true e c.loop-event.invariant h.err (h.spent c.in-Err-Spent.events refl) (h.count c.in-Err-Spent.events refl))

pub loop-event-preserved : goal.loop-event-preserved
loop-event-preserved c =
    let all = c.args.events.now in
    let n = c.loop-event.event-index in
    let e = c.in-Ok-clone.event in
    let next : take (n + 1) all ≡ take n all ++ e ∷ [] =
    take_more all n c.event-item.result c.loop-event-test.true ∙ ap (λ (x : Event). take n all ++ x ∷ []) (sym c.event-item.is ∙ sym c.in-Ok-clone.ensures) in
    subst (λ (es : List Event). Kept c.args.config c.args.word es c.args.actions.now.items c.step.new.self c.step.new.out.items) (sym next)
    (kept_more c.args.config c.args.word (take n all) c.args.actions.now.items c.loop-event.actions.items c.step.new.out.items c.loop-event.session c.step.new.self e c.loop-event.invariant
    c.in-Ok-step.ensures.ok c.in-Ok-step.ensures.actions c.in-Ok-step.ensures.good c.in-Ok-step.ensures.unspent)
