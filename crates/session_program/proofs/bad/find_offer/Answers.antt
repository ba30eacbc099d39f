use Rattle.std.proofs.Common.{sym, ◌∙◌, ap, subst, ◌≡◌, ◌+◌, List, [], ◌∷◌, ◌++◌, take}
use Rattle.std.proofs.lemmas.List.{take_more}
use Rattle.driver_model.specs.declared.event.Event.{Event}
use Rattle.session_program.proofs.Offers.{Follows, follows_none, follows_more}
use Rattle.session_program.proofs.bad.find_offer.Goals as goal

pub loop-event-init : goal.loop-event-init
loop-event-init c = follows_none c.args.config.now c.args.word c.in-Some.session c.open_quietly.new.offer c.in-Some.ensures.made c.in-Some.ensures.sound c.in-Some.ensures.offer

pub loop-event-preserved : goal.loop-event-preserved
loop-event-preserved c =
    let all = c.args.events.now in
    let k = c.loop-event.event-index in
    let e = c.event-item.result in
    let next : take (k + 1) all ≡ take k all ++ e ∷ [] = take_more all k e c.loop-event-test.true ∙ ap (λ (x : Event). take k all ++ x ∷ []) (sym c.event-item.is) in
    subst (λ (es : List Event). Follows c.args.config.now c.args.word es c.step_quietly.new.session c.in-Some-step_quietly.next) (sym next)
    (follows_more c.args.config.now c.args.word (take k all) c.loop-event.session c.step_quietly.new.session e c.loop-event.offer c.in-Some-step_quietly.next
    c.loop-event.invariant c.in-Some-step_quietly.ensures.ok c.in-Some-step_quietly.ensures.good c.in-Some-step_quietly.ensures.unspent c.in-Some-step_quietly.ensures.offer)
