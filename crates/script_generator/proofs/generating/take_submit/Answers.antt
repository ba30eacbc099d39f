use Rattle.std.proofs.Common.{◌≡◌, ap, ◌∙◌}
use Rattle.driver_model.specs.declared.event.EventKind.TheVariants as event
use Rattle.driver_model.specs.declared.event.Submission.{Submission}
use Rattle.script_generator.specs.Fronts.{front}
use Rattle.script_generator.specs.Script.{event_of, submits}
use Rattle.script_generator.proofs.Takes.{good_for, unspent_for, at_for}
use Rattle.script_generator.proofs.Whole.{submit_next}
use Rattle.script_generator.proofs.generating.take_submit.Goals as goal

pub take-requires-clause-good : goal.take-requires-clause-good
take-requires-clause-good c =
    let i = c.args.round in
    let is : c.submit-event.result ≡ submits i = c.submit-event.ensures ∙ ap (λ (what : Submission). event_of (event.Submit what)) c.in_ok-submission.ensures in
    good_for (front i) c.submit-event.result (submits i) c.args.session.now c.args.counts.now c.requires.at is (submit_next i c.requires.few)

pub take-requires-clause-unspent : goal.take-requires-clause-unspent
take-requires-clause-unspent c =
    let i = c.args.round in
    let is : c.submit-event.result ≡ submits i = c.submit-event.ensures ∙ ap (λ (what : Submission). event_of (event.Submit what)) c.in_ok-submission.ensures in
    unspent_for (front i) c.submit-event.result (submits i) c.args.session.now c.args.counts.now c.requires.at is (submit_next i c.requires.few)

pub returns-clause-at : goal.returns-clause-at
returns-clause-at c =
    let i = c.args.round in
    let is : c.submit-event.result ≡ submits i = c.submit-event.ensures ∙ ap (λ (what : Submission). event_of (event.Submit what)) c.in_ok-submission.ensures in
    at_for (front i) c.submit-event.result (submits i) c.args.session.now c.take.new.session c.args.counts.now c.take.new.counts c.requires.at is c.in_ok-take.ensures.taken c.in_ok-take.ensures.counted
