use Rattle.std.proofs.Common.{◌≡◌, ap, ◌∙◌}
use Rattle.driver_model.specs.declared.event.EventKind.TheVariants as event
use Rattle.script_generator.specs.Fronts.{submitted}
use Rattle.script_generator.specs.Script.{event_of, writes}
use Rattle.script_generator.proofs.Takes.{good_for, unspent_for, at_for}
use Rattle.script_generator.proofs.Whole.{write_next}
use Rattle.script_generator.proofs.generating.take_round.Goals as goal

pub take-requires-clause-good : goal.take-requires-clause-good
take-requires-clause-good c =
    let i = c.args.round in
    let is : c.wrote-event.result ≡ writes i = c.wrote-event.ensures ∙ ap (λ n. event_of (event.Wrote 0 n)) c.in_ok-len.ensures.len in
    good_for (submitted i) c.wrote-event.result (writes i) c.take_submit.new.session c.take_submit.new.counts c.in_ok-len.ensures.at is (write_next i c.requires.few)

pub take-requires-clause-unspent : goal.take-requires-clause-unspent
take-requires-clause-unspent c =
    let i = c.args.round in
    let is : c.wrote-event.result ≡ writes i = c.wrote-event.ensures ∙ ap (λ n. event_of (event.Wrote 0 n)) c.in_ok-len.ensures.len in
    unspent_for (submitted i) c.wrote-event.result (writes i) c.take_submit.new.session c.take_submit.new.counts c.in_ok-len.ensures.at is (write_next i c.requires.few)

pub take_reply-requires-clause-at : goal.take_reply-requires-clause-at
take_reply-requires-clause-at c =
    let i = c.args.round in
    let is : c.wrote-event.result ≡ writes i = c.wrote-event.ensures ∙ ap (λ n. event_of (event.Wrote 0 n)) c.in_ok-len.ensures.len in
    at_for (submitted i) c.wrote-event.result (writes i) c.take_submit.new.session c.take.new.session c.take_submit.new.counts c.take.new.counts c.in_ok-len.ensures.at is c.in_ok-take.ensures.taken c.in_ok-take.ensures.counted
