use Rattle.std.proofs.Common.{◌≡◌, ◌++◌, [], ◌∷◌, subst, arith, ◌∙◌}
use Rattle.driver_model.specs.declared.event.EventKind.TheVariants as event
use Rattle.script_generator.specs.Fronts.{front, IsAt}
use Rattle.script_generator.specs.Script.{event_of}
use Rattle.script_generator.proofs.Counts.{generated_counts}
use Rattle.script_generator.proofs.Takes.{good_for, unspent_for, at_for}
use Rattle.script_generator.proofs.Whole.{connected_next, shut_next}
use Rattle.script_generator.proofs.generating.take_all.Goals as goal

pub take-requires-clause-good : goal.take-requires-clause-good
take-requires-clause-good c = good_for [] c.connected-connected.result (event_of (event.Connected 0)) c.args.session.now c.args.counts.now c.requires.at c.connected-connected.ensures connected_next

pub take-requires-clause-unspent : goal.take-requires-clause-unspent
take-requires-clause-unspent c = unspent_for [] c.connected-connected.result (event_of (event.Connected 0)) c.args.session.now c.args.counts.now c.requires.at c.connected-connected.ensures connected_next

pub loop-round-init : goal.loop-round-init
loop-round-init c =
    at_for [] c.connected-connected.result (event_of (event.Connected 0)) c.args.session.now c.take.new.session c.args.counts.now c.take.new.counts c.requires.at c.connected-connected.ensures
    c.in_ok-take.ensures.taken c.in_ok-take.ensures.counted

pub take-requires-2-clause-good : goal.take-requires-2-clause-good
take-requires-2-clause-good c =
    let n = c.args.rounds in
    let end : c.loop-round.round ≡ n = (let t = c.loop-round-test.false in let within = c.loop-round.auto.round-end in omega arith) in
    let at = subst (λ m. IsAt (front m) c.loop-round.session c.loop-round.counts) end c.loop-round.invariant in
    good_for (front n) c.shutdown-shutdown.result (event_of event.Shutdown) c.loop-round.session c.loop-round.counts at c.shutdown-shutdown.ensures (shut_next n c.requires.few)

pub take-requires-2-clause-unspent : goal.take-requires-2-clause-unspent
take-requires-2-clause-unspent c =
    let n = c.args.rounds in
    let end : c.loop-round.round ≡ n = (let t = c.loop-round-test.false in let within = c.loop-round.auto.round-end in omega arith) in
    let at = subst (λ m. IsAt (front m) c.loop-round.session c.loop-round.counts) end c.loop-round.invariant in
    unspent_for (front n) c.shutdown-shutdown.result (event_of event.Shutdown) c.loop-round.session c.loop-round.counts at c.shutdown-shutdown.ensures (shut_next n c.requires.few)

pub returns : goal.returns
returns c =
    let n = c.args.rounds in
    let end : c.loop-round.round ≡ n = (let t = c.loop-round-test.false in let within = c.loop-round.auto.round-end in omega arith) in
    let at = subst (λ m. IsAt (front m) c.loop-round.session c.loop-round.counts) end c.loop-round.invariant in
    let whole : IsAt (front n ++ event_of event.Shutdown ∷ []) c.take-2.new.session c.take-2.new.counts =
    at_for (front n) c.shutdown-shutdown.result (event_of event.Shutdown) c.loop-round.session c.take-2.new.session c.loop-round.counts c.take-2.new.counts at c.shutdown-shutdown.ensures
    c.in_ok-take-2.ensures.taken c.in_ok-take-2.ensures.counted in
    whole.counted ∙ generated_counts n c.requires.few
