use Rattle.std.proofs.Common.{sym, ◌∙◌, ◌+◌}
use Rattle.script_generator.specs.Fronts.{front, written, cancelled, IsAt}
use Rattle.script_generator.specs.Script.{cancels, replies}
use Rattle.script_generator.proofs.Takes.{good_for, unspent_for, at_for, if_done, round_over, round_over_gone}
use Rattle.script_generator.proofs.Whole.{cancel_next, reply_next, reply_next_gone}
use Rattle.script_generator.proofs.generating.take_reply.Goals as goal

pub take-requires-clause-good : goal.take-requires-clause-good
take-requires-clause-good c =
    let i = c.args.round in
    good_for (written i) c.cancel-cancel.result (cancels i) c.args.session.now c.args.counts.now c.requires.at c.cancel-cancel.ensures (cancel_next i c.requires.few)

pub take-requires-clause-unspent : goal.take-requires-clause-unspent
take-requires-clause-unspent c =
    let i = c.args.round in
    unspent_for (written i) c.cancel-cancel.result (cancels i) c.args.session.now c.args.counts.now c.requires.at c.cancel-cancel.ensures (cancel_next i c.requires.few)

pub take-requires-then-is_cancelled-clause-good : goal.take-requires-then-is_cancelled-clause-good
take-requires-then-is_cancelled-clause-good c =
    let i = c.args.round in
    let left : IsAt (cancelled i) c.take.new.session c.take.new.counts =
    at_for (written i) c.cancel-cancel.result (cancels i) c.args.session.now c.take.new.session c.args.counts.now c.take.new.counts c.requires.at c.cancel-cancel.ensures c.in-Ok.ensures.taken c.in-Ok.ensures.counted in
    good_for (cancelled i) c.in_ok-event.event replies c.take.new.session c.take.new.counts left c.in_ok-event.ensures (reply_next_gone i c.requires.few)

pub take-requires-then-is_cancelled-clause-unspent : goal.take-requires-then-is_cancelled-clause-unspent
take-requires-then-is_cancelled-clause-unspent c =
    let i = c.args.round in
    let left : IsAt (cancelled i) c.take.new.session c.take.new.counts =
    at_for (written i) c.cancel-cancel.result (cancels i) c.args.session.now c.take.new.session c.args.counts.now c.take.new.counts c.requires.at c.cancel-cancel.ensures c.in-Ok.ensures.taken c.in-Ok.ensures.counted in
    unspent_for (cancelled i) c.in_ok-event.event replies c.take.new.session c.take.new.counts left c.in_ok-event.ensures (reply_next_gone i c.requires.few)

pub returns-then-is_cancelled : goal.returns-then-is_cancelled
returns-then-is_cancelled c =
    let i = c.args.round in
    let left : IsAt (cancelled i) c.take.new.session c.take.new.counts =
    at_for (written i) c.cancel-cancel.result (cancels i) c.args.session.now c.take.new.session c.args.counts.now c.take.new.counts c.requires.at c.cancel-cancel.ensures c.in-Ok.ensures.taken c.in-Ok.ensures.counted in
    record {
      at = if_done c.take-then-is_cancelled.result _ _ (IsAt (front (i + 1)) c.take-then-is_cancelled.new.session c.take-then-is_cancelled.new.counts) c.take-then-is_cancelled.ensures.taken c.take-then-is_cancelled.ensures.counted
          (λ taken counted. round_over_gone i c.take-then-is_cancelled.new.session c.take-then-is_cancelled.new.counts (sym c.is_cancelled.ensures ∙ c.if-is_cancelled.true)
          (at_for (cancelled i) c.in_ok-event.event replies c.take.new.session c.take-then-is_cancelled.new.session c.take.new.counts c.take-then-is_cancelled.new.counts left c.in_ok-event.ensures taken counted));
    }

pub take-requires-2-clause-good : goal.take-requires-2-clause-good
take-requires-2-clause-good c =
    let i = c.args.round in
    good_for (written i) c.in_ok-event.event replies c.args.session.now c.args.counts.now c.requires.at c.in_ok-event.ensures (reply_next i c.requires.few)

pub take-requires-2-clause-unspent : goal.take-requires-2-clause-unspent
take-requires-2-clause-unspent c =
    let i = c.args.round in
    unspent_for (written i) c.in_ok-event.event replies c.args.session.now c.args.counts.now c.requires.at c.in_ok-event.ensures (reply_next i c.requires.few)

pub returns : goal.returns
returns c =
    let i = c.args.round in
    record {
      at = if_done c.take-2.result _ _ (IsAt (front (i + 1)) c.take-2.new.session c.take-2.new.counts) c.take-2.ensures.taken c.take-2.ensures.counted
          (λ taken counted. round_over i c.take-2.new.session c.take-2.new.counts (sym c.is_cancelled.ensures ∙ c.if-is_cancelled.false)
          (at_for (written i) c.in_ok-event.event replies c.args.session.now c.take-2.new.session c.args.counts.now c.take-2.new.counts c.requires.at c.in_ok-event.ensures taken counted));
    }
