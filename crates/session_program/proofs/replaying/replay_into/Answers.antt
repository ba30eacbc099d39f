use Rattle.std.proofs.Common.{rules, arith, refl, sym, ◌∙◌, ap, ◌≡◌, List, ◌∷◌, ◌++◌, Err}
use Rattle.driver_model.specs.declared.event.Event.{Event}
use Rattle.session_program.proofs.Traces.{streams_opened, streams_next, same_stop, taken_next, not_opened, stopped_behind, cut_behind, noted_behind}
use Rattle.session_program.proofs.replaying.replay_into.Goals as goal

pub loop-event-init : goal.loop-event-init
loop-event-init g c = record {
  split = search rules;
  streams = streams_opened c.args.config c.args.word c.in-Ok.session c.args.text.now c.open_session.new.text c.in-Ok.ensures.made c.in-Ok.ensures.sound c.requires c.in-Ok.ensures.shown;
  later = omega arith;
}

pub loop-event-preserved : goal.loop-event-preserved
loop-event-preserved g c =
    let i = c.loop-event.invariant in
    let s = c.loop-event.session in
    let e = c.in-Some.event in
    let turn = c.in-Ok-take_turn.ensures in
    let popped : c.loop-event.left ≡ e ∷ c.pop_front.new.self = search rules in
    record {
      split = taken_next s c.take_turn.new.session e c.pop_front.new.self c.args.events turn.ok (ap (λ (es : List Event). s.events ++ es) (sym popped) ∙ i.split);
      streams = streams_next c.args.config c.args.word s c.take_turn.new.session e c.loop-event.text c.take_turn.new.text c.write_large.new.text
          i.streams turn.ok turn.good turn.unspent turn.shown (c.if-not-write_large.ensures.sent refl);
      later = omega (arith, i.later, c.write_large.ensures.later);
    }

pub returns-in-Err-clause-stops : goal.returns-in-Err-clause-stops
returns-in-Err-clause-stops g c =
    not_opened _ c.args.config c.args.word c.args.events c.in-Err.stop c.args.text.now c.open_session.new.text c.in-Err.ensures.stops c.requires c.in-Err.ensures.err

pub returns-in-Err-take_turn-clause-stops : goal.returns-in-Err-take_turn-clause-stops
returns-in-Err-take_turn-clause-stops g c =
    let i = c.loop-event.invariant in
    let s = c.loop-event.session in
    let e = c.in-Some.event in
    let turn = c.in-Err-take_turn.ensures in
    let popped : c.loop-event.left ≡ e ∷ c.pop_front.new.self = search rules in
    stopped_behind c.args.config c.args.word c.args.events c.pop_front.new.self s e c.in-Err-take_turn.stop c.loop-event.text c.take_turn.new.text (ap (λ (es : List Event). s.events ++ es) (sym popped) ∙ i.split) i.streams turn.err
    (λ n is. turn.bad n (ap (λ s. Err s) is)) (λ n is. turn.number n (ap (λ s. Err s) is)) (λ n is. turn.spent n (ap (λ s. Err s) is)) (λ n is. turn.count n (ap (λ s. Err s) is)) (λ is. turn.writes (ap (λ s. Err s) is)) (λ name is. turn.opened name (ap (λ s. Err s) is))

pub returns-in-Err-take_turn-clause-noted : goal.returns-in-Err-take_turn-clause-noted
returns-in-Err-take_turn-clause-noted g c n is =
    let i = c.loop-event.invariant in
    let s = c.loop-event.session in
    let e = c.in-Some.event in
    let turn = c.in-Err-take_turn.ensures in
    let popped : c.loop-event.left ≡ e ∷ c.pop_front.new.self = search rules in
    noted_behind c.args.config c.args.word c.args.events c.pop_front.new.self s e c.loop-event.text c.take_turn.new.note (ap (λ (es : List Event). s.events ++ es) (sym popped) ∙ i.split) i.streams (turn.bad n (ap (λ s. Err s) (same_stop _ _ is))) (turn.noted n (ap (λ s. Err s) (same_stop _ _ is)))

pub returns-then-not-write_large-clause-stops : goal.returns-then-not-write_large-clause-stops
returns-then-not-write_large-clause-stops g c =
    let i = c.loop-event.invariant in
    let s = c.loop-event.session in
    let e = c.in-Some.event in
    let turn = c.in-Ok-take_turn.ensures in
    let popped : c.loop-event.left ≡ e ∷ c.pop_front.new.self = search rules in
    cut_behind c.args.config c.args.word c.args.events c.pop_front.new.self s e c.loop-event.text c.take_turn.new.text (ap (λ (es : List Event). s.events ++ es) (sym popped) ∙ i.split) i.streams
    turn.good turn.unspent turn.shown (c.if-not-write_large.ensures.part refl)
