use Rattle.std.proofs.Common.{◌≡◌, ◌+◌, ◌-◌, ◌^◌, ◌<◌, ◌≤◌, ◌++◌, ◌∷◌, List, ap, sym, subst, ◌∙◌, arith, false}
use Rattle.std.specs.Prelude.{Option, length}
use Rattle.driver_model.specs.declared.action.Action.TheVariants as action
use Rattle.driver_model.specs.declared.action.Cause.TheVariants as cause
use Rattle.driver_model.specs.declared.outcome.Outcome.{Outcome}
use Rattle.shared_session.specs.History.{History}
use Rattle.single_session.specs.declared.core_state.Core.{Core}
use Rattle.single_session.specs.Turn.{next_turn, effects_of, actions_of, is_bad}
use Rattle.single_session.specs.Replay.{state_after, is_bad_after, is_spent_after}
use Rattle.single_session.specs.Done.{put_each, done_each}
use Rattle.single_session.proofs.Replays.{state_kept, outcomes_kept, few_kept, few_turns, unspent_step, shown_kept, turn_numbered, fraction_kept}
use Rattle.shared_session.proofs.session.Session.make.Goals as goal

pub make_turn-requires-clause-grows : goal.make_turn-requires-clause-grows
make_turn-requires-clause-grows c = fraction_kept c.self.inside.core c.self.inside.config c.self.inside.word c.self.inside.events (c.self.invariant.core (ap (λ (h : History). h.failure) c.self.view_is ∙ c.requires.sound)) c.self.invariant.configured

pub make_turn-requires-clause-good : goal.make_turn-requires-clause-good
make_turn-requires-clause-good c =
    let b = c.self.invariant.core (ap (λ (h : History). h.failure) c.self.view_is ∙ c.requires.sound) in
    subst (λ (x : Core). is_bad x c.args.event.kind ≡ false) (sym b)
    (subst (λ (h : History). is_bad_after h.config h.word h.events c.args.event ≡ false) (sym c.self.view_is) c.requires.good)

pub make_turn-requires-clause-turns : goal.make_turn-requires-clause-turns
make_turn-requires-clause-turns c =
    let b = c.self.invariant.core (ap (λ (h : History). h.failure) c.self.view_is ∙ c.requires.sound) in
    let few : length c.self.inside.events + 1 < 2 ^ 32 = subst (λ (h : History). length h.events + 1 < 2 ^ 32) (sym c.self.view_is) c.requires.few in
    few_turns c.self.inside.core c.self.inside.config c.self.inside.word c.self.inside.events b few

pub returns-clause-actions : goal.returns-clause-actions
returns-clause-actions c =
    subst (λ (h : History). c.make_turn.new.out.items ≡ c.args.out.now.items ++ effects_of (state_after h.config h.word h.events) c.args.event) c.self.view_is
    (shown_kept c.self.inside.core c.self.inside.config c.self.inside.word c.self.inside.events c.args.event c.args.out.now.items c.make_turn.new.out.items (c.self.invariant.core (ap (λ (h : History). h.failure) c.self.view_is ∙ c.requires.sound)) c.in-Ok.ensures.actions)

pub returns-clause-turn : goal.returns-clause-turn
returns-clause-turn c =
    subst (λ (h : History). actions_of (state_after h.config h.word h.events) c.args.event ≡ action.Turn (length c.keep.new.events) (cause.Event c.args.event) ∷ effects_of (state_after h.config h.word h.events) c.args.event) c.self.view_is
    (turn_numbered c.self.inside.config c.self.inside.word c.self.inside.events c.keep.new.events c.args.event c.in-Ok-keep.ensures.ok.1)

pub returns-clause-unspent : goal.returns-clause-unspent
returns-clause-unspent c =
    let es = c.self.inside.events in
    let b = c.self.invariant.core (ap (λ (h : History). h.failure) c.self.view_is ∙ c.requires.sound) in
    let few : length es + 1 < 2 ^ 32 = subst (λ (h : History). length h.events + 1 < 2 ^ 32) (sym c.self.view_is) c.requires.few in
    subst (λ (h : History). is_spent_after h.config h.word h.events c.args.event ≡ false) c.self.view_is
    (unspent_step c.self.inside.core c.make_turn.new.core c.self.inside.config c.self.inside.word es c.args.event b (few_turns c.self.inside.core c.self.inside.config c.self.inside.word es b few) c.in-Ok.ensures.core c.in-Ok.ensures.unspent)

pub invariant_of-self-2 : goal.invariant_of-self-2
invariant_of-self-2 c =
    let before = c.self.inside.core in
    let after = c.make_turn.new.core in
    let config = c.self.inside.config in
    let word = c.self.inside.word in
    let es = c.self.inside.events in
    let b = c.self.invariant.core (ap (λ (h : History). h.failure) c.self.view_is ∙ c.requires.sound) in
    let kept = c.in-Ok-keep.ensures.ok in
    let acts = (next_turn before c.args.event.kind).acts in
    let put = c.commit.ensures.outcomes ∙ ap (λ (os : List (Option Outcome)). put_each os c.make_turn.new.done.items) kept.0 in
    let few : length es + 1 < 2 ^ 32 = subst (λ (h : History). length h.events + 1 < 2 ^ 32) (sym c.self.view_is) c.requires.few in
    let low : before.turns ≤ 2 ^ 32 - 1 = omega (arith, few_turns before config word es b few) in
    let done : c.make_turn.new.done.items ≡ done_each acts = c.in-Ok.ensures.done ∙ ap (λ ds. ds ++ done_each acts) c.take-done.ensures in
    record {
      configured = c.self.invariant.configured;
      core = λ _. state_kept before after config word es c.keep.new.events c.args.event b c.in-Ok.ensures.core kept.1;
      outcomes = outcomes_kept before config word es c.keep.new.events c.args.event c.self.inside.outcomes c.commit.new.outcomes c.make_turn.new.done.items b c.self.invariant.outcomes kept.1 done put;
      few = few_kept before config word es c.keep.new.events c.args.event b low kept.1;
      unspent = λ _. c.in-Ok.ensures.unspent;
      fewer = λ _. c.in-Ok.ensures.fewer;
      counted = λ _. c.in-Ok.ensures.counted;
      sound = λ _. c.in-Ok.ensures.sound;
    }
