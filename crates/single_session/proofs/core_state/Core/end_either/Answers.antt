use Rattle.std.proofs.Common.{◌≡◌, true, false, sym, ◌∙◌}
use Rattle.std.specs.Prelude.{is_some}
use Rattle.std.proofs.lemmas.Result.{on_ok_weaker, IfOk-weaker}
use Rattle.single_session.proofs.Ended.{managed_turning, managed_comeback, managed_last, single_turning, single_comeback, single_last}
use Rattle.single_session.proofs.core_state.Core.end_either.Goals as goal

pub returns-then-is_some-clause-turning : goal.returns-then-is_some-clause-turning
returns-then-is_some-clause-turning c =
    let managed : is_some c.args.self.now.manager ≡ true = sym c.is_some.ensures ∙ c.if-is_some.true in
    on_ok_weaker c.end_managed.result (λ h. managed_turning (is_some c.args.self.now.manager) c.args.over c.args.self.now c.args.event.now c.args.acts.now.items c.end_managed.new.self c.as_slice.result.now managed c.as_slice.ensures.value h)
    c.end_managed.ensures.turning

pub returns-then-is_some-clause-comeback : goal.returns-then-is_some-clause-comeback
returns-then-is_some-clause-comeback c =
    let managed : is_some c.args.self.now.manager ≡ true = sym c.is_some.ensures ∙ c.if-is_some.true in
    IfOk-weaker c.end_managed.result _ _ (λ what h. managed_comeback (is_some c.args.self.now.manager) c.args.over c.args.self.now c.args.event.now c.args.acts.now.items what c.as_slice.result.now managed c.as_slice.ensures.value h)
    c.end_managed.ensures.comeback

pub returns-then-is_some-clause-rest : goal.returns-then-is_some-clause-rest
returns-then-is_some-clause-rest c =
    let managed : is_some c.args.self.now.manager ≡ true = sym c.is_some.ensures ∙ c.if-is_some.true in
    on_ok_weaker c.end_managed.result (λ h. managed_last (is_some c.args.self.now.manager) c.args.over c.args.self.now c.args.event.now c.args.acts.now.items c.end_managed.new.rest.items c.as_slice.result.now managed c.as_slice.ensures.value h)
    c.end_managed.ensures.rest

pub returns-in-Ok-clause-turning : goal.returns-in-Ok-clause-turning
returns-in-Ok-clause-turning c =
    let single : is_some c.args.self.now.manager ≡ false = sym c.is_some.ensures ∙ c.if-is_some.false in
    single_turning (is_some c.args.self.now.manager) c.args.over c.args.self.now c.args.event.now c.args.acts.now.items c.end.new.self c.end.new.acts.items single c.in-Ok.ensures.turning

pub returns-in-Ok-clause-comeback : goal.returns-in-Ok-clause-comeback
returns-in-Ok-clause-comeback c =
    let single : is_some c.args.self.now.manager ≡ false = sym c.is_some.ensures ∙ c.if-is_some.false in
    single_comeback (is_some c.args.self.now.manager) c.args.over c.args.self.now c.args.event.now c.args.acts.now.items single

pub returns-in-Ok-clause-rest : goal.returns-in-Ok-clause-rest
returns-in-Ok-clause-rest c =
    let single : is_some c.args.self.now.manager ≡ false = sym c.is_some.ensures ∙ c.if-is_some.false in
    single_last (is_some c.args.self.now.manager) c.args.over c.args.self.now c.args.event.now c.args.acts.now.items c.args.rest.now.items single c.requires.none
