use Rattle.std.proofs.Common.{◌≡◌, ℕ, List, [], ◌∷◌, ◌++◌, Ok, Err, ap, subst, ◌∙◌, append_assoc}
use Rattle.std.specs.Prelude.{Result, OnOk, Option}
use Rattle.driver_model.specs.declared.action.Action.{Action}
use Rattle.driver_model.specs.declared.action.Action.TheVariants as action
use Rattle.single_session.specs.Generations.{generation_shown, connect_timed}
use Rattle.single_session.proofs.returning.show_dial.Goals as goal

-- the generation, the link, and the timer
three : {T E : Type 0} (result : Result T E) (old first second third : List Action) (x : Action) (begun timed : List Action) → first ≡ old ++ begun → second ≡ first ++ x ∷ [] → OnOk result (third ≡ second ++ timed) → OnOk result (third ≡ old ++ (begun ++ x ∷ timed))
three (Ok t) old first second third x begun timed a b h =
    h ∙ ap (λ (xs : List Action). xs ++ timed) (b ∙ ap (λ (xs : List Action). xs ++ x ∷ []) a) ∙ append_assoc (old ++ begun) (x ∷ []) timed ∙ append_assoc old begun (x ∷ timed)
three (Err e) old first second third x begun timed a b h = h

pub returns-clause-actions : goal.returns-clause-actions
returns-clause-actions c =
    three c.show_connect_timer.result c.args.out.now.items c.show_generation.new.out.items c.show_connect.new.out.items c.show_connect_timer.new.out.items
    (action.Connect c.args.link c.args.generations.now.info.host c.args.generations.now.info.port) (generation_shown c.args.number) (connect_timed c.args.link c.args.timer c.args.generations.now.settings.connection.connection_timeout)
    c.in_ok-show_generation.ensures.actions c.in_ok-show_connect.ensures.actions
    (subst (λ (bound : Option ℕ). OnOk c.show_connect_timer.result (c.show_connect_timer.new.out.items ≡ c.show_connect.new.out.items ++ connect_timed c.args.link c.args.timer bound)) c.connection_timeout.ensures c.show_connect_timer.ensures.actions)
