use Rattle.std.proofs.Common.{◌≡◌, ◌+◌, [], ◌∷◌, ◌++◌, length, refl, subst}
use Rattle.driver_model.specs.declared.action.Action.TheVariants as action
use Rattle.driver_model.specs.declared.action.Cause.TheVariants as cause
use Rattle.shared_session.specs.History.{History}
use Rattle.single_session.proofs.Replays.{line_told}
use Rattle.shared_session.proofs.session.Session.tell.Goals as goal

pub returns-clause-told : goal.returns-clause-told
returns-clause-told c sound good unspent =
    subst (λ (h : History). c.show_line.new.out.items ≡ c.args.out.now.items ++ action.Turn (length h.events + 1) (cause.Event c.args.event.now) ∷ []) c.self.view_is
    (line_told c.self.inside.core c.self.inside.config c.self.inside.word c.self.inside.events c.args.event.now _ c.args.out.now.items c.show_line.new.out.items
    (c.self.invariant.core c.in-Sound.is) refl c.in_ok-show_line.ensures.told)
