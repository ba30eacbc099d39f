use Rattle.std.proofs.Common.{ap, refl}
use Rattle.session_callers.proofs.Turning.{on_ok, if_err, turned_as, added_as, refused_as}
use Rattle.session_callers.proofs.session.SharedSession.take_turn.Goals as goal

pub returns-clause-turned : goal.returns-clause-turned
returns-clause-turned g c =
    turned_as c.args.caller.now.view c.caller.inside.seat.me.0 c.begin-home.new.seat.me.0 c.end.new.seat.me.0 c.begin-home.result c.step_home-answer.new.home
    (ap (λ v. v.view) c.caller.view_is) c.begin-home.ensures.took.0 c.step_home-answer.ensures.stepped (ap (λ m. m.0) c.end.ensures.given)

pub returns-clause-added : goal.returns-clause-added
returns-clause-added g c =
    on_ok c.step_home-answer.result
    (added_as c.args.caller.now.view c.caller.inside.seat.me.0 c.begin-home.new.seat.me.0 c.end.new.seat.me.0 c.begin-home.result c.step_home-answer.new.home c.args.event _ _ _
    (ap (λ v. v.view) c.caller.view_is) c.begin-home.ensures.took.0 c.step_home-answer.ensures.stepped (ap (λ m. m.0) c.end.ensures.given) refl) c.step_home-answer.ensures.ok

pub returns-clause-refused : goal.returns-clause-refused
returns-clause-refused g c =
    if_err c.step_home-answer.result
    (λ error. refused_as error c.args.caller.now.view c.caller.inside.seat.me.0 c.begin-home.new.seat.me.0 c.end.new.seat.me.0 c.begin-home.result c.step_home-answer.new.home c.args.event _ _
    (ap (λ v. v.view) c.caller.view_is) c.begin-home.ensures.took.0 c.step_home-answer.ensures.stepped (ap (λ m. m.0) c.end.ensures.given)) c.step_home-answer.ensures.err
