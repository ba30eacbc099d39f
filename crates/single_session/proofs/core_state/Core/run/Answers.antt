use Rattle.std.proofs.Common.{◌≡◌, Ok, Err, ap, ◌∙◌}
use Rattle.std.specs.Prelude.{Result, OnOk}
use Rattle.driver_model.specs.declared.event.EventKind.{EventKind}
use Rattle.mux_conn.specs.Connection.{Work}
use Rattle.mux_conn.specs.Passes.{passed}
use Rattle.single_session.specs.Turn.{Turning, work_of, with_work, heard, requested, passed_by}
use Rattle.mux_conn.specs.declared.errors.ConnectionError.TheVariants.{Spent}
use Rattle.single_session.proofs.Within.{news_within, known_good}
use Rattle.single_session.proofs.Spent.{spent_in_run}
use Rattle.single_session.proofs.core_state.Core.run.Goals as goal

-- requests are moved from what the event made of the session
ends : {T E : Type 0} (result : Result T E) (t u v : Turning) (w : Work) (kind : EventKind) → u ≡ heard t kind → v ≡ requested u kind → OnOk result (w ≡ passed (work_of v)) → OnOk result (with_work v w ≡ passed_by t kind)
ends (Ok x) t u v w kind first second h =
    ap (with_work v) h ∙ ap (λ (x : Turning). with_work x (passed (work_of x))) (second ∙ ap (λ (x : Turning). requested x kind) first)
ends (Err e) t u v w kind first second h = h

pub hear-requires : goal.hear-requires
hear-requires c = news_within c.args.self.now c.args.event.now c.requires.good

pub take_requests-requires-clause-known : goal.take_requests-requires-clause-known
take_requests-requires-clause-known c = known_good c.args.self.now c.args.event.now _ c.hear.ensures.count c.requires.good

pub returns-clause-spent : goal.returns-clause-spent
returns-clause-spent c is =
    spent_in_run (record { core = c.args.self.now; acts = c.args.acts.now.items }) (record { core = c.hear.new.self; acts = c.hear.new.acts.items }) (record { core = c.take_requests.new.self; acts = c.take_requests.new.acts.items })
    c.args.event.now c.take_requests.new.self.single.connection.failure Spent c.in-Ok.ensures.turning c.in_ok-take_requests.ensures.turning (c.in_ok-take_requests.ensures.failure ∙ c.in-Ok.ensures.sound) (c.advance_all.ensures.spent is)

pub returns-clause-turning : goal.returns-clause-turning
returns-clause-turning c =
    ends c.advance_all.result (record { core = c.args.self.now; acts = c.args.acts.now.items }) (record { core = c.hear.new.self; acts = c.hear.new.acts.items }) (record { core = c.take_requests.new.self; acts = c.take_requests.new.acts.items })
    (record { conn = c.advance_all.new.self; acts = c.advance_all.new.out.items }) c.args.event.now c.in-Ok.ensures.turning c.in_ok-take_requests.ensures.turning c.advance_all.ensures.work
