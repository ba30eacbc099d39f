use Rattle.std.proofs.Common.{◌≡◌, true, ap, ◌∙◌}
use Rattle.mux_conn.specs.Connection.{Work, work_with, is_ready}
use Rattle.mux_conn.specs.Renewals.{started_ahead}
use Rattle.mux_conn.proofs.Spent.{is_to_renew, ready_ahead, spent_asked}
use Rattle.mux_conn.proofs.connection.MultiplexedConnection.renew.Goals as goal

pub returns-in-Err-clause-spent : goal.returns-in-Err-clause-spent
returns-in-Err-clause-spent c is =
    let w = work_with c.args.self.now c.args.out.now.items in
    let due : is_to_renew w ≡ true = cc in
    spent_asked w due (c.in-Err.ensures.spent is)

pub tell_renewal-requires : goal.tell_renewal-requires
tell_renewal-requires c =
    let w = work_with c.args.self.now c.args.out.now.items in
    let ready : is_ready w.conn.life ≡ true = cc in
    ap (λ (x : Work). is_ready x.conn.life) (c.in-Ok-start_ahead.ensures.work) ∙ ap (λ (x : Work). is_ready (started_ahead x).conn.life) (c.in-Ok.ensures.work) ∙ ready_ahead w ready
