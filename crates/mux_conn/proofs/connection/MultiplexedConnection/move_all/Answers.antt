use Rattle.std.proofs.Common.{◌≡◌, ◌∙◌, ap, true, subst}
use Rattle.mux_conn.specs.Connection.{Work, is_spent_in}
use Rattle.mux_conn.specs.Passes.{started, moved_up_all}
use Rattle.mux_conn.proofs.Spent.{spent_said, spent_first, spent_second}
use Rattle.mux_conn.proofs.connection.MultiplexedConnection.move_all.Goals as goal

pub returns-in-Err-clause-spent : goal.returns-in-Err-clause-spent
returns-in-Err-clause-spent c is = spent_said (record { conn = c.args.self.now; acts = c.args.out.now.items }) (c.in-Err.ensures.spent is)

pub returns-in-Err-start-clause-spent : goal.returns-in-Err-start-clause-spent
returns-in-Err-start-clause-spent c is =
    let w : Work = record { conn = c.args.self.now; acts = c.args.out.now.items } in
    spent_first w (subst (λ (x : Work). is_spent_in (started x).conn.life ≡ true) c.in-Ok.ensures.work (c.in-Err-start.ensures.spent is))

pub returns-in-Err-move_up_all-clause-spent : goal.returns-in-Err-move_up_all-clause-spent
returns-in-Err-move_up_all-clause-spent c is =
    let w : Work = record { conn = c.args.self.now; acts = c.args.out.now.items } in
    let ready = c.in-Ok-start.ensures.work ∙ ap started c.in-Ok.ensures.work in
    spent_second w (subst (λ (x : Work). is_spent_in (moved_up_all x).conn.life ≡ true) ready (c.in-Err-move_up_all.ensures.spent is))
