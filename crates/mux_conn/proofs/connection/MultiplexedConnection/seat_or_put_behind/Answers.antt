use Rattle.std.proofs.Common.{◌≡◌, true, sym, ◌∙◌, subst}
use Rattle.std.specs.Prelude.{OnOk}
use Rattle.containers.proofs.Choices.{taken_if}
use Rattle.mux_conn.specs.Connection.{Work, has_room, is_spent_in}
use Rattle.mux_conn.specs.Passes.{seated, put_behind, seated_or_behind}
use Rattle.mux_conn.specs.declared.request.Waiting.{Waiting}
use Rattle.mux_conn.proofs.connection.MultiplexedConnection.seat_or_put_behind.Goals as goal

-- where the queue has room, the request takes its place
takes : (w : Work) (q : Waiting) → has_room w.conn ≡ true → seated w q ≡ seated_or_behind w q
takes w q room = sym (taken_if (has_room w.conn) (seated w q) (put_behind w q) room)

pub returns-then-has_room-clause-work : goal.returns-then-has_room-clause-work
returns-then-has_room-clause-work c =
    let w : Work = record { conn = c.args.self.now; acts = c.args.out.now.items } in
    subst (λ (x : Work). OnOk c.seat.result (◌≡◌ {A = Work} (record { conn = c.seat.new.self; acts = c.seat.new.out.items }) x)) (takes w c.args.request (sym c.has_room.ensures ∙ c.if-has_room.true)) c.seat.ensures.work

pub returns-then-has_room-clause-spent : goal.returns-then-has_room-clause-spent
returns-then-has_room-clause-spent c is =
    let w : Work = record { conn = c.args.self.now; acts = c.args.out.now.items } in
    subst (λ (x : Work). is_spent_in x.conn.life ≡ true) (takes w c.args.request (sym c.has_room.ensures ∙ c.if-has_room.true)) (c.seat.ensures.spent is)
