use Rattle.std.proofs.Common.{◌≡◌, ◌++◌, ◌⊎◌, List, true, Some, ap, subst, ◌∙◌}
use Rattle.driver_model.specs.News.{told}
use Rattle.mux_conn.specs.declared.act.LinkAct.{LinkAct}
use Rattle.mux_conn.specs.declared.errors.ConnectionError.TheVariants.{Spent}
use Rattle.mux_conn.specs.Connection.{Work, uses_up}
use Rattle.mux_conn.specs.Turn.{stepped}
use Rattle.mux_conn.proofs.connection.MultiplexedConnection.step.Goals as goal

pub returns-in-Err-clause-spent : goal.returns-in-Err-clause-spent
returns-in-Err-clause-spent c is =
    subst (λ (acts : List LinkAct). (c.args.self.now.failure ≡ Some Spent) ⊎ (uses_up (stepped (record { conn = c.args.self.now; acts = acts }) (told c.args.event.news)) ≡ true)) c.new-acts.ensures.items (c.in-Err.ensures.spent is)

pub returns-in-Ok-append-clause-conn : goal.returns-in-Ok-append-clause-conn
returns-in-Ok-append-clause-conn c =
    ap (λ (x : Work). x.conn) c.in-Ok.ensures.work ∙ ap (λ (acts : List LinkAct). (stepped (record { conn = c.args.self.now; acts = acts }) (told c.args.event.news)).conn) c.new-acts.ensures.items

pub returns-in-Ok-append-clause-acts : goal.returns-in-Ok-append-clause-acts
returns-in-Ok-append-clause-acts c =
    let acts = ap (λ (x : Work). x.acts) c.in-Ok.ensures.work ∙ ap (λ (acts : List LinkAct). (stepped (record { conn = c.args.self.now; acts = acts }) (told c.args.event.news)).acts) c.new-acts.ensures.items in
    c.in-Ok-append.ensures.items ∙ ap (λ (xs : List LinkAct). c.args.out.now.items ++ xs) acts
