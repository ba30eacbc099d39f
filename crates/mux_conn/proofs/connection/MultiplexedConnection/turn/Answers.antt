use Rattle.std.proofs.Common.{◌≡◌, true, inl, inr, ap, subst, ◌∙◌}
use Rattle.std.specs.Prelude.{OnOk}
use Rattle.driver_model.specs.News.{told}
use Rattle.mux_conn.specs.Connection.{Work, uses_up}
use Rattle.mux_conn.specs.Passes.{passed}
use Rattle.mux_conn.specs.Turn.{flushed}
use Rattle.mux_conn.proofs.Spent.{spent_turn}
use Rattle.mux_conn.proofs.connection.MultiplexedConnection.turn.Goals as goal

pub returns-in-Err-advance_all-clause-spent : goal.returns-in-Err-advance_all-clause-spent
returns-in-Err-advance_all-clause-spent c is =
    let w : Work = record { conn = c.args.self.now; acts = c.args.out.now.items } in
    let work = c.in-Ok.ensures.work in
    let sound = c.in-Ok.ensures.sound in
    elim (c.in-Err-advance_all.ensures.spent is) [ inl h ↦ absurd (cc) | inr h ↦ inr (spent_turn w (told c.args.news) (subst (λ (x : Work). uses_up (passed x) ≡ true) work h)) ]

pub returns-clause-work : goal.returns-clause-work
returns-clause-work c =
    let all = c.in-Ok-advance_all.ensures.work ∙ ap passed c.in-Ok.ensures.work in
    subst (λ (x : Work). OnOk c.flush.result (◌≡◌ {A = Work} (record { conn = c.flush.new.self; acts = c.flush.new.out.items }) (flushed x))) all c.flush.ensures.work
