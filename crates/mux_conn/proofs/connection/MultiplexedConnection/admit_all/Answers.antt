use Rattle.std.proofs.Common.{◌≡◌, List, [], ◌∷◌, Bool, true, false, refl, sym, ap, ◌∙◌}
use Rattle.mux_conn.specs.declared.request.Waiting.{Waiting}
use Rattle.mux_conn.specs.Connection.{Work, admits_none}
use Rattle.mux_conn.specs.Passes.{admitted_each, still_waiting}
use Rattle.mux_conn.proofs.Spent.{spent_in_admitted}
use Rattle.mux_conn.proofs.connection.MultiplexedConnection.admit_all.Goals as goal

-- where none can be moved, all still wait
stays : (w : Work) (qs : List Waiting) (stuck : Bool) → admits_none w.conn ≡ stuck → stuck ≡ true → still_waiting w qs ≡ admitted_each w qs
stays w [] stuck is e = refl
stays w (q ∷ qs) true is e = rw is refl
stays w (q ∷ qs) false is e = cc

pub returns-clause-work : goal.returns-clause-work
returns-clause-work c = stays (record { conn = c.requests.self; acts = c.requests.out.items }) c.requests.rest _ (sym c.admits_none.ensures) c.requests-test.false ∙ c.requests.invariant.work

pub returns-in-Err-clause-spent : goal.returns-in-Err-clause-spent
returns-in-Err-clause-spent c is =
    let w : Work = record { conn = c.requests.self; acts = c.requests.out.items } in
    let work = ap (λ (qs : List Waiting). admitted_each w qs) (sym c.in-Some.ensures) ∙ c.requests.invariant.work in
    spent_in_admitted w _ c.in-Some.request c.pop_front.new.self (sym c.admits_none.ensures ∙ c.requests-test.true) work (c.in-Err.ensures.spent is)
