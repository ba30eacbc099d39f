use Rattle.std.proofs.Common.{◌≡◌, List, [], ◌∷◌, Bool, true, false, refl, sym, ap, ◌∙◌}
use Rattle.containers.proofs.Choices.{taken_if}
use Rattle.mux_conn.specs.declared.request.Waiting.{Waiting}
use Rattle.mux_conn.specs.Connection.{Work, has_room}
use Rattle.mux_conn.specs.Passes.{moved_up, moved_up_each, still_admitted}
use Rattle.mux_conn.proofs.Spent.{spent_in_moved_up}
use Rattle.mux_conn.proofs.connection.MultiplexedConnection.move_up_all.Goals as goal

-- where the queue has no room, all still wait
stays : (w : Work) (qs : List Waiting) (room : Bool) → has_room w.conn ≡ room → room ≡ false → still_admitted w qs ≡ moved_up_each w qs
stays w [] room is e = refl
stays w (q ∷ qs) false is e = rw is refl
stays w (q ∷ qs) true is e = cc

pub requests-preserved : goal.requests-preserved
requests-preserved c =
    let w : Work = record { conn = c.requests.self; acts = c.requests.out.items } in
    let q = c.in-Some.request in
    let qs = c.pop_front.new.self in
    let room = sym c.has_room.ensures ∙ c.requests-test.true in
    record {
      work = ap (λ (x : Work). moved_up_each x qs) c.in-Ok.ensures.work ∙ sym (taken_if (has_room w.conn) (moved_up_each (moved_up w q) qs) (still_admitted w (q ∷ qs)) room) ∙ ap (λ (xs : List Waiting). moved_up_each w xs) (sym c.in-Some.ensures) ∙ c.requests.invariant.work;
      count = c.in-Ok.ensures.count ∙ c.requests.invariant.count;
      failure = c.in-Ok.ensures.failure ∙ c.requests.invariant.failure;
    }

pub returns-clause-work : goal.returns-clause-work
returns-clause-work c = stays (record { conn = c.requests.self; acts = c.requests.out.items }) c.requests.rest _ (sym c.has_room.ensures) c.requests-test.false ∙ c.requests.invariant.work

pub returns-in-Err-clause-spent : goal.returns-in-Err-clause-spent
returns-in-Err-clause-spent c is =
    let w : Work = record { conn = c.requests.self; acts = c.requests.out.items } in
    let work = ap (λ (qs : List Waiting). moved_up_each w qs) (sym c.in-Some.ensures) ∙ c.requests.invariant.work in
    spent_in_moved_up w _ c.in-Some.request c.pop_front.new.self (sym c.has_room.ensures ∙ c.requests-test.true) work (c.in-Err.ensures.spent is)
