-- Which requests are ahead of new credentials at the end of a turn.
use Rattle.std.proofs.Common.{◌≡◌, ℕ, ◌+◌, Bool, true, false, List, [], ◌++◌, length, Some, None, if◌then◌else◌, refl, sym, ap, ◌∙◌, subst, append_assoc, arith}
use Rattle.containers.proofs.Choices.{by_test, chosen, both_left, not_both}
use Rattle.driver_model.specs.declared.action.Action.{Action}
use Rattle.link_core.specs.Link.{LinkState}
use Rattle.mux_conn.specs.declared.act.LinkAct.{LinkAct}
use Rattle.mux_conn.specs.declared.connection.MultiplexedConnection.{MultiplexedConnection}
use Rattle.mux_conn.specs.declared.renewal.Renewal.{Renewal}
use Rattle.mux_conn.specs.Connection.{Work, is_ready, is_resting, is_used_up}
use Rattle.mux_conn.specs.Passes.{passed, said}
use Rattle.mux_conn.proofs.Kept.{passed_kept}
use Rattle.single_session.specs.declared.core_state.Core.{Core}
use Rattle.single_session.specs.declared.generations.Comeback.{Comeback}
use Rattle.single_session.specs.declared.generations.Comeback.TheVariants as comeback
use Rattle.single_session.specs.declared.generations.Generations.{Generations}
use Rattle.single_session.specs.Generations.{came_back, comeback_of, is_due, rests}
use Rattle.single_session.specs.Turn.{shown_each, sources_of, timers_of}
use Rattle.legal_trace.specs.Book.{Book, blank_book, book, entered_each}
use Rattle.legal_trace.specs.Legal.{AllStand}
use Rattle.session_laws.proofs.Internal.Ahead.{ready_asked}
use Rattle.session_laws.proofs.Internal.Renews.{HasTold}
use Rattle.conn_laws.proofs.Requests.Going.{ready_there}
use Rattle.conn_laws.proofs.Requests.Moved.{unready_said}
use Rattle.session_laws.proofs.Requests.Moved.{IsReady, ready_told}
use Rattle.session_laws.proofs.Requests.Settle.{seen, trace_of_acts}
use Rattle.conn_laws.proofs.Ties.Ahead.{ready_is}
use Rattle.session_laws.proofs.Ties.Entered.{all_stand_behind, book-append, shown_each-append}
use Rattle.session_laws.proofs.Ties.Ordered.{AreOrdered, IsOrdered, ordered_on, since_same}
use Rattle.session_laws.proofs.Ties.Places.{known, since_begun}
use Rattle.conn_laws.proofs.Ties.Tied.{link_in}
use Rattle.session_laws.proofs.Ties.Tied.{TurnState}
use Rattle.conn_laws.proofs.Turn.Adds.{Adds, passed_adds}

-- acts that are shown behind others show actions behind theirs
pub trace_adds : (front : List Action) (f : Core) (acts more all : List LinkAct) → all ≡ acts ++ more
    → trace_of_acts front f all ≡ trace_of_acts front f acts ++ shown_each f.single.link (length f.timers + length (timers_of f.single.link acts)) (length f.sources + length (sources_of f.single.link acts)) more
trace_adds front f acts more all same =
    let l = f.single.link in
    let n = length f.timers in
    let c = length f.sources in
    ap (λ xs. front ++ shown_each l n c xs) same ∙ ap (λ xs. front ++ xs) (shown_each-append l n c acts more)
    ∙ sym (append_assoc front (shown_each l n c acts) (shown_each l (n + length (timers_of l acts)) (c + length (sources_of l acts)) more))

-- where the event of a turn was applied, and requests were moved, it is known behind any further actions of the turn which are ahead
pub ends_ordered : (front : List Action) (f : Core) (w : Work) (started : List ℕ) (rest : List Action) (x : MultiplexedConnection) → IsReady front f w started → AllStand blank_book (trace_of_acts front f (passed w).acts ++ rest)
    → (book (trace_of_acts front f (passed w).acts ++ rest)).turns ≡ f.turns → (is_ready x.life ≡ true → is_ready (passed w).conn.life ≡ true) → x.renewal ≡ (passed w).conn.renewal
    → IsOrdered (book (trace_of_acts front f (passed w).acts ++ rest)) f.single.link f.table x.life x.renewal
ends_ordered front f w started rest x h all turns ready kept up pending unlost = by_test (is_ready w.conn.life) (AreOrdered (book (trace_of_acts front f (passed w).acts ++ rest)) f.single.link f.table x.renewal.last)
    (λ is.
    let link : LinkState = link_in w.conn.life in
    let told : HasTold front f (said w) = ready_told front f w started link (ready_is w.conn.life is) h in
    let adds : Adds (said w) (passed w) = passed_adds w in
    let first : List Action = trace_of_acts front f (said w).acts in
    let more : List Action = shown_each f.single.link (length f.timers + length (timers_of f.single.link (said w).acts)) (length f.sources + length (sources_of f.single.link (said w).acts)) adds.more in
    let whole : trace_of_acts front f (passed w).acts ++ rest ≡ first ++ (more ++ rest) = ap (λ xs. xs ++ rest) (trace_adds front f (said w).acts adds.more (passed w).acts adds.acts) ∙ append_assoc first more rest in
    let b : Book = book first in
    let same : x.renewal ≡ (said w).conn.renewal = kept ∙ passed_kept w in
    let last : book (trace_of_acts front f (passed w).acts ++ rest) ≡ entered_each b (more ++ rest) = ap book whole ∙ book-append first (more ++ rest) in
    let stands : AllStand b (more ++ rest) = all_stand_behind first (more ++ rest) (subst (AllStand blank_book) whole all) in
    let t : TurnState = seen f (said w).acts (said w).conn [] told.started in
    let counts : b.submissions ≡ length f.table = told.holds.tied.numbers.submissions in
    let turned : (entered_each b (more ++ rest)).turns ≡ b.turns = sym (ap (λ (y : Book). y.turns) last) ∙ turns ∙ sym told.holds.tied.numbers.turns in
    let was = told.ordered (ap is_ready told.life) (ap (λ (r : Renewal). r.pending) (sym same) ∙ pending) (ap (λ (r : Renewal). r.lost) (sym same) ∙ unlost) in
    let now = ordered_on b (more ++ rest) f.single.link f.table (said w).conn.renewal.last stands (known first told.holds.stands) (since_begun first told.holds.stands) (ready_asked b t told.link told.holds.tied told.life)
    (omega (arith, counts)) (since_same b (more ++ rest) f.single.link turned) was in
    subst (λ (y : Book). AreOrdered y f.single.link f.table x.renewal.last) (sym last) (subst (λ (r : Renewal). AreOrdered (entered_each b (more ++ rest)) f.single.link f.table r.last) (sym same) now))
    (λ down.
    let still : is_ready (passed w).conn.life ≡ false = (passed_adds w).ready ∙ ap (λ (y : Work). is_ready y.conn.life) (unready_said w down) ∙ down in
    absurd (not_both (is_ready (passed w).conn.life) still (ready up)))

-- a manager whose link is ready behind what it does of its own does nothing
pub ready_stays : (g : Generations) (woken over : Bool) (k : Core) (acts : List LinkAct) → is_ready (came_back k (comeback_of g woken over k acts)).single.connection.life ≡ true → comeback_of g woken over k acts ≡ comeback.Stays
ready_stays g woken over k acts =
    let P = λ (x : Comeback). is_ready (came_back k x).single.connection.life ≡ true → x ≡ comeback.Stays in
    let again = if is_due g over k.single.connection acts then comeback.Dials k.links (Some (g.number + 1)) (length k.timers) else comeback.Stays in
    let dials = if woken then comeback.Dials k.links None (length k.timers) else again in
    let goes = if k.shut then comeback.Stays else dials in
    let rested = comeback.Rests g.number g.attempt (length k.timers) in
    chosen P (is_used_up k.single.connection) comeback.Stays (if rests k then rested else goes) (λ t r. refl)
    (λ f1. chosen P (rests k) rested goes (λ t r. absurd (not_both (is_resting k.single.connection.life) (ready_there k.single.connection.life r) (both_left (is_resting k.single.connection.life) _ t)))
    (λ f2. chosen P k.shut comeback.Stays dials (λ t r. refl)
    (λ f3. chosen P woken (comeback.Dials k.links None (length k.timers)) again (λ t r. cc r)
    (λ f4. chosen P (is_due g over k.single.connection acts) (comeback.Dials k.links (Some (g.number + 1)) (length k.timers)) comeback.Stays (λ t r. cc r) (λ f5 r. refl)))))
