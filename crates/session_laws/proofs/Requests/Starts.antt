-- Messages start as far as they can.
use Rattle.std.proofs.Common.{List, [], ap, append_assoc, false, inl, length, refl, subst, sym, ℕ, ◌++◌, ◌∙◌, ◌∷◌, ◌≡◌}
use Rattle.std.proofs.lemmas.List.{append-nil}
use Rattle.containers.proofs.Choices.{not_both}
use Rattle.driver_model.specs.Shape.{need_of}
use Rattle.driver_model.specs.declared.action.Action.{Action}
use Rattle.driver_model.specs.declared.action.Owner.TheVariants as owner
use Rattle.link_core.specs.Link.{LinkState, Starting, holds_back, start_of, started_each, started_one}
use Rattle.link_core.specs.declared.message.Queued.{Queued}
use Rattle.link_core.specs.declared.message.Started.{Started}
use Rattle.link_laws.proofs.Choices.{chosen_both}
use Rattle.link_laws.specs.Starts.{begun, starting}
use Rattle.mux_conn.specs.Connection.{in_front, is_outstanding}
use Rattle.mux_conn.specs.declared.life.Life.TheVariants.{Ready}
use Rattle.mux_conn.specs.Requests.{name_at}
use Rattle.mux_conn.specs.declared.act.LinkAct.{LinkAct}
use Rattle.mux_conn.specs.declared.request.Request.{Request}
use Rattle.single_session.specs.Turn.{shown_each, sources_of, timers_of}
use Rattle.legal_trace.specs.Book.{Book, book, message_of}
use Rattle.legal_trace.specs.Ledger.{begins}
use Rattle.legal_trace.specs.Legal.{MayStart, NoneEnds}
use Rattle.legal_trace.specs.Steps.{starts_or_waits}
use Rattle.conn_laws.proofs.Ties.Ahead.{HasSeats}
use Rattle.session_laws.proofs.Ties.Ahead.{IsRunning, queue_step, queue_unstarted}
use Rattle.session_laws.proofs.Ties.Entered.{shown_more, sources_of-append, timers_of-append}
use Rattle.conn_laws.proofs.Requests.Going.{HasRenewed}
use Rattle.session_laws.proofs.Requests.Going.{IsGoing, begun_up, first_in_queue, going_more, none_ends_mine}
use Rattle.conn_laws.proofs.Requests.Start.{with_queue}
use Rattle.session_laws.proofs.Requests.Start.{after_start, on_link, start_action, start_tied}
use Rattle.conn_laws.proofs.Ties.States.{IsFit}
use Rattle.conn_laws.proofs.Ties.Tied.{queue_ids}
use Rattle.session_laws.proofs.Ties.Tied.{TurnState, Tied}
use Rattle.conn_laws.proofs.Requests.Starts.{begins_ends_none, fit_next, seats_next, show_start, shows, shows-append}

-- a session on a link that is up, with this queue
pub running_on : (t : TurnState) (link : LinkState) (qs : List Queued) → IsFit t.size t.bound (with_queue link qs) → HasSeats t.moved (in_front t.renewal) (with_queue link qs) t.size → is_outstanding t.again ≡ false → IsRunning (on_link t (with_queue link qs))
running_on t link qs fit seats served = record { settled = refl; up = refl; served = served; fit = fit; seats = seats }

-- the first message of the queue may start, where nothing holds it back
start_may : (b : Book) (t : TurnState) (link : LinkState) (q : Queued) (qs : List Queued) → IsFit t.size t.bound (with_queue link (q ∷ qs)) → HasSeats t.moved (in_front t.renewal) (with_queue link (q ∷ qs)) t.size → holds_back link ≡ false → is_outstanding t.again ≡ false
    → Tied b (on_link t (with_queue link (q ∷ qs))) → NoneEnds b → HasRenewed t.renewal (Ready (with_queue link (q ∷ qs))) → MayStart b t.link link.started (name_at t.requests q.id) (need_of q.shape) (length q.packed)
start_may b t link q qs fit seats free served h ended renewed =
    let was = on_link t (with_queue link (q ∷ qs)) in
    let is = h.lines.queued.0 in
    let running = running_on t link (q ∷ qs) fit seats served in
    record {
      begun = begun_up b was h running (refl, refl) ended renewed;
      unstarted = queue_unstarted b was q.id h (inl refl);
      starts = queue_step b was q.id h running (inl refl) ∙ ap starts_or_waits free;
      in_order = first_in_queue b was q.id (queue_ids qs) h running refl;
      on_its_link = sym ((h.told refl).here q.id (inl refl));
      next = (h.link refl).started;
      needs_its_items = ap need_of is.is_of.shape_is;
      long_as_its_bytes = ap length is.is_of.packs;
    }

-- it starts
start_going : (trace : List Action) (t : TurnState) (link : LinkState) (q : Queued) (qs : List Queued) → IsFit t.size t.bound (with_queue link (q ∷ qs)) → HasSeats t.moved (in_front t.renewal) (with_queue link (q ∷ qs)) t.size → holds_back link ≡ false
    → IsGoing trace (on_link t (with_queue link (q ∷ qs)))
    → IsGoing (trace ++ start_action t link q ∷ []) (after_start t link q qs)
start_going trace t link q qs fit seats free h =
    let b = book trace in
    let n = name_at t.requests q.id in
    let try_message = message_of b t.link (owner.Try n 0) in
    going_more trace (start_action t link q) (after_start t link q qs) h.sound.stands
    (refl, start_may b t link q qs fit seats free (h.served refl) h.sound.tied h.ended h.renewed)
    (start_tied b t link q qs h.sound.tied)
    (none_ends_mine b t.link (begins try_message) (begins_ends_none (b.link t.link) try_message h.sound.tied.life.1 refl h.sound.tied.setup.said (h.ended t.link)) h.ended)
    (λ x e due. absurd (not_both (holds_back link) free (h.renewed (with_queue link (q ∷ qs)) refl due).1))
    (λ up. h.served refl)

-- the acts of the starts of one call
--
-- starts ask for no timer
pub shows_timers : (l : ℕ) (acts : List LinkAct) (requests : List Request) (ss : List Started) → timers_of l (acts ++ shows requests ss) ≡ timers_of l acts
shows_timers l acts requests ss = timers_of-append l acts (shows requests ss) ∙ ap (λ ts. timers_of l acts ++ ts) (none ss) ∙ append-nil (timers_of l acts)
  where
    none : (ss : List Started) → timers_of l (shows requests ss) ≡ []
    none [] = refl
    none (s ∷ ss) = none ss

-- nor for a source of credentials
pub shows_sources : (l : ℕ) (acts : List LinkAct) (requests : List Request) (ss : List Started) → sources_of l (acts ++ shows requests ss) ≡ sources_of l acts
shows_sources l acts requests ss = sources_of-append l acts (shows requests ss) ∙ ap (λ us. sources_of l acts ++ us) (none ss) ∙ append-nil (sources_of l acts)
  where
    none : (ss : List Started) → sources_of l (shows requests ss) ≡ []
    none [] = refl
    none (s ∷ ss) = none ss

-- what is in a queue starts as long as nothing holds it back
pub each_going : (before : List Action) (n c : ℕ) (acts : List LinkAct) (t : TurnState) (s : Starting) (qs : List Queued) → IsFit t.size t.bound (with_queue s.link qs) → HasSeats t.moved (in_front t.renewal) (with_queue s.link qs) t.size
    → IsGoing (before ++ shown_each t.link n c (acts ++ shows t.requests s.out)) (on_link t (with_queue s.link qs))
    → IsGoing (before ++ shown_each t.link n c (acts ++ shows t.requests (started_each s qs).out)) (record (on_link t (started_each s qs).link) { started = t.started ++ queue_ids (starting s.link qs) })
each_going before n c acts t s [] fit seats h = subst (λ ns. IsGoing (before ++ shown_each t.link n c (acts ++ shows t.requests s.out)) (record (on_link t (with_queue s.link [])) { started = ns })) (sym (append-nil t.started)) h
each_going before n c acts t s (q ∷ qs) fit seats h =
    let next = started_one s q in
    let more = shows t.requests s.out in
    let stopped : Starting = record { link = with_queue s.link (q ∷ qs); out = s.out } in
    chosen_both (λ (x : List Queued) (y : Starting). IsGoing (before ++ shown_each t.link n c (acts ++ shows t.requests y.out)) (record (on_link t y.link) { started = t.started ++ queue_ids x })) (holds_back s.link) [] (q ∷ starting (begun s.link q) qs) stopped
    (started_each next qs)
    (λ held. subst (λ ns. IsGoing (before ++ shown_each t.link n c (acts ++ more)) (record (on_link t (with_queue s.link (q ∷ qs))) { started = ns })) (sym (append-nil t.started)) h)
    (λ free.
    let first = start_going (before ++ shown_each t.link n c (acts ++ more)) t s.link q qs fit seats free h in
    let same : (before ++ shown_each t.link n c (acts ++ more)) ++ start_action t s.link q ∷ [] ≡ before ++ shown_each t.link n c (acts ++ shows t.requests next.out) =
    sym (shown_more before t.link n c (acts ++ more) (show_start t.requests (start_of s.link.started q)))
    ∙ ap (λ (x : List LinkAct). before ++ shown_each t.link n c x) (append_assoc acts more (show_start t.requests (start_of s.link.started q) ∷ []) ∙ ap (λ (x : List LinkAct). acts ++ x) (sym (shows-append t.requests s.out (start_of s.link.started q)))) in
    let after = record t { started = t.started ++ q.id ∷ [] } in
    let rest = each_going before n c acts after next qs (fit_next t.size t.bound s q qs fit) (seats_next t.moved (in_front t.renewal) t.size s q qs seats) (subst (λ (x : List Action). IsGoing x (after_start t s.link q qs)) same first) in
    subst (λ ns. IsGoing (before ++ shown_each t.link n c (acts ++ shows t.requests (started_each next qs).out)) (record (on_link t (started_each next qs).link) { started = ns })) (append_assoc t.started (q.id ∷ []) (queue_ids (starting (begun s.link q) qs))) rest)
