-- Requests are moved on a link that is up: each takes its place where the queue has room, and messages start.
use Rattle.std.proofs.Common.{List, [], ap, append_assoc, arith, false, inl, inr, length, refl, subst, sym, true, ℕ, ◌-◌, ◌++◌, ◌∙◌, ◌∷◌, ◌≡◌, ◌⊎◌, suc}
use Rattle.std.proofs.lemmas.List.{append-nil}
use Rattle.std.specs.Prelude.{◌&&◌, ◌||◌}
use Rattle.containers.proofs.Choices.{chosen, if_true, not_both, both_left, both_right, by_test}
use Rattle.resp_value.specs.declared.value.Value.TheVariants.{Nil}
use Rattle.driver_model.specs.declared.action.Action.{Action}
use Rattle.driver_model.specs.declared.action.Action.TheVariants as action
use Rattle.driver_model.specs.declared.outcome.Outcome.TheVariants as outcome
use Rattle.link_core.specs.Link.{LinkState, Starting, enqueued, holds_back, is_full_beside, started_all}
use Rattle.link_laws.specs.Starts.{starting}
use Rattle.mux_conn.specs.Connection.{Work, acted, admits_none, admits_none_at, has_no_permit, has_room, with_link, in_front, is_outstanding, is_ready}
use Rattle.mux_conn.specs.Passes.{admitted, admitted_at, admitted_each, let_in, message_of, permits_taken, seated_or_behind, still_waiting, moved_up, moved_up_each, noted, placed_at, put_behind, seated, started, started_at, still_admitted, told_at_place, round_begun, rounds_of}
use Rattle.mux_conn.specs.Requests.{answered, at_progress, closed, given_back, is_admitted_at, is_open as is_open_progress, is_open_at, is_waiting, is_waiting_at, name_at, permits_at, progressed, with_permits, is_unbegun, is_unbegun_at}
use Rattle.mux_conn.specs.declared.act.LinkAct.{LinkAct}
use Rattle.mux_conn.specs.declared.act.LinkAct.TheVariants as act
use Rattle.mux_conn.specs.declared.connection.MultiplexedConnection.{MultiplexedConnection}
use Rattle.mux_conn.specs.declared.life.Life.{Life}
use Rattle.mux_conn.specs.declared.life.Life.TheVariants.{Ready}
use Rattle.mux_conn.specs.declared.request.Progress.TheVariants as progress
use Rattle.mux_conn.specs.declared.request.Request.{Request}
use Rattle.mux_conn.specs.declared.request.Waiting.{Waiting}
use Rattle.single_session.specs.declared.core_state.Core.{Core}
use Rattle.single_session.specs.Turn.{timers_of}
use Rattle.legal_trace.specs.Book.{Book, book}
use Rattle.legal_trace.specs.Legal.{MayTell, NoneEnds, IsFirstToMove}
use Rattle.legal_trace.specs.Steps.{is_let_in}
use Rattle.session_laws.proofs.Requests.Rounds.{round_going, with_round}
use Rattle.conn_laws.proofs.Changes.Requests.{waiting_open, progress_twice as permits_twice, progress_count as length_with}
use Rattle.conn_laws.proofs.Ties.Ahead.{HasSeats}
use Rattle.session_laws.proofs.Ties.Ahead.{IsRunning, first_step, kept_unstarted, running_of}
use Rattle.session_laws.proofs.Ties.Entered.{shown_more}
use Rattle.conn_laws.proofs.Requests.Going.{HasRenewed}
use Rattle.session_laws.proofs.Requests.Going.{IsGoing, begun_up, first_behind, going_more, first_round}
use Rattle.conn_laws.proofs.Ties.InLine.{kept_ids}
use Rattle.session_laws.proofs.Requests.LetIn.{IsOpening, let_in_going, lets, first_early}
use Rattle.conn_laws.proofs.Ties.Names.{length_still, name_still, name_with, open_within, permits_still, permits_with, there_same, with_same, there_then, there_within}
use Rattle.conn_laws.proofs.Ties.Numbers.{IsIn, Rising, rising_left, rising_right, rising_tail, rising_without, in_either, in_right, requests_in, rising_apart, rising_in}
use Rattle.session_laws.proofs.Ties.Owes.{request_story}
use Rattle.conn_laws.proofs.Requests.Place.{IsNext}
use Rattle.session_laws.proofs.Requests.Place.{admit_tied, next_admitted, next_waiting, passed_admitted, passed_waiting, place_tied, tell_tied, with_place, with_told}
use Rattle.session_laws.proofs.Requests.Settle.{quiet_asks, seen, trace_of_acts}
use Rattle.session_laws.proofs.Requests.Start.{on_link}
use Rattle.conn_laws.proofs.Requests.Starts.{each_fit, each_held, shown_is, shows, each_seats}
use Rattle.session_laws.proofs.Requests.Starts.{each_going, shows_sources, shows_timers}
use Rattle.conn_laws.proofs.Ties.States.{IsFit}
use Rattle.conn_laws.proofs.Ties.Tied.{queue_ids, waiting_ids, link_in}
use Rattle.session_laws.proofs.Ties.Tied.{TurnState, Tied}
use Rattle.conn_laws.proofs.Requests.Passes.{AreAmong, entering, fit_enqueued, found_full, free_link, let_in_is, being_admitted, order_next, renewed_enqueued, seated_keeps, seated_once, seats_enqueued}

-- the session with this connection, of which these wait for a place, and these for the connection, when these acts are shown
abbrev pub moving : Core → List LinkAct → MultiplexedConnection → List Waiting → List Waiting → List ℕ → TurnState
moving f acts conn admitted waiting started = seen f acts (record conn { admitted = admitted; waiting = waiting }) [] started

-- the same while this one is being let in
abbrev pub admitting_in : Core → List LinkAct → MultiplexedConnection → List Waiting → List Waiting → List ℕ → List ℕ → TurnState
admitting_in f acts conn admitted waiting being_admitted started = record (moving f acts conn admitted waiting started) { being_admitted = being_admitted }

-- a connection that is up, between two moves: what is in its queue is held back, if anything is; these wait still for
-- a place and for the connection, and this one is being let in; and those that are still to be moved are above all
-- that were in this turn, who found places where they are in the queue
pub record IsUp (before : List Action) (f : Core) (w : Work) (admitted waiting : List Waiting) (being_admitted next : List ℕ) : Type 0 where
  pub link : LinkState
  pub life : w.conn.life ≡ Ready link
  pub fit : IsFit w.conn.size w.conn.boundary link
  pub seats : HasSeats w.conn.moved (in_front w.conn.renewal) link w.conn.size
  pub held : (link.queue ≡ []) ⊎ (holds_back link ≡ true)
  pub started : List ℕ
  pub going : IsGoing (trace_of_acts before f w.acts) (admitting_in f w.acts w.conn admitted waiting being_admitted started)
  pub order : Rising 0 (w.conn.moved ++ next) (length w.conn.requests)

-- messages start, and what is in the queue behind them is held back
pub started_up : (before : List Action) (f : Core) (w : Work) (link : LinkState) (admitted waiting : List Waiting) (next done : List ℕ) → IsFit w.conn.size w.conn.boundary link → HasSeats w.conn.moved (in_front w.conn.renewal) link w.conn.size
    → IsGoing (trace_of_acts before f w.acts) (moving f w.acts (with_link w link).conn admitted waiting done) → Rising 0 (w.conn.moved ++ next) (length w.conn.requests)
    → IsUp before f (started_at (with_link w link) (Ready link)) admitted waiting [] next
started_up before f w link admitted waiting next done fit seats h order =
    let from : Starting = record { link = link; out = [] } in
    let s = started_all from in
    let t = moving f w.acts (with_link w link).conn admitted waiting done in
    let first = subst (λ (x : List LinkAct). IsGoing (trace_of_acts before f x) t) (sym (append-nil w.acts)) h in
    let acts = w.acts ++ shows w.conn.requests s.out in
    let ids = queue_ids (starting link link.queue) in
    subst (λ (x : Work). IsUp before f x admitted waiting [] next) (sym (shown_is (with_link w s.link) s.out)) (record {
      link = s.link;
      life = refl;
      fit = each_fit w.conn.size w.conn.boundary from link.queue fit;
      seats = each_seats w.conn.moved (in_front w.conn.renewal) w.conn.size from link.queue seats;
      held = each_held from link.queue;
      started = done ++ ids;
      going = subst (λ ss. IsGoing (trace_of_acts before f acts) (record (on_link t s.link) { started = done ++ ids; timers = f.timers ++ timers_of f.single.link acts; sources = f.sources ++ ss })) (sym (shows_sources f.single.link w.acts w.conn.requests s.out))
          (subst (λ ts. IsGoing (trace_of_acts before f acts) (record (on_link t s.link) { started = done ++ ids; timers = f.timers ++ ts })) (sym (shows_timers f.single.link w.acts w.conn.requests s.out)) (each_going before (length f.timers) (length f.sources) w.acts t from link.queue fit seats first));
      order = order;
    })

-- the session with its link
up_going : (before : List Action) (f : Core) (w : Work) (admitted waiting : List Waiting) (being_admitted next : List ℕ) (h : IsUp before f w admitted waiting being_admitted next)
    → IsGoing (trace_of_acts before f w.acts) (on_link (admitting_in f w.acts w.conn admitted waiting being_admitted h.started) h.link)
up_going before f w admitted waiting being_admitted next h = subst (λ (x : Life). IsGoing (trace_of_acts before f w.acts) (record (admitting_in f w.acts w.conn admitted waiting being_admitted h.started) { life = x })) h.life h.going

-- one takes its place
--
-- where nobody awaits its reply it may be told
tell_may : (b : Book) (t : TurnState) (link : LinkState) (q : Waiting) (waiting admitted : List Waiting) → q.awaited ≡ false → IsFit t.size t.bound link → HasSeats t.moved (in_front t.renewal) link t.size → (link.queue ≡ []) ⊎ (holds_back link ≡ true) → is_full_beside link (in_front t.renewal) ≡ false
    → IsNext b.story t.requests t.limit t.being_admitted t.moved t.waiting t.admitted q waiting admitted → is_outstanding t.again ≡ false → Tied b (on_link t link) → NoneEnds b → HasRenewed t.renewal (Ready link) → MayTell b (name_at t.requests q.number) (outcome.One Nil)
tell_may b t link q waiting admitted not_awaited fit seats held room next served h ends renewed =
    let was = on_link t link in
    let p = q.number in
    let o = next.open_at in
    let kept = kept_ids admitted waiting in
    let running : IsRunning was = record { settled = refl; up = refl; served = served; fit = fit; seats = seats } in
    record {
      begun = begun_up b was h running (refl, refl) ends renewed;
      asked = (request_story b was p h (open_within t.requests p o)).open_is ∙ o;
      unstarted = kept_unstarted b was p h o (subst (IsIn p) (sym next.first) (inl refl));
      tells = first_step b was p kept h running room o next.first next.let_in next.begun (sym next.packed.is_of.awaited_is ∙ not_awaited);
      in_order = first_behind b was p kept h running held next.first;
      nil = refl;
    }

-- it is, and has its place
told_going : (trace : List Action) (t : TurnState) (link : LinkState) (q : Waiting) (waiting admitted : List Waiting) → q.awaited ≡ false → IsFit t.size t.bound link → HasSeats t.moved (in_front t.renewal) link t.size → (link.queue ≡ []) ⊎ (holds_back link ≡ true) → is_full_beside link (in_front t.renewal) ≡ false
    → IsNext (book trace).story t.requests t.limit t.being_admitted t.moved t.waiting t.admitted q waiting admitted → IsGoing trace (on_link t link)
    → IsGoing (trace ++ action.Outcome (name_at t.requests q.number) (outcome.One Nil) ∷ []) (with_told t link q waiting admitted)
told_going trace t link q waiting admitted not_awaited fit seats held room next h =
    let b = book trace in
    going_more trace (action.Outcome (name_at t.requests q.number) (outcome.One Nil)) (with_told t link q waiting admitted) h.sound.stands
    (inr (tell_may b t link q waiting admitted not_awaited fit seats held room next (h.served refl) h.sound.tied h.ended h.renewed))
    (tell_tied b t link q waiting admitted not_awaited next (h.served refl) h.sound.tied)
    h.ended (renewed_enqueued t.renewal link (message_of q) h.renewed) (λ up. h.served refl)

-- one whose reply is awaited has its place
placed_going : (trace : List Action) (t : TurnState) (link : LinkState) (q : Waiting) (waiting admitted : List Waiting) → q.awaited ≡ true → IsNext (book trace).story t.requests t.limit t.being_admitted t.moved t.waiting t.admitted q waiting admitted → IsGoing trace (on_link t link)
    → IsGoing trace (with_place t link q waiting admitted)
placed_going trace t link q waiting admitted yes_awaited next h = record {
  sound = record { stands = h.sound.stands; tied = place_tied (book trace) t link q waiting admitted yes_awaited next (h.served refl) h.sound.tied };
  ended = h.ended;
  renewed = renewed_enqueued t.renewal link (message_of q) h.renewed;
  served = λ up. h.served refl;
}

-- and it is above all that were moved
order_last : (moved : List ℕ) (p : ℕ) (next : List ℕ) (hi : ℕ) → Rising 0 (moved ++ p ∷ next) hi → Rising 0 (moved ++ p ∷ []) hi
order_last moved p next hi h = rising_left 0 (moved ++ p ∷ []) next hi (subst (λ ns. Rising 0 ns hi) (sym (append_assoc moved (p ∷ []) next)) h)

-- one whose reply is awaited has its place, and messages start
placed_up : (before : List Action) (f : Core) (w : Work) (q : Waiting) (was_admitted was_waiting admitted waiting : List Waiting) (being_admitted next : List ℕ) (h : IsUp before f w was_admitted was_waiting being_admitted (q.number ∷ next)) → q.awaited ≡ true → is_full_beside h.link (in_front w.conn.renewal) ≡ false
    → IsNext (book (trace_of_acts before f w.acts)).story w.conn.requests w.conn.limit being_admitted w.conn.moved was_waiting was_admitted q waiting admitted → IsUp before f (started (placed_at w q (Ready h.link))) admitted waiting [] next
placed_up before f w q was_admitted was_waiting admitted waiting being_admitted next h yes_awaited room first =
    let p = q.number in
    started_up before f (progressed (noted w p) p progress.Placed) (enqueued h.link (message_of q)) admitted waiting next h.started (fit_enqueued w.conn.size w.conn.boundary (in_front w.conn.renewal) h.link (message_of q) room h.fit)
    (seats_enqueued w.conn.size w.conn.boundary (in_front w.conn.renewal) (w.conn.moved ++ p ∷ []) h.link (message_of q) room h.fit)
    (placed_going (trace_of_acts before f w.acts) (admitting_in f w.acts w.conn was_admitted was_waiting being_admitted h.started) h.link q waiting admitted yes_awaited first (up_going before f w was_admitted was_waiting being_admitted (p ∷ next) h))
    (order_next w.conn.moved p next w.conn.requests progress.Placed h.order)

-- and one whose reply nobody awaits is answered before
told_up : (before : List Action) (f : Core) (w : Work) (q : Waiting) (was_admitted was_waiting admitted waiting : List Waiting) (being_admitted next : List ℕ) (h : IsUp before f w was_admitted was_waiting being_admitted (q.number ∷ next)) → q.awaited ≡ false → is_full_beside h.link (in_front w.conn.renewal) ≡ false
    → IsNext (book (trace_of_acts before f w.acts)).story w.conn.requests w.conn.limit being_admitted w.conn.moved was_waiting was_admitted q waiting admitted → IsUp before f (started (answered (placed_at w q (Ready h.link)) q.number (outcome.One Nil))) admitted waiting [] next
told_up before f w q was_admitted was_waiting admitted waiting being_admitted next h not_awaited room first =
    let p = q.number in
    let link = enqueued h.link (message_of q) in
    let t = admitting_in f w.acts w.conn was_admitted was_waiting being_admitted h.started in
    let trace = trace_of_acts before f w.acts in
    let at = progressed (noted w p) p progress.Placed in
    let placed = at.conn.requests in
    let nil = outcome.One Nil in
    let a = act.Outcome (name_at placed p) nil in
    let within = open_within w.conn.requests p first.open_at in
    let is_open : is_open_at placed p ≡ true = there_same is_open_progress w.conn.requests p progress.Placed within in
    let going = told_going trace t h.link q waiting admitted not_awaited h.fit h.seats h.held room first (up_going before f w was_admitted was_waiting being_admitted (p ∷ next) h) in
    let shown : trace ++ action.Outcome (name_at w.conn.requests p) nil ∷ [] ≡ trace_of_acts before f (w.acts ++ a ∷ []) =
    ap (λ n. trace ++ action.Outcome n nil ∷ []) (sym (name_still w.conn.requests p progress.Placed p)) ∙ sym (shown_more before f.single.link (length f.timers) (length f.sources) w.acts a) in
    let after = with_told t h.link q waiting admitted in
    let there = subst (λ (x : List Action). IsGoing x after) shown going in
    let twice : with_permits w.conn.requests p progress.Closed 0 ≡ with_permits placed p progress.Closed 0 = sym (permits_twice w.conn.requests p progress.Placed progress.Closed (permits_at w.conn.requests p) 0) in
    let back : given_back w.conn.limit w.conn.free (permits_at w.conn.requests p) ≡ given_back w.conn.limit w.conn.free (permits_at placed p) = ap (given_back w.conn.limit w.conn.free) (sym (permits_still w.conn.requests p p progress.Placed within)) in
    let acts = w.acts ++ a ∷ [] in
    let closed_one : TurnState = record after { requests = with_permits placed p progress.Closed 0; free = given_back w.conn.limit w.conn.free (permits_at placed p) } in
    let here = subst (IsGoing (trace_of_acts before f acts)) (quiet_asks f closed_one w.acts a refl refl)
    (subst (λ n. IsGoing (trace_of_acts before f acts) (record after { requests = with_permits placed p progress.Closed 0; free = n })) back (subst (λ (x : List Request). IsGoing (trace_of_acts before f acts) (record after { requests = x })) twice there)) in
    let order = subst (λ (x : List Request). Rising 0 ((w.conn.moved ++ p ∷ []) ++ next) (length x)) twice (subst (λ n. Rising 0 ((w.conn.moved ++ p ∷ []) ++ next) n) (length_still w.conn.requests p progress.Placed ∙ sym (length_with w.conn.requests p progress.Closed 0)) (order_next w.conn.moved p next w.conn.requests progress.Placed h.order)) in
    if_true (λ (x : Work). IsUp before f (started x) admitted waiting [] next) (is_open_at placed p) _ (with_link at link) is_open
    (started_up before f (acted (record at { conn = closed at.conn p }) a) link admitted waiting next h.started (fit_enqueued w.conn.size w.conn.boundary (in_front w.conn.renewal) h.link (message_of q) room h.fit)
    (seats_enqueued w.conn.size w.conn.boundary (in_front w.conn.renewal) (w.conn.moved ++ p ∷ []) h.link (message_of q) room h.fit) here order)

-- the next takes its place, and messages start
seated_up : (before : List Action) (f : Core) (w : Work) (q : Waiting) (was_admitted was_waiting admitted waiting : List Waiting) (being_admitted next : List ℕ) (h : IsUp before f w was_admitted was_waiting being_admitted (q.number ∷ next)) → is_full_beside h.link (in_front w.conn.renewal) ≡ false
    → IsNext (book (trace_of_acts before f w.acts)).story w.conn.requests w.conn.limit being_admitted w.conn.moved was_waiting was_admitted q waiting admitted → IsUp before f (seated w q) admitted waiting [] next
seated_up before f w q was_admitted was_waiting admitted waiting being_admitted next h room first =
    let w1 = placed_at w q (Ready h.link) in
    subst (λ (x : Life). IsUp before f (started (told_at_place (placed_at w q x) q)) admitted waiting [] next) (sym h.life)
    (chosen (λ (x : Work). IsUp before f (started x) admitted waiting [] next) q.awaited w1 (answered w1 q.number (outcome.One Nil))
    (λ t. placed_up before f w q was_admitted was_waiting admitted waiting being_admitted next h t room first)
    (λ e. told_up before f w q was_admitted was_waiting admitted waiting being_admitted next h e room first))

-- those that wait for a place
--
-- one that waits for a place no longer
gone_admitted : (before : List Action) (f : Core) (w : Work) (q : Waiting) (qs waiting : List Waiting) → IsUp before f w (q ∷ qs) waiting [] (kept_ids (q ∷ qs) waiting) → is_admitted_at w.conn.requests q.number ≡ false → IsUp before f w qs waiting [] (kept_ids qs waiting)
gone_admitted before f w q qs waiting h gone =
    let t = moving f w.acts w.conn qs waiting h.started in
    let was = up_going before f w (q ∷ qs) waiting [] (kept_ids (q ∷ qs) waiting) h in
    let now : IsGoing (trace_of_acts before f w.acts) (on_link t h.link) = record {
      sound = record { stands = was.sound.stands; tied = passed_admitted (book (trace_of_acts before f w.acts)) t h.link q qs gone was.sound.tied };
      ended = was.ended;
      renewed = was.renewed;
      served = was.served;
    } in
    record {
      link = h.link;
      life = h.life;
      fit = h.fit;
      seats = h.seats;
      held = h.held;
      started = h.started;
      going = subst (λ (x : Life). IsGoing (trace_of_acts before f w.acts) (record t { life = x })) (sym h.life) now;
      order = rising_without 0 w.conn.moved q.number (kept_ids qs waiting) (length w.conn.requests) h.order;
    }

-- one is moved
moved_up_one : (before : List Action) (f : Core) (w : Work) (q : Waiting) (qs waiting : List Waiting) → IsUp before f w (q ∷ qs) waiting [] (kept_ids (q ∷ qs) waiting) → has_room w.conn ≡ true → IsUp before f (moved_up w q) qs waiting [] (kept_ids qs waiting)
moved_up_one before f w q qs waiting h room =
    let kept = kept_ids qs waiting in
    let t = moving f w.acts w.conn (q ∷ qs) waiting h.started in
    let b = book (trace_of_acts before f w.acts) in
    chosen (λ (x : Work). IsUp before f x qs waiting [] kept) (is_admitted_at w.conn.requests q.number) (seated w q) w
    (λ a.
    seated_up before f w q (q ∷ qs) waiting qs waiting [] kept h (free_link w.conn h.link h.life room)
    (next_admitted b t h.link q qs a (order_last w.conn.moved q.number kept (length w.conn.requests) h.order) (up_going before f w (q ∷ qs) waiting [] (kept_ids (q ∷ qs) waiting) h).sound.tied))
    (λ gone. gone_admitted before f w q qs waiting h gone)

-- those that wait for a place still have found the queue full
pub record IsSeated (before : List Action) (f : Core) (w : Work) (waiting : List Waiting) : Type 0 where
  pub up : IsUp before f w w.conn.admitted waiting [] (waiting_ids waiting)
  pub full : (w.conn.admitted ≡ []) ⊎ (has_room w.conn ≡ false)

-- all are moved that can be
pub moved_up_seated : (before : List Action) (f : Core) (w : Work) (qs waiting : List Waiting) → IsUp before f w qs waiting [] (kept_ids qs waiting) → IsSeated before f (moved_up_each w qs) waiting
moved_up_seated before f w [] waiting h = record {
  up = record { link = h.link; life = h.life; fit = h.fit; seats = h.seats; held = h.held; started = h.started; going = h.going; order = h.order };
  full = inl refl;
}
moved_up_seated before f w (q ∷ qs) waiting h =
    chosen (λ (x : Work). IsSeated before f x waiting) (has_room w.conn) (moved_up_each (moved_up w q) qs) (still_admitted w (q ∷ qs))
    (λ room. moved_up_seated before f (moved_up w q) qs waiting (moved_up_one before f w q qs waiting h room))
    (λ none. record {
      up = record {
        link = h.link;
        life = h.life;
        fit = h.fit;
        seats = h.seats;
        held = h.held;
        started = h.started;
        going = h.going;
        order = rising_tail 0 w.conn.moved (kept_ids (q ∷ qs) waiting) (waiting_ids waiting) (length w.conn.requests)
            (λ low r. rising_right low (waiting_ids (q ∷ qs)) (waiting_ids waiting) (length w.conn.requests) r) h.order;
      };
      full = inr none;
    })

-- those that wait for the connection
--
-- one that waits for it no longer
gone_waiting : (before : List Action) (f : Core) (w : Work) (q : Waiting) (qs : List Waiting) → IsSeated before f w (q ∷ qs) → is_waiting_at w.conn.requests q.number ≡ false → IsSeated before f w qs
gone_waiting before f w q qs s gone =
    let h = s.up in
    let t = moving f w.acts w.conn w.conn.admitted qs h.started in
    let was = up_going before f w w.conn.admitted (q ∷ qs) [] (waiting_ids (q ∷ qs)) h in
    let now : IsGoing (trace_of_acts before f w.acts) (on_link t h.link) = record {
      sound = record { stands = was.sound.stands; tied = passed_waiting (book (trace_of_acts before f w.acts)) t h.link q qs gone was.sound.tied };
      ended = was.ended;
      renewed = was.renewed;
      served = was.served;
    } in
    record {
      up = record {
        link = h.link;
        life = h.life;
        fit = h.fit;
        seats = h.seats;
        held = h.held;
        started = h.started;
        going = subst (λ (x : Life). IsGoing (trace_of_acts before f w.acts) (record t { life = x })) (sym h.life) now;
        order = rising_without 0 w.conn.moved q.number (waiting_ids qs) (length w.conn.requests) h.order;
      };
      full = s.full;
    }

-- a round
--
-- that of a request begins, whose step is the first
pub round_up : (before : List Action) (f : Core) (w : Work) (p : ℕ) (admitted waiting : List Waiting) (next : List ℕ) (h : IsUp before f w admitted waiting [] next) → w.conn.rounds ≡ true → is_unbegun_at w.conn.requests p ≡ true
    → IsFirstToMove (book (trace_of_acts before f w.acts)) (name_at w.conn.requests p) → IsUp before f (acted (progressed w p progress.Begun) (act.Round (name_at w.conn.requests p))) admitted waiting [] next
round_up before f w p admitted waiting next h shows u first =
    let t = moving f w.acts w.conn admitted waiting h.started in
    let a = act.Round (name_at w.conn.requests p) in
    let after = with_round t p in
    let going = round_going (trace_of_acts before f w.acts) t p (running_of t h.link refl h.life (h.going.served (ap is_ready h.life)) h.fit h.seats) (refl, refl) shows u first h.going in
    let there = subst (λ (x : List Action). IsGoing x after) (sym (shown_more before f.single.link (length f.timers) (length f.sources) w.acts a)) going in
    record {
      link = h.link;
      life = h.life;
      fit = h.fit;
      seats = h.seats;
      held = h.held;
      started = h.started;
      going = subst (IsGoing (trace_of_acts before f (w.acts ++ a ∷ []))) (quiet_asks f after w.acts a refl refl) there;
      order = subst (Rising 0 (w.conn.moved ++ next)) (sym (length_still w.conn.requests p progress.Begun)) h.order;
    }

-- the next that waits, once its round has begun
record IsRounded (before : List Action) (f : Core) (w : Work) (q : Waiting) (qs : List Waiting) : Type 0 where
  seated : IsSeated before f w (q ∷ qs)
  waits : is_waiting_at w.conn.requests q.number ≡ true
  begun : w.conn.rounds ≡ true → is_unbegun_at w.conn.requests q.number ≡ false
  some : has_no_permit w.conn.limit w.conn.free ≡ false

-- it begins, if it is to
first_rounded : (before : List Action) (f : Core) (w : Work) (q : Waiting) (qs : List Waiting) → IsSeated before f w (q ∷ qs) → is_waiting_at w.conn.requests q.number ≡ true → has_no_permit w.conn.limit w.conn.free ≡ false → IsRounded before f (round_begun w q.number) q qs
first_rounded before f w q qs s wt some =
    let h = s.up in
    let p = q.number in
    let t = moving f w.acts w.conn w.conn.admitted (q ∷ qs) h.started in
    let b = book (trace_of_acts before f w.acts) in
    let here : link_in w.conn.life ≡ h.link = ap link_in h.life in
    let within = there_within is_waiting w.conn.requests p wt in
    let first = first_early b t p (waiting_ids qs) h.going.sound.tied (running_of t h.link refl h.life (h.going.served (ap is_ready h.life)) h.fit h.seats)
    (subst (λ (x : LinkState). (x.queue ≡ []) ⊎ (holds_back x ≡ true)) (sym here) h.held)
    (subst (λ (x : LinkState). (w.conn.admitted ≡ []) ⊎ (is_full_beside x (in_front w.conn.renewal) ≡ true)) (sym here) (found_full w.conn h.link h.life s.full)) refl in
    chosen (λ (x : Work). IsRounded before f x q qs) (w.conn.rounds && is_unbegun_at w.conn.requests p) (acted (progressed w p progress.Begun) (act.Round (name_at w.conn.requests p))) w
    (λ t1. record {
      seated = record { up = round_up before f w p w.conn.admitted (q ∷ qs) (waiting_ids (q ∷ qs)) h (both_left w.conn.rounds (is_unbegun_at w.conn.requests p) t1) (both_right w.conn.rounds (is_unbegun_at w.conn.requests p) t1) first; full = s.full };
      waits = there_same is_waiting w.conn.requests p progress.Begun within;
      begun = λ shows. there_same is_unbegun w.conn.requests p progress.Begun within;
      some = some;
    })
    (λ f1. record { seated = s; waits = wt; begun = λ shows. ap (λ x. x && is_unbegun_at w.conn.requests p) (sym shows) ∙ f1; some = some })

-- a request that is let in
--
-- it is let in, while those that wait for a place find the queue full
admitting_up : (before : List Action) (f : Core) (w : Work) (q : Waiting) (qs : List Waiting) → IsRounded before f w q qs
    → IsUp before f (being_admitted w q) w.conn.admitted (q ∷ qs) (q.number ∷ []) (waiting_ids (q ∷ qs)) × (is_let_in w.conn.limit ((book (trace_of_acts before f (let_in w q).acts)).story (name_at (being_admitted w q).conn.requests q.number)) ≡ true)
admitting_up before f w q qs r =
    let s = r.seated in
    let h = s.up in
    let p = q.number in
    let count = permits_taken w.conn.limit w.conn.free q.shape in
    let opening : IsOpening (moving f w.acts w.conn w.conn.admitted (q ∷ qs) h.started) h.link q qs = record {
      life = h.life;
      served = h.going.served (ap is_ready h.life);
      settled = refl;
      told = (refl, refl);
      fit = h.fit;
      seats = h.seats;
      held = h.held;
      full = found_full w.conn h.link h.life s.full;
      renewed = h.going.renewed;
      waiting = refl;
      is_waiting = r.waits;
      begun = r.begun;
    } in
    let k = let_in_going before f w w.conn.admitted h.started h.link q qs opening r.some h.going in
    let t = moving f w.acts w.conn w.conn.admitted (q ∷ qs) h.started in
    let acts = (let_in w q).acts in (
      record {
        link = h.link;
        life = h.life;
        fit = h.fit;
        seats = h.seats;
        held = h.held;
        started = h.started;
        going = subst (λ ss. IsGoing (trace_of_acts before f acts) (record (lets t p count (w.conn.free - count) (f.timers ++ timers_of f.single.link acts)) { sources = ss })) (sym k.sourced) k.going;
        order = subst (Rising 0 (w.conn.moved ++ waiting_ids (q ∷ qs))) (sym (length_with w.conn.requests p progress.Begun count)) h.order;
      },
      ap (λ n. is_let_in w.conn.limit ((book (trace_of_acts before f (let_in w q).acts)).story n)) (name_with w.conn.requests p progress.Begun count p) ∙ k.is,
    )

-- where the queue has room it takes its place
admitted_seated : (before : List Action) (f : Core) (w : Work) (q : Waiting) (qs : List Waiting) → IsRounded before f w q qs → w.conn.admitted ≡ [] → has_room w.conn ≡ true
    → IsSeated before f (seated (entering w q) q) qs
admitted_seated before f w q qs r none room =
    let s = r.seated in
    let wt = r.waits in
    let g = being_admitted w q in
    let p = q.number in
    let count = permits_taken w.conn.limit w.conn.free q.shape in
    let b = book (trace_of_acts before f g.acts) in
    let ids = waiting_ids (q ∷ qs) in
    let l = admitting_up before f w q qs r in
    let h = subst (λ ws. IsUp before f g ws (q ∷ qs) (p ∷ []) ids) none l.0 in
    let t = admitting_in f g.acts g.conn [] (q ∷ qs) (p ∷ []) h.started in
    let within = open_within w.conn.requests p (waiting_open w.conn.requests p wt) in
    let waits : is_waiting_at g.conn.requests p ≡ true = with_same is_waiting w.conn.requests p progress.Begun count within in
    let begun : is_unbegun_at g.conn.requests p ≡ false = with_same is_unbegun w.conn.requests p progress.Begun count within in
    let empty : (seated g q).conn.admitted ≡ [] = (seated_keeps g q).admitted ∙ none in
    let up = seated_up before f g q [] (q ∷ qs) [] qs (p ∷ []) (waiting_ids qs) h (free_link g.conn h.link h.life room)
    (next_waiting b t h.link q qs waits begun l.1 (order_last g.conn.moved p (waiting_ids qs) (length g.conn.requests) h.order) (up_going before f g [] (q ∷ qs) (p ∷ []) ids h).sound.tied) in
    subst (λ (x : Work). IsSeated before f x qs) (sym (seated_once w q s.up.link s.up.life wt)) (record {
      up = subst (λ ws. IsUp before f (seated g q) ws qs [] (waiting_ids qs)) (sym empty) up;
      full = inl empty;
    })

-- and else it waits for one, behind the others
admitted_behind : (before : List Action) (f : Core) (w : Work) (q : Waiting) (qs : List Waiting) → IsRounded before f w q qs → has_room w.conn ≡ false
    → IsSeated before f (put_behind (entering w q) q) qs
admitted_behind before f w q qs r none =
    let s = r.seated in
    let wt = r.waits in
    let p = q.number in
    let g = being_admitted w q in
    let count = permits_taken w.conn.limit w.conn.free q.shape in
    let b = book (trace_of_acts before f g.acts) in
    let ids = waiting_ids (q ∷ qs) in
    let l = admitting_up before f w q qs r in
    let h = l.0 in
    let v = put_behind (entering w q) q in
    let within = open_within w.conn.requests p (waiting_open w.conn.requests p wt) in
    let waits : is_waiting_at g.conn.requests p ≡ true = with_same is_waiting w.conn.requests p progress.Begun count within in
    let begun : is_unbegun_at g.conn.requests p ≡ false = with_same is_unbegun w.conn.requests p progress.Begun count within in
    let t = admitting_in f g.acts g.conn w.conn.admitted qs (p ∷ []) h.started in
    let after = moving f v.acts v.conn v.conn.admitted qs h.started in
    let was = up_going before f g w.conn.admitted (q ∷ qs) (p ∷ []) ids h in
    let twice : at_progress g.conn.requests p progress.Admitted ≡ with_permits w.conn.requests p progress.Admitted count =
    permits_twice w.conn.requests p progress.Begun progress.Admitted count (permits_at g.conn.requests p) ∙ ap (with_permits w.conn.requests p progress.Admitted) (permits_with w.conn.requests p progress.Begun count within) in
    let apart : IsIn p (queue_ids h.link.queue) → ⊥ = λ i.
    let line = rising_right 0 (requests_in h.started) (queue_ids h.link.queue ++ kept_ids w.conn.admitted (q ∷ qs)) (length g.conn.requests) was.sound.tied.lines.line in
    (let k = rising_apart 0 (queue_ids h.link.queue) (kept_ids w.conn.admitted (q ∷ qs)) (length g.conn.requests) p p line i (in_right p (waiting_ids w.conn.admitted) ids (inl refl)) in omega arith) in
    let admitted : Tied b (record (on_link after h.link) { requests = at_progress g.conn.requests p progress.Admitted }) = admit_tied b t h.link q qs waits begun l.1 (order_last g.conn.moved p (waiting_ids qs) (length g.conn.requests) h.order) (was.served refl) was.sound.tied in
    let now : IsGoing (trace_of_acts before f g.acts) (on_link after h.link) = record {
      sound = record {
        stands = was.sound.stands;
        tied = subst (λ (x : List Request). Tied b (record (on_link after h.link) { requests = x })) twice admitted;
      };
      ended = was.ended;
      renewed = was.renewed;
      served = was.served;
    } in
    record {
      up = record {
        link = h.link;
        life = h.life;
        fit = h.fit;
        seats = λ m i k. elim (in_either m w.conn.moved (p ∷ []) i) [
          | inl old ↦ h.seats m old k
          | inr new ↦ absurd (elim new [ inl same ↦ apart (subst (λ y. IsIn y (queue_ids h.link.queue)) (sym same) k) | inr none ↦ none ])
        ];
        held = h.held;
        started = h.started;
        going = subst (λ (x : Life). IsGoing (trace_of_acts before f g.acts) (record after { life = x })) (sym h.life) now;
        order = subst (λ (x : List Request). Rising 0 ((w.conn.moved ++ p ∷ []) ++ waiting_ids qs) (length x)) twice (order_next g.conn.moved p (waiting_ids qs) g.conn.requests progress.Admitted h.order);
      };
      full = inr none;
    }

-- once its round has begun
rounded_one : (before : List Action) (f : Core) (v : Work) (q : Waiting) (qs : List Waiting) → IsRounded before f v q qs → IsSeated before f (seated_or_behind (let_in v q) q) qs
rounded_one before f v q qs r =
    let u = entering v q in
    subst (λ (x : Work). IsSeated before f (seated_or_behind x q) qs) (sym (let_in_is v q))
    (chosen (λ (x : Work). IsSeated before f x qs) (has_room v.conn) (seated u q) (put_behind u q)
    (λ room. elim r.seated.full [ inl none ↦ admitted_seated before f v q qs r none room | inr stuck ↦ absurd (not_both (has_room v.conn) stuck room) ])
    (λ stuck. admitted_behind before f v q qs r stuck))

-- one is moved
admitted_one : (before : List Action) (f : Core) (w : Work) (q : Waiting) (qs : List Waiting) → IsSeated before f w (q ∷ qs) → has_no_permit w.conn.limit w.conn.free ≡ false → IsSeated before f (admitted w q) qs
admitted_one before f w q qs s some =
    chosen (λ (x : Work). IsSeated before f x qs) (is_waiting_at w.conn.requests q.number) (admitted_at w q w.conn.life) w
    (λ wt. subst (λ (x : Life). IsSeated before f (admitted_at w q x) qs) (sym s.up.life) (rounded_one before f (round_begun w q.number) q qs (first_rounded before f w q qs s wt some)))
    (λ gone. gone_waiting before f w q qs s gone)

-- none waits any more, or no permit is free
pub record IsDone (before : List Action) (f : Core) (w : Work) : Type 0 where
  pub seated : IsSeated before f w w.conn.waiting
  pub none : (w.conn.waiting ≡ []) ⊎ (has_no_permit w.conn.limit w.conn.free ≡ true)

-- where these wait
still_seated : (before : List Action) (f : Core) (w : Work) (qs : List Waiting) → IsSeated before f w qs → IsSeated before f (still_waiting w qs) qs
still_seated before f w qs s =
    let h = s.up in
    record {
      up = record { link = h.link; life = h.life; fit = h.fit; seats = h.seats; held = h.held; started = h.started; going = h.going; order = h.order };
      full = s.full;
    }

-- all are moved
pub admitted_done : (before : List Action) (f : Core) (w : Work) (qs : List Waiting) → IsSeated before f w qs → IsDone before f (admitted_each w qs)
admitted_done before f w [] s = record { seated = still_seated before f w [] s; none = inl refl }
admitted_done before f w (q ∷ qs) s =
    let stuck = has_no_permit w.conn.limit w.conn.free in
    let none = s.up.going.served (ap is_ready s.up.life) in
    let up : admits_none w.conn ≡ stuck = ap (λ life. admits_none_at life (is_outstanding w.conn.again || stuck)) s.up.life ∙ ap (λ goes. goes || stuck) none in
    chosen (λ (x : Work). IsDone before f x) (admits_none w.conn) (still_waiting w (q ∷ qs)) (admitted_each (admitted w q) qs)
    (λ t. record { seated = still_seated before f w (q ∷ qs) s; none = inr (sym up ∙ t) })
    (λ f1. admitted_done before f (admitted w q) qs (admitted_one before f w q qs s (sym up ∙ f1)))

-- those that go on waiting
--
-- one after another, rounds begin of these, which rise from this number on
pub record IsBeginning (before : List Action) (f : Core) (w : Work) (lo : ℕ) (ps : List ℕ) : Type 0 where
  pub done : IsDone before f w
  pub shows : w.conn.rounds ≡ true
  pub among : AreAmong w ps
  pub rises : Rising lo ps (length w.conn.requests)

-- that of the first of them
next_begins : (before : List Action) (f : Core) (w : Work) (lo p : ℕ) (ps : List ℕ) → IsBeginning before f w lo (p ∷ ps) → IsBeginning before f (round_begun w p) (suc p) ps
next_begins before f w lo p ps s =
    let done = s.done in
    let h = done.seated.up in
    let requests = w.conn.requests in
    let t = moving f w.acts w.conn w.conn.admitted w.conn.waiting h.started in
    let b = book (trace_of_acts before f w.acts) in
    let here : link_in w.conn.life ≡ h.link = ap link_in h.life in
    let first : is_unbegun_at requests p ≡ true → IsFirstToMove b (name_at requests p) = λ u.
    first_round b t p h.going.sound.tied (running_of t h.link refl h.life (h.going.served (ap is_ready h.life)) h.fit h.seats) refl
    (subst (λ (x : LinkState). (x.queue ≡ []) ⊎ (holds_back x ≡ true)) (sym here) h.held)
    (subst (λ (x : LinkState). (w.conn.admitted ≡ []) ⊎ (is_full_beside x (in_front w.conn.renewal) ≡ true)) (sym here) (found_full w.conn h.link h.life done.seated.full)) done.none
    (there_within is_unbegun requests p u)
    (λ m less. by_test (is_unbegun_at requests m) _
    (λ v. absurd (elim (s.among m v) [ inl same ↦ omega (arith, same) | inr i ↦ (let k = rising_in (suc p) ps (length requests) m s.rises.1 i in omega (arith, k.0)) ]))
    (λ v. v)) in
    chosen (λ (x : Work). IsBeginning before f x (suc p) ps) (w.conn.rounds && is_unbegun_at requests p) (acted (progressed w p progress.Begun) (act.Round (name_at requests p))) w
    (λ t1.
    let u = both_right w.conn.rounds (is_unbegun_at requests p) t1 in
    record {
      done = record { seated = record { up = round_up before f w p w.conn.admitted w.conn.waiting (waiting_ids w.conn.waiting) h s.shows u (first u); full = done.seated.full }; none = done.none };
      shows = s.shows;
      among = λ m v. let k = there_then is_unbegun requests p m progress.Begun refl (there_within is_unbegun requests p u) v in elim (s.among m k.1) [ inl same ↦ absurd (k.0 same) | inr i ↦ i ];
      rises = subst (Rising (suc p) ps) (sym (length_still requests p progress.Begun)) s.rises.1;
    })
    (λ f1.
    let begun : is_unbegun_at requests p ≡ false = ap (λ x. x && is_unbegun_at requests p) (sym s.shows) ∙ f1 in
    record {
      done = done;
      shows = s.shows;
      among = λ m v. elim (s.among m v) [ inl same ↦ absurd (not_both (is_unbegun_at requests m) (ap (is_unbegun_at requests) (sym same) ∙ begun) v) | inr i ↦ i ];
      rises = s.rises.1;
    })

-- none is left
pub record AreAllBegun (before : List Action) (f : Core) (w : Work) : Type 0 where
  pub done : IsDone before f w
  pub begun : (p : ℕ) → is_unbegun_at w.conn.requests p ≡ false

-- once those of all have begun
pub rounds_done : (before : List Action) (f : Core) (w : Work) (lo : ℕ) (ps : List ℕ) → IsBeginning before f w lo ps → AreAllBegun before f (rounds_of w ps)
rounds_done before f w lo [] s = record { done = s.done; begun = λ p. by_test (is_unbegun_at w.conn.requests p) _ (λ u. absurd (s.among p u)) (λ v. v) }
rounds_done before f w lo (p ∷ ps) s = rounds_done before f (round_begun w p) (suc p) ps (next_begins before f w lo p ps s)
