-- The waits of a turn are shown, and the turn is settled.
use Rattle.mux_conn.specs.Turn.{written, waits_for, flushed, fresh_each_shown, fresh_wait, is_from, moved_each_shown, moved_wait, wait_shown, waits_shown}
use Rattle.std.proofs.Common.{List, None, Option, Some, [], ap, false, inl, inr, length, refl, subst, suc, sym, true, ℕ, ◌++◌, ◌+◌, ◌<◌, ◌∙◌, ◌∷◌, ◌≡◌, ◌≢◌, ◌⊎◌, arith}
use Rattle.std.specs.Prelude.{if◌then◌else◌, ◌&&◌, is_some}
use Rattle.containers.proofs.Choices.{by_test, both_left, both_right, chosen, left_if, not_both, taken_if}
use Rattle.driver_model.specs.declared.action.Action.{Action}
use Rattle.driver_model.specs.declared.action.WaitKind.{WaitKind}
use Rattle.driver_model.specs.declared.action.WaitKind.TheVariants as wait
use Rattle.link_core.specs.Link.{LinkState, first_in}
use Rattle.link_laws.proofs.Started.{row_open}
use Rattle.link_laws.specs.Settles.{StandsAs, awaited_ids, wanted}
use Rattle.mux_conn.specs.Connection.{Work, first_queued, is_ready, in_front, is_outstanding}
use Rattle.mux_conn.specs.Passes.{passed}
use Rattle.mux_conn.specs.Requests.{is_admitted_at, is_open_at, is_placed_at, is_waiting_at, name_at}
use Rattle.mux_conn.specs.declared.act.LinkAct.TheVariants as act
use Rattle.mux_conn.specs.declared.connection.MultiplexedConnection.{MultiplexedConnection}
use Rattle.redis_error.specs.declared.redis_error.RedisError.{RedisError}
use Rattle.mux_conn.specs.declared.life.Life.{Life}
use Rattle.mux_conn.specs.declared.life.Life.TheVariants.{Resting, Dialing, Ended, Ready, Wanting, SettingUp}
use Rattle.single_session.specs.Turn.{Turning, moved_on, numbered, with_work, work_of}
use Rattle.single_session.specs.declared.core_state.Core.{Core}
use Rattle.legal_trace.specs.Book.{Book, book, entered}
use Rattle.legal_trace.specs.Ledger.{setup_count}
use Rattle.legal_trace.specs.Legal.{IsMoved, IsSettled, IsStarted, IsWaiting, IsWritten, NoneEnds, WaitHolds}
use Rattle.legal_trace.specs.Story.{last_of}
use Rattle.conn_laws.proofs.Requests.Rounded.{rounds_new}
use Rattle.conn_laws.proofs.Ties.Ahead.{placed_open, admitted_open, HasSeats}
use Rattle.conn_laws.proofs.Changes.Requests.{waiting_open}
use Rattle.session_laws.proofs.Ties.Ahead.{dialing_step, setup_step, creds_step, resting_step, repeat_step}
use Rattle.session_laws.proofs.Requests.Going.{is_moved, StaysPut}
use Rattle.conn_laws.proofs.Ties.InLine.{awaited_in, kept_ids, wanted_in}
use Rattle.session_laws.proofs.Requests.Moved.{passed_moved, ComesOrdered, HasMoved, IsReady}
use Rattle.conn_laws.proofs.Ties.Names.{open_within}
use Rattle.conn_laws.proofs.Ties.Numbers.{IsIn, Rising, in_left, in_right, rising_in, rising_left, rising_right, requests_in}
use Rattle.conn_laws.proofs.Ties.Owes.{lives, row_link, wanted_entry}
use Rattle.session_laws.proofs.Ties.Owes.{IsOpenRequest, none_open, open_request, request_story, stands_started, open_on}
use Rattle.session_laws.proofs.Requests.Settle.{book_of_more, seen, sound_act, trace_of_acts, shown_now}
use Rattle.conn_laws.proofs.Ties.States.{IsFitIn, IsStill, IsStopped}
use Rattle.session_laws.proofs.Ties.States.{Between, HasApplied, trace_with, HasEffect}
use Rattle.conn_laws.proofs.Ties.Tied.{TiedLife, TiedWaits, has_ended, link_in, owner_of, queue_ids, shown_wait, waiting_ids}
use Rattle.session_laws.proofs.Ties.Tied.{TurnState, Sound, Tied, relined, IsHeeded}
use Rattle.conn_laws.proofs.Requests.Waits.{admitted_unplaced, awaited_placed, waiting_apart}
use Rattle.session_laws.proofs.Requests.Waits.{IsEarly, IsPlacedOrKept, IsQuiet, WaitsSo, admitted_there, behind_places, down_admits, fresh_waits, located, moved_waits, passed_waits, permit_holds, place_holds, placed_there, room_holds, stale_waits, wait_may, wait_tied, waiting_is, waiting_there, waits_at, with_unshown}
use Rattle.conn_laws.proofs.Links.Write.{IsOfferedIn, hushed_in}
use Rattle.session_laws.proofs.Links.Write.{HasWritten, is_written, written_holds, HasReturned, plain_returned}
use Rattle.session_laws.proofs.Managers.Comes.{NoneComes, wait_comes}
use Rattle.session_laws.proofs.Internal.Informed.{IsInformed, alike_still, wait_alike}
use Rattle.conn_laws.proofs.Internal.Serving.{unready_serves, outstanding_serves}
use Rattle.mux_conn.specs.declared.again.Again.{Again}
use Rattle.conn_laws.proofs.Requests.Settled.{from_first, none_fresh, none_moved, still_new, unmoved, wait_at}
use Rattle.conn_laws.proofs.Changes.Rest.{fresh_conn, moved_conn, wait_conn}

-- the bytes of a turn are offered, and its waits are shown but for these: of those that were moved, and of those that came
-- in it
pub record IsShowing (before : List Action) (f : Core) (w : Work) (moved fresh started : List ℕ) : Type 0 where
  pub seats : HasSeats moved (in_front w.conn.renewal) (link_in w.conn.life) w.conn.size
  pub sound : Sound (trace_of_acts before f w.acts) (with_unshown (seen f w.acts w.conn [] started) moved fresh)
  pub ended : NoneEnds (book (trace_of_acts before f w.acts))
  pub fit : IsFitIn w.conn
  pub still : IsStill w.conn
  pub offered : IsOfferedIn w.conn.life
  pub hushed : f.shut ≡ true → IsStopped w.conn.life w.conn.waiting
  pub put : StaysPut (book (trace_of_acts before f w.acts)) w.conn.life
  pub heeded : (let b = book (trace_of_acts before f w.acts) in IsHeeded b.rest b.failed w.conn.life f.manager)
  pub informed : IsInformed (book (trace_of_acts before f w.acts)) f.manager

-- the session then
abbrev unshown : Core → Work → List ℕ → List ℕ → List ℕ → TurnState
unshown f w moved fresh started = with_unshown (seen f w.acts w.conn [] started) moved fresh

-- nothing moves in it
showing_quiet : (before : List Action) (f : Core) (w : Work) (moved fresh started : List ℕ) → IsShowing before f w moved fresh started → IsQuiet (unshown f w moved fresh started)
showing_quiet before f w moved fresh started h = record { settled = refl; alone = refl; fit = h.fit.link; setup_fit = h.fit.setup; none = h.fit.none; setup_held = h.still.setup; held = h.still.held; full = h.still.full; seats = h.seats; waiting = h.still.waiting; begun = h.still.begun; gone = h.still.none_waits }

-- and its book has all its writes
showing_written : (before : List Action) (f : Core) (w : Work) (moved fresh started : List ℕ) → IsShowing before f w moved fresh started → IsWritten (book (trace_of_acts before f w.acts))
showing_written before f w moved fresh started h =
    let b = book (trace_of_acts before f w.acts) in
    let t = unshown f w moved fresh started in
    let all : IsMoved b = is_moved b t h.sound.tied refl (refl, refl) refl h.ended h.fit.link h.fit.none h.still.held h.still.full h.still.waiting h.still.none_waits (λ over. hushed_in w.conn.life w.conn.waiting (h.hushed over)) h.put h.fit.setup h.still.setup h.seats h.still.repeated h.still.renewed h.still.begun in
    is_written b t h.sound.tied all h.offered

-- other waits are still to be shown
retied : (before : List Action) (f : Core) (w : Work) (moved fresh started later newer : List ℕ) → ((p : ℕ) → IsIn p later → IsIn p moved) → IsShowing before f w moved fresh started → TiedWaits (book (trace_of_acts before f w.acts)).story w.conn.requests w.conn.again w.conn.life newer later → IsShowing before f w later newer started
retied before f w moved fresh started later newer fewer h waits =
    let b = book (trace_of_acts before f w.acts) in
    let t = unshown f w moved fresh started in
    record {
      seats = λ p i. h.seats p (fewer p i);
      sound = record { stands = h.sound.stands; tied = relined b t t.waiting t.admitted newer later [] h.sound.tied h.sound.tied.lines waits (rounds_new b.story w.conn.requests fresh newer (still_new w newer h.still.begun) h.sound.tied.rounds) h.sound.tied.late };
      ended = h.ended;
      fit = h.fit;
      still = h.still;
      offered = h.offered;
      hushed = h.hushed;
      put = h.put;
      heeded = h.heeded;
      informed = h.informed;
    }

-- one wait is shown
one_shown : (before : List Action) (f : Core) (w : Work) (p : ℕ) (kind : WaitKind) (moved fresh started later newer : List ℕ) (h : IsShowing before f w moved fresh started) → ((q : ℕ) → IsIn q later → IsIn q moved) → has_ended w.conn.life ≡ false → is_open_at w.conn.requests p ≡ true
    → (let t = unshown f w moved fresh started in let b = book (trace_of_acts before f w.acts) in
    IsPlacedOrKept t p × ((b.story (name_at w.conn.requests p)).waiting ≢ Some kind) × WaitHolds b (name_at w.conn.requests p) kind × ((m : ℕ) → m < p → IsIn m moved → ⊥) × ((m : ℕ) → m < p → is_waiting_at w.conn.requests m ≡ true → IsIn m fresh → ⊥))
    → TiedWaits (waits_at (name_at w.conn.requests p) kind (book (trace_of_acts before f w.acts)).story) w.conn.requests w.conn.again w.conn.life newer later
    → IsShowing before f (wait_shown w p (Some kind)) later newer started
one_shown before f w p kind moved fresh started later newer h fewer up o may waits =
    let trace = trace_of_acts before f w.acts in
    let b = book trace in
    let t = unshown f w moved fresh started in
    let n = name_at w.conn.requests p in
    let a = act.Wait n kind in
    let stands = wait_may b t p kind h.sound.tied (showing_quiet before f w moved fresh started h) up (showing_written before f w moved fresh started h) o may.0 may.1 may.2 may.3 may.4 in
    let tied = wait_tied b t p kind later newer (open_within w.conn.requests p o) h.sound.tied (still_new w newer h.still.begun) waits in
    record {
      seats = λ q i. h.seats q (fewer q i);
      sound = sound_act before f w.acts a (record w.conn { moved = later; fresh = newer }) [] started h.sound.stands (refl, stands) tied;
      ended = subst NoneEnds (sym (book_of_more before f w.acts a)) h.ended;
      fit = h.fit;
      still = h.still;
      offered = h.offered;
      hushed = h.hushed;
      put = λ stays. subst NoneComes (sym (book_of_more before f w.acts a)) (wait_comes b n kind (h.put stays));
      heeded = subst (λ (x : Book). IsHeeded x.rest x.failed w.conn.life f.manager) (sym (book_of_more before f w.acts a)) h.heeded;
      informed = subst (λ (x : Book). IsInformed x f.manager) (sym (book_of_more before f w.acts a)) (alike_still b (entered b (shown_now f w.acts a)) f.manager (wait_alike b f.single.link 0 0 n kind) h.informed);
    }

-- those that were moved
--
-- those behind the first are above it
behind_first : (p : ℕ) (ps : List ℕ) (hi m : ℕ) → Rising 0 (p ∷ ps) hi → m < p → IsIn m (p ∷ ps) → ⊥
behind_first p ps hi m h l (inl e) = omega (arith, e)
behind_first p ps hi m h l (inr i) = let k = rising_in (suc p) ps hi m h.1 i in omega (arith, k.0)

-- who waits for a place waits so
admitted_so : (b : Book) (t : TurnState) (p : ℕ) → Tied b t → is_admitted_at t.requests p ≡ true → WaitsSo t p wait.Place
admitted_so b t p h a = record {
  place = λ x. refl;
  room = λ i. absurd (not_both (is_placed_at t.requests p) (admitted_unplaced t.requests p a) (awaited_placed b.story t.requests (link_in t.life).queue p h.lines.queued i));
  moved = λ w. not_both (is_admitted_at t.requests p) (waiting_apart t.requests p w).0 a;
}

-- and so does who has its place
placed_so : (t : TurnState) (p : ℕ) → is_placed_at t.requests p ≡ true → WaitsSo t p wait.Room
placed_so t p placed = record {
  place = λ a. absurd (not_both (is_placed_at t.requests p) (admitted_unplaced t.requests p a) placed);
  room = λ i. refl;
  moved = λ w. not_both (is_placed_at t.requests p) (waiting_apart t.requests p w).1 placed;
}

-- the numbers of a queue rise
queue_rises : (b : Book) (t : TurnState) → Tied b t → Rising 0 (queue_ids (link_in t.life).queue) (length t.requests)
queue_rises b t h =
    let queue = queue_ids (link_in t.life).queue in
    let kept = kept_ids t.admitted t.waiting in
    rising_left 0 queue kept (length t.requests) (rising_right 0 (requests_in t.started) (queue ++ kept) (length t.requests) h.lines.line)

-- who waits for a place shows that
place_shown : (before : List Action) (f : Core) (w : Work) (p : ℕ) (ps fresh started : List ℕ) (link : LinkState) → w.conn.life ≡ Ready link → is_outstanding w.conn.again ≡ false → is_admitted_at w.conn.requests p ≡ true → IsShowing before f w (p ∷ ps) fresh started → IsShowing before f (wait_shown w p (Some wait.Place)) ps fresh started
place_shown before f w p ps fresh started link e served a h =
    let b = book (trace_of_acts before f w.acts) in
    let t = unshown f w (p ∷ ps) fresh started in
    let q = showing_quiet before f w (p ∷ ps) fresh started h in
    let o = (admitted_open w.conn.requests p a).0 in
    let i = admitted_there b t p h.sound.tied refl a in
    let queue = queue_ids (link_in w.conn.life).queue in
    one_shown before f w p wait.Place (p ∷ ps) fresh started ps fresh h (λ m j. inr j) (ap has_ended e) o (
      inr (inl (a, i)),
      h.sound.tied.waits.no_place p (inl refl) a,
      place_holds b t p link h.sound.tied q e served a i,
      (λ m l j. behind_first p ps (length w.conn.requests) m h.sound.tied.waits.rising l j),
      (λ m l v x. behind_places b t p m h.sound.tied refl (ap has_ended e) (in_right p queue (waiting_ids w.conn.admitted) i) v l),
    )
    (moved_waits b t p wait.Place ps h.sound.tied refl (open_within w.conn.requests p o) (admitted_so b t p h.sound.tied a))

-- who is in the queue shows that it waits for room
room_shown : (before : List Action) (f : Core) (w : Work) (p : ℕ) (ps fresh started : List ℕ) (link : LinkState) → w.conn.life ≡ Ready link → is_outstanding w.conn.again ≡ false → is_placed_at w.conn.requests p ≡ true → IsIn p (awaited_ids (link_in w.conn.life).queue)
    → IsShowing before f w (p ∷ ps) fresh started → IsShowing before f (wait_shown w p (Some wait.Room)) ps fresh started
room_shown before f w p ps fresh started link e served placed i h =
    let b = book (trace_of_acts before f w.acts) in
    let t = unshown f w (p ∷ ps) fresh started in
    let q = showing_quiet before f w (p ∷ ps) fresh started h in
    let o = placed_open w.conn.requests p placed in
    let queue = (link_in w.conn.life).queue in
    one_shown before f w p wait.Room (p ∷ ps) fresh started ps fresh h (λ m j. inr j) (ap has_ended e) o (
      inl i,
      h.sound.tied.waits.no_room p (inl refl) i,
      room_holds b t p link h.sound.tied q e served (awaited_in p queue i),
      (λ m l j. behind_first p ps (length w.conn.requests) m h.sound.tied.waits.rising l j),
      (λ m l v x. behind_places b t p m h.sound.tied refl (ap has_ended e) (in_left p (queue_ids queue) (waiting_ids w.conn.admitted) (awaited_in p queue i)) v l),
    )
    (moved_waits b t p wait.Room ps h.sound.tied refl (open_within w.conn.requests p o) (placed_so t p placed))

-- on a link that takes requests, one of those that were moved shows its wait, if it has one
moved_shown_up : (before : List Action) (f : Core) (w : Work) (p : ℕ) (ps fresh started : List ℕ) (link : LinkState) → w.conn.life ≡ Ready link → is_outstanding w.conn.again ≡ false → IsShowing before f w (p ∷ ps) fresh started → IsShowing before f (wait_shown w p (moved_wait w.conn p)) ps fresh started
moved_shown_up before f w p ps fresh started link e served h =
    let b = book (trace_of_acts before f w.acts) in
    let t = unshown f w (p ∷ ps) fresh started in
    let placed = is_placed_at w.conn.requests p in
    let from = is_from (first_queued w.conn.life) p in
    let first_is : from ≡ is_from (first_in (link_in w.conn.life).queue) p = (λ i. is_from (first_queued (e i)) p) ∙ sym (λ i. is_from (first_in (link_in (e i)).queue) p) in
    let so = λ (x : Option WaitKind). IsShowing before f (wait_shown w p x) ps fresh started in
    chosen so (is_admitted_at w.conn.requests p) (Some wait.Place) (if placed && from then Some wait.Room else None)
    (λ a. place_shown before f w p ps fresh started link e served a h)
    (λ no_place. chosen so (placed && from) (Some wait.Room) None
    (λ r.
    let has = both_left placed from r in
    let i = placed_there b t p h.sound.tied refl (ap has_ended e) (placed_open w.conn.requests p has) has (sym first_is ∙ both_right placed from r) in
    room_shown before f w p ps fresh started link e served has i h)
    (λ n. retied before f w (p ∷ ps) fresh started ps fresh (λ m j. inr j) h (passed_waits b t p ps h.sound.tied refl no_place (λ i.
    let queue = (link_in w.conn.life).queue in
    let has = awaited_placed b.story w.conn.requests queue p h.sound.tied.lines.queued i in
    let behind = first_is ∙ from_first queue 0 (length w.conn.requests) p (queue_rises b t h.sound.tied) (awaited_in p queue i) in
    not_both (placed && from) n (λ j. has j && behind j)))))

-- all of them do
moved_each_up : (before : List Action) (f : Core) (w : Work) (ps fresh started : List ℕ) (link : LinkState) → w.conn.life ≡ Ready link → is_outstanding w.conn.again ≡ false → IsShowing before f w ps fresh started → IsShowing before f (moved_each_shown w ps) [] fresh started
moved_each_up before f w [] fresh started link e served h = h
moved_each_up before f w (p ∷ ps) fresh started link e served h =
    let kind = moved_wait w.conn p in
    moved_each_up before f (wait_shown w p kind) ps fresh started link (ap (λ (c : MultiplexedConnection). c.life) (wait_conn w p kind) ∙ e) (ap (λ (c : MultiplexedConnection). is_outstanding c.again) (wait_conn w p kind) ∙ served) (moved_shown_up before f w p ps fresh started link e served h)

-- and none waits for a place or is in the queue
down_waits : (b : Book) (t : TurnState) → Tied b t → (link_in t.life).queue ≡ [] → ((p : ℕ) → is_admitted_at t.requests p ≡ false) → TiedWaits b.story t.requests t.again t.life t.fresh []
down_waits b t h empty none = record {
  early = h.waits.early;
  backoff = h.waits.backoff;
  connect = h.waits.connect;
  creds = h.waits.creds;
  setup = h.waits.setup;
  resubscribe = h.waits.resubscribe;
  permit = h.waits.permit;
  place = λ p a. absurd (not_both (is_admitted_at t.requests p) (none p) a);
  room = λ p r. absurd (subst (λ qs. IsIn p (awaited_ids qs)) empty r);
  newer = h.waits.newer;
  rising = omega arith;
  no_backoff = h.waits.no_backoff;
  no_connect = h.waits.no_connect;
  no_creds = h.waits.no_creds;
  no_setup = h.waits.no_setup;
  no_resubscribe = h.waits.no_resubscribe;
  unpermitted = h.waits.unpermitted;
  no_permit = h.waits.no_permit;
  no_place = λ p i. absurd i;
  seatless = h.waits.seatless;
  no_room = λ p i. absurd i;
}

-- on a link that has ended none is open
ended_none : (b : Book) (t : TurnState) (p : ℕ) (x : RedisError) → Tied b t → IsQuiet t → t.life ≡ Ended x → is_open_at t.requests p ≡ true → ⊥
ended_none b t p x h q e o =
    let empty : kept_ids t.admitted t.waiting ≡ [] = (λ i. kept_ids (q.none (unready_serves t.life t.again (ap is_ready e)) i) (q.gone (ap has_ended e) i)) in
    none_open b t (Ended x) (name_at t.requests p) refl h q.settled e empty ((request_story b t p h (open_within t.requests p o)).open_is ∙ o)

-- so nobody waits for a place
ended_admits : (b : Book) (t : TurnState) (p : ℕ) (x : RedisError) → Tied b t → IsQuiet t → t.life ≡ Ended x → is_admitted_at t.requests p ≡ false
ended_admits b t p x h q e = by_test (is_admitted_at t.requests p) _ (λ a. absurd (ended_none b t p x h q e (admitted_open t.requests p a).0)) (λ f. f)

-- those that came in this turn, or whose connect was answered in it
--
early_kind : (b : Book) (t : TurnState) → Tied b t → has_ended t.life ≡ false → IsEarly t (wait_at t.life t.again)
early_kind b t h up = record {
  either = by_life t.life t.again up;
  backoff = λ e. ap (λ (x : Life). wait_at x t.again) e;
  connect = λ e. ap (λ (x : Life). wait_at x t.again) e;
  creds = λ link e. ap (λ (x : Life). wait_at x t.again) e;
  setup = λ link u e. ap (λ (x : Life). wait_at x t.again) e;
  resubscribe = λ link e goes. ap (λ (x : Life). wait_at x t.again) e ∙ taken_if (is_outstanding t.again) wait.Resubscribe wait.Permit goes;
  permit = λ link e served. ap (λ (x : Life). wait_at x t.again) e ∙ left_if (is_outstanding t.again) wait.Resubscribe wait.Permit served;
}
  where
    Either : WaitKind → Type 0
    Either k = (k ≡ wait.Backoff) ⊎ ((k ≡ wait.Connect) ⊎ ((k ≡ wait.Creds) ⊎ ((k ≡ wait.Setup) ⊎ ((k ≡ wait.Resubscribe) ⊎ (k ≡ wait.Permit)))))

    by_life : (x : Life) (a : Again) → has_ended x ≡ false → Either (wait_at x a)
    by_life Resting a f = inl refl
    by_life Dialing a f = inr (inl refl)
    by_life (Wanting link) a f = inr (inr (inl refl))
    by_life (SettingUp link greeting) a f = inr (inr (inr (inl refl)))
    by_life (Ready link) a f = chosen Either (is_outstanding a) wait.Resubscribe wait.Permit (λ goes. inr (inr (inr (inr (inl refl))))) (λ served. inr (inr (inr (inr (inr refl)))))
    by_life (Ended x) a f = cc

-- its wait is true, and was not shown
record EarlyHolds (b : Book) (t : TurnState) (p : ℕ) (kind : WaitKind) : Type 0 where
  pub new : shown_wait b.story t.requests p ≢ Some kind
  pub holds : WaitHolds b (name_at t.requests p) kind

-- of the first of them
early_holds : (b : Book) (t : TurnState) (p : ℕ) (ps : List ℕ) → Tied b t → IsQuiet t → t.fresh ≡ p ∷ ps → has_ended t.life ≡ false → is_waiting_at t.requests p ≡ true → EarlyHolds b t p (wait_at t.life t.again)
early_holds b t p ps h q is up w = by_life t.life refl
  where
    first : IsIn p t.fresh
    first = subst (IsIn p) (sym is) (inl refl)

    by_life : (x : Life) → t.life ≡ x → EarlyHolds b t p (wait_at t.life t.again)
    by_life Resting e = subst (λ (x : Life). EarlyHolds b t p (wait_at x t.again)) (sym e)
        (record { new = λ same. (let no : ◌≡◌ {A = Option WaitKind} None (Some wait.Backoff) = sym (h.waits.no_backoff p first w e) ∙ same in cc); holds = resting_step b t p h e (open_on b t p h (waiting_open t.requests p w)) })
    by_life Dialing e = subst (λ (x : Life). EarlyHolds b t p (wait_at x t.again)) (sym e)
        (record { new = h.waits.no_connect p first w e; holds = dialing_step b t p h e (open_on b t p h (waiting_open t.requests p w)) })
    by_life (Wanting link) e = subst (λ (x : Life). EarlyHolds b t p (wait_at x t.again)) (sym e)
        (record { new = h.waits.no_creds p link first w e; holds = creds_step b t p link h e (open_on b t p h (waiting_open t.requests p w)) })
    by_life (SettingUp link greeting) e = subst (λ (x : Life). EarlyHolds b t p (wait_at x t.again)) (sym e)
        (record { new = h.waits.no_setup p link greeting first w e; holds = setup_step b t p link greeting h e (open_on b t p h (waiting_open t.requests p w)) })
    by_life (Ready link) e = subst (λ (x : Life). EarlyHolds b t p (wait_at x t.again)) (sym e)
        (chosen (EarlyHolds b t p) (is_outstanding t.again) wait.Resubscribe wait.Permit
        (λ goes. record { new = h.waits.no_resubscribe p link first w e goes; holds = repeat_step b t p link h e goes (open_on b t p h (waiting_open t.requests p w)) })
        (λ served. record { new = h.waits.no_permit p link first w e served; holds = permit_holds b t p link h q e served w (waiting_there b t p h q.settled w) }))
    by_life (Ended x) e = absurd (ended_none b t p x h q e (waiting_open t.requests p w))

-- where one waits the link has not ended
waiting_alive : (b : Book) (t : TurnState) (p : ℕ) → Tied b t → IsQuiet t → is_waiting_at t.requests p ≡ true → has_ended t.life ≡ false
waiting_alive b t p h q w = by_life t.life refl
  where
    by_life : (x : Life) → t.life ≡ x → has_ended t.life ≡ false
    by_life Resting e = ap has_ended e
    by_life Dialing e = ap has_ended e
    by_life (Wanting link) e = ap has_ended e
    by_life (SettingUp link greeting) e = ap has_ended e
    by_life (Ready link) e = ap has_ended e
    by_life (Ended x) e = absurd (ended_none b t p x h q e (waiting_open t.requests p w))

-- one of them shows its wait, if it has one
fresh_shown_one : (before : List Action) (f : Core) (w : Work) (p : ℕ) (ps started : List ℕ) → IsShowing before f w [] (p ∷ ps) started → IsShowing before f (wait_shown w p (fresh_wait w.conn p)) [] ps started
fresh_shown_one before f w p ps started h =
    let b = book (trace_of_acts before f w.acts) in
    let t = unshown f w [] (p ∷ ps) started in
    let q = showing_quiet before f w [] (p ∷ ps) started h in
    let kind = waits_for w.conn in
    chosen (λ (x : Option WaitKind). IsShowing before f (wait_shown w p x) [] ps started) (is_waiting_at w.conn.requests p) (Some kind) None
    (λ v.
    let o = waiting_open w.conn.requests p v in
    let up = waiting_alive b t p h.sound.tied q v in
    let may = early_holds b t p ps h.sound.tied q refl up v in
    one_shown before f w p kind [] (p ∷ ps) started [] ps h (λ m i. i) up o
    (inr (inr (v, waiting_there b t p h.sound.tied refl v)), may.new, may.holds, (λ m l i. i), (λ m l u i. behind_first p ps (length w.conn.requests) m h.sound.tied.waits.newer l i))
    (fresh_waits b t p kind ps h.sound.tied refl v (early_kind b t h.sound.tied up)))
    (λ n. retied before f w [] (p ∷ ps) started [] ps (λ m i. i) h (stale_waits b t p ps h.sound.tied refl n))

-- and so do all
fresh_each : (before : List Action) (f : Core) (w : Work) (fresh started : List ℕ) → IsShowing before f w [] fresh started → IsShowing before f (fresh_each_shown w fresh) [] [] started
fresh_each before f w [] started h = h
fresh_each before f w (p ∷ ps) started h = fresh_each before f (wait_shown w p (fresh_wait w.conn p)) ps started (fresh_shown_one before f w p ps started h)

-- all waits
--
-- what a turn ends with is shown
pub record HasShown (before : List Action) (f : Core) (w : Work) : Type 0 where
  pub started : List ℕ
  pub showing : IsShowing before f w [] [] started
  pub fresh : w.conn.fresh ≡ []
  pub moved : w.conn.moved ≡ []

-- it is the same but for those
showing_unmoved : (before : List Action) (f : Core) (w : Work) (moved fresh started : List ℕ) → IsShowing before f w moved fresh started → IsShowing before f (none_moved w) moved fresh started
showing_unmoved before f w moved fresh started h = record {
  seats = h.seats;
  sound = h.sound;
  ended = h.ended;
  fit = record { wanting = h.fit.wanting; setup = h.fit.setup; link = h.fit.link; none = h.fit.none };
  still = record { setup = h.still.setup; held = h.still.held; full = h.still.full; repeated = h.still.repeated; renewed = h.still.renewed; waiting = h.still.waiting; begun = h.still.begun; none_waits = h.still.none_waits };
  offered = h.offered;
  hushed = h.hushed;
  put = h.put;
  heeded = h.heeded;
  informed = h.informed;
}

-- in either way
showing_unfresh : (before : List Action) (f : Core) (w : Work) (moved fresh started : List ℕ) → IsShowing before f w moved fresh started → IsShowing before f (none_fresh w) moved fresh started
showing_unfresh before f w moved fresh started h = record {
  seats = h.seats;
  sound = h.sound;
  ended = h.ended;
  fit = record { wanting = h.fit.wanting; setup = h.fit.setup; link = h.fit.link; none = h.fit.none };
  still = record { setup = h.still.setup; held = h.still.held; full = h.still.full; repeated = h.still.repeated; renewed = h.still.renewed; waiting = h.still.waiting; begun = h.still.begun; none_waits = h.still.none_waits };
  offered = h.offered;
  hushed = h.hushed;
  put = h.put;
  heeded = h.heeded;
  informed = h.informed;
}

-- it begins
showing : (before : List Action) (f : Core) (w : Work) (h : HasWritten before f w) → IsShowing before f (none_moved w) w.conn.moved w.conn.fresh h.returned.moved.started
showing before f w h =
    let m = h.returned.moved in
    showing_unmoved before f w w.conn.moved w.conn.fresh m.started (record { seats = m.seats; sound = m.holds; ended = m.ended; fit = m.fit; still = m.still; offered = h.offered; hushed = m.hushed; put = h.returned.put; heeded = h.returned.heeded; informed = h.returned.informed })

-- where those that were moved are shown, the others are too
shown_early : (before : List Action) (f : Core) (v : Work) (started : List ℕ) → v.conn.moved ≡ [] → IsShowing before f v [] v.conn.fresh started → HasShown before f (fresh_each_shown (none_fresh v) v.conn.fresh)
shown_early before f v started none h = record {
  started = started;
  showing = fresh_each before f (none_fresh v) v.conn.fresh started (showing_unfresh before f v [] v.conn.fresh started h);
  fresh = ap (λ (c : MultiplexedConnection). c.fresh) (fresh_conn (none_fresh v) v.conn.fresh);
  moved = ap (λ (c : MultiplexedConnection). c.moved) (fresh_conn (none_fresh v) v.conn.fresh) ∙ none;
}

-- all that are due are
pub waits_hold : (before : List Action) (f : Core) (w : Work) → HasWritten before f w → HasShown before f (waits_shown w)
waits_hold before f w h = by_life w.conn.life refl
  where
    started : List ℕ
    started = h.returned.moved.started

    first : IsShowing before f (none_moved w) w.conn.moved w.conn.fresh started
    first = showing before f w h

    b : Book
    b = book (trace_of_acts before f w.acts)

    t : TurnState
    t = unshown f (none_moved w) w.conn.moved w.conn.fresh started

    quiet : IsQuiet t
    quiet = showing_quiet before f (none_moved w) w.conn.moved w.conn.fresh started first

    last : Work → Type 0
    last v = HasShown before f (fresh_each_shown (none_fresh v) v.conn.fresh)

    down : (link_in w.conn.life).queue ≡ [] → ((p : ℕ) → is_admitted_at w.conn.requests p ≡ false) → HasShown before f (waits_shown w)
    down empty none =
        let settled = retied before f (none_moved w) w.conn.moved w.conn.fresh started [] w.conn.fresh (λ p i. absurd i) first (down_waits b t first.sound.tied empty none) in
        subst last (sym (unmoved (none_moved w) w.conn.moved empty none)) (shown_early before f (none_moved w) started refl settled)

    by_life : (life : Life) → w.conn.life ≡ life → HasShown before f (waits_shown w)
    by_life Resting e = down (ap (λ (x : Life). (link_in x).queue) e) (λ p. down_admits b t p first.sound.tied quiet (unready_serves w.conn.life w.conn.again (ap is_ready e)))
    by_life Dialing e = down (ap (λ (x : Life). (link_in x).queue) e) (λ p. down_admits b t p first.sound.tied quiet (unready_serves w.conn.life w.conn.again (ap is_ready e)))
    by_life (Wanting link) e = down (ap (λ (x : Life). (link_in x).queue) e) (λ p. down_admits b t p first.sound.tied quiet (unready_serves w.conn.life w.conn.again (ap is_ready e)))
    by_life (SettingUp link greeting) e = down (ap (λ (x : Life). (link_in x).queue) e) (λ p. down_admits b t p first.sound.tied quiet (unready_serves w.conn.life w.conn.again (ap is_ready e)))
    by_life (Ended x) e = down (ap (λ (x : Life). (link_in x).queue) e) (λ p. ended_admits b t p x first.sound.tied quiet e)
    by_life (Ready link) e = by_test (is_outstanding w.conn.again) (HasShown before f (waits_shown w))
        (λ goes.
        let off = outstanding_serves w.conn.life w.conn.again goes in
        down (first.sound.tied.early off (ap has_ended e)).empty (λ p. down_admits b t p first.sound.tied quiet off))
        (λ served.
        let v = moved_each_shown (none_moved w) w.conn.moved in
        let same = moved_conn (none_moved w) w.conn.moved in
        shown_early before f v started (ap (λ (c : MultiplexedConnection). c.moved) same)
        (subst (λ ns. IsShowing before f v [] ns started) (sym (ap (λ (c : MultiplexedConnection). c.fresh) same)) (moved_each_up before f (none_moved w) w.conn.moved w.conn.fresh started link e served first)))

-- what is open then
--
-- a message that takes items is started, and offered
row_goes : (b : Book) (t : TurnState) (n : ℕ) → Tied b t → IsWritten b → (link : LinkState) → t.life ≡ Ready link → (r : IsOpenRequest t n) → IsIn r.number (wanted (link_in t.life).row) → IsStarted b n
row_goes b t n h written link life r i =
    let l = b.link t.link in
    let name = owner_of t.requests in
    let alive : has_ended t.life ≡ false = ap has_ended life in
    let within = open_within t.requests r.number r.open_at in
    let lives_on = lives l b.created t.life h.life alive in
    let w = wanted_entry name l _ (link_in t.life).row r.number (row_open name l (link_in t.life) lives_on (row_link l t.requests t.life r.number (wanted_in r.number (link_in t.life).row i) (h.link alive))) (wanted_in r.number (link_in t.life).row i) in
    let place = subst (λ m. StandsAs l.starts (name m) w.entry.shape w.number) w.is w.open_as.place in
    let stands = stands_started b t r.number w.number w.entry.shape h within place in
    let up : l.up ≡ true = (subst (λ (x : Life). TiedLife l b.created x) life h.life).1 in
    record {
      try = record { link = t.link; message = w.number };
      last = ap (λ m. last_of (b.story m).tries) (sym r.named) ∙ ap last_of (h.tries.tried stands.0 r.number within stands.2 ∙ ap (λ m. record { link = t.link; message = m } ∷ []) {x = setup_count l.starts + stands.0} (sym {b = setup_count l.starts + stands.0} stands.1));
      up = up;
      takes_more = w.open_as.takes_more;
      offered = written.offered t.link up;
    }

-- the turn is settled
pub is_settled : (b : Book) (t : TurnState) → Tied b t → IsQuiet t → t.fresh ≡ [] → t.moved ≡ [] → IsWritten b → IsSettled b
is_settled b t h q fresh moved written = record {
  written = written;
  goes = λ n asked.
      let r = open_request b t n h asked in
      elim (located b t r.number h q.settled r.open_at) [
        | inl i ↦ by_life n r i t.life refl
        | inr at ↦ inr (subst (IsWaiting b) r.named (waiting_is b t r.number h q r.open_at at (λ i. subst (IsIn r.number) moved i) (λ v i. subst (IsIn r.number) fresh i)))
      ];
}
  where
    by_life : (n : ℕ) (r : IsOpenRequest t n) → IsIn r.number (wanted (link_in t.life).row) → (life : Life) → t.life ≡ life → IsStarted b n ⊎ IsWaiting b n
    by_life n r i Resting e = absurd (subst (λ (x : Life). IsIn r.number (wanted (link_in x).row)) e i)
    by_life n r i Dialing e = absurd (subst (λ (x : Life). IsIn r.number (wanted (link_in x).row)) e i)
    by_life n r i (Wanting link) e = absurd (subst (λ (x : Life). IsIn r.number (wanted (link_in x).row)) e i)
    by_life n r i (SettingUp link greeting) e = absurd (subst (λ (x : Life). IsIn r.number (wanted (link_in x).row)) e i)
    by_life n r i (Ready link) e = inl (row_goes b t n h written link e r i)
    by_life n r i (Ended x) e = absurd (subst (λ (x : Life). IsIn r.number (wanted (link_in x).row)) e i)

-- a turn's end
--
-- the session between two turns
pub record IsBetween (before : List Action) (c : Core) : Type 0 where
  pub started : List ℕ
  pub between : Between before c started

-- what is shown at a turn's end is settled
pub shown_between : (before : List Action) (f : Core) (w : Work) → f.turns ≢ 0 → HasShown before f w → IsBetween (trace_of_acts before f w.acts) (numbered (with_work (record { core = f; acts = [] }) w)).core
shown_between before f w began h =
    let trace = trace_of_acts before f w.acts in
    let t = seen f w.acts w.conn [] h.started in
    let s = h.showing in
    let sound : Sound trace t = subst (λ ns. Sound trace (with_unshown t ns w.conn.fresh)) (sym h.moved) (subst (λ ns. Sound trace (with_unshown t [] ns)) (sym h.fresh) s.sound) in
    let quiet : IsQuiet t = record { settled = refl; alone = refl; fit = s.fit.link; setup_fit = s.fit.setup; none = s.fit.none; setup_held = s.still.setup; held = s.still.held; full = s.still.full; seats = λ p i. absurd (subst (IsIn p) h.moved i); waiting = s.still.waiting; begun = s.still.begun; gone = s.still.none_waits } in
    record {
      started = h.started;
      between = record {
        sound = sound;
        settled = is_settled (book trace) t sound.tied quiet h.fresh h.moved (showing_written before f w [] [] h.started s);
        began = began;
        fresh = h.fresh;
        moved = h.moved;
        fit = s.fit;
        still = s.still;
        hushed = s.hushed;
        heeded = s.heeded;
        informed = s.informed;
      };
    }

-- all is moved
pub applied_ready : (before : List Action) (t : Turning) (started : List ℕ) → HasApplied before t started → ComesOrdered before t.core (work_of t) → IsReady before t.core (work_of t) started
applied_ready before t started h ordered = record { holds = h.sound; ended = h.ended; fit = h.fit; moved = h.moved; hushed = h.hushed; ordered = ordered }

pub applied_moved : (before : List Action) (t : Turning) (started : List ℕ) → HasApplied before t started → ComesOrdered before t.core (work_of t) → HasMoved before t.core (passed (work_of t))
applied_moved before t started h ordered = passed_moved before t.core (work_of t) started (applied_ready before t started h ordered)

-- and then all is shown, once nothing more is done of its own
pub returned_between : (before : List Action) (f : Core) (w : Work) → f.turns ≢ 0 → HasReturned before f w → IsBetween (trace_of_acts before f (flushed w).acts) (numbered (with_work (record { core = f; acts = [] }) (flushed w))).core
returned_between before f w began h = shown_between before f (flushed w) began (waits_hold before f (written w) (written_holds before f w h))

-- so it is of what doesn't come back
pub moved_on_between : (before : List Action) (t : Turning) (started : List ℕ) → is_some t.core.manager ≡ false → HasEffect before t started → ComesOrdered before t.core (work_of t) → IsBetween (trace_with before (moved_on t)) (numbered (moved_on t)).core
moved_on_between before t started plain (inl h) ordered = returned_between before t.core (passed (work_of t)) h.began (plain_returned before t.core (passed (work_of t)) plain (applied_moved before t started h ordered))
moved_on_between before t started plain (inr h) ordered = absurd (not_both (is_some t.core.manager) plain h.retiring.comes)
