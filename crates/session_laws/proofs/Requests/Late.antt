-- A response timer fires: where its request is open, its time is over. And the event that sets a time.
use Rattle.std.proofs.Common.{◌≡◌, ◌≢◌, inl, inr, ℕ, ◌<◌, ◌==◌, true, false, ◌&&◌, ◌||◌, not, is_some, List, [], ◌∷◌, ◌++◌, length, Option, Some, None, slice_get, if◌then◌else◌, refl, sym, ap, ◌∙◌, subst, arith}
use Rattle.std.specs.List.{AllByRecursion}
use Rattle.containers.proofs.Choices.{by_test, chosen, left_if, taken_if, eq_from, eq_test, if_false, if_true, ne_from, ne_test, not_both, or_left}
use Rattle.redis_error.specs.declared.fault_kind.FaultKind.TheVariants as kinds
use Rattle.redis_error.specs.declared.redis_error.RedisError.TheVariants as error
use Rattle.driver_model.specs.declared.action.Action.{Action}
use Rattle.driver_model.specs.declared.action.Action.TheVariants as action
use Rattle.driver_model.specs.declared.action.Owner.TheVariants as owner
use Rattle.driver_model.specs.declared.action.Purpose.{Purpose}
use Rattle.driver_model.specs.declared.action.Purpose.TheVariants as purpose
use Rattle.driver_model.specs.declared.event.EventKind.TheVariants as event
use Rattle.driver_model.specs.declared.outcome.Outcome.TheVariants as outcome
use Rattle.driver_model.specs.News.{News, of_timer, silence}
use Rattle.link_core.specs.Link.{LinkState, cancelled}
use Rattle.link_core.specs.Row.{silenced}
use Rattle.link_core.specs.Waiting.{without}
use Rattle.link_laws.specs.Settles.{wanted, awaited_ids}
use Rattle.mux_conn.specs.declared.act.LinkAct.TheVariants as act
use Rattle.mux_conn.specs.declared.connection.MultiplexedConnection.{MultiplexedConnection}
use Rattle.mux_conn.specs.declared.again.Again.{Again}
use Rattle.mux_conn.specs.declared.life.Life.{Life}
use Rattle.mux_conn.specs.declared.life.Life.TheVariants.{Resting, Dialing, Wanting, SettingUp, Ready, Ended}
use Rattle.mux_conn.specs.declared.request.Pending.{Pending}
use Rattle.mux_conn.specs.declared.request.Request.{Request}
use Rattle.mux_conn.specs.declared.request.Waiting.{Waiting}
use Rattle.mux_conn.specs.Connection.{Work, acted, at_life, is_ready, is_resting}
use Rattle.mux_conn.specs.Requests.{is_open_at, name_at, permits_at, given_back, with_permits, closed, answered as answered_in}
use Rattle.mux_conn.specs.declared.request.Progress.TheVariants as progress
use Rattle.mux_conn.specs.Effects.{cancelled_in, timed_out}
use Rattle.single_session.specs.declared.core_state.Core.{Core}
use Rattle.single_session.specs.Turn.{with_work, late_by, effect, counted, is_bad}
use Rattle.legal_trace.specs.Ledger.{hears, is_over, noted}
use Rattle.legal_trace.specs.Owed.{owed, owed_to_try}
use Rattle.legal_trace.specs.Story.{Story, answered, awaited_in, bytes_of, fires, is_no_error, is_open, is_told, last_of}
use Rattle.legal_trace.specs.Book.{Book, after_event, book, entered, if_own, is_clock_of, kind_in, timeout_after, has_generations}
use Rattle.legal_trace.specs.Legal.{NoneEnds}
use Rattle.conn_laws.proofs.Requests.Rounded.{rounds_same}
use Rattle.conn_laws.proofs.Internal.Renewals.{renewal_alike}
use Rattle.conn_laws.proofs.Ties.Numbers.{IsIn, in_left, in_right, in_either, Rising, rising_right, rising_tail, requests_in, request_in, request_of, request_other, is_own}
use Rattle.conn_laws.proofs.Ties.Tied.{no_link, link_in, queue_ids, IsQueued, AreQueued, TiedLines, TiedPermits, TiedStory, TiedWaits, has_ended, shown_wait, TiedRounds}
use Rattle.session_laws.proofs.Ties.Tied.{TurnState, inner, Tied}
use Rattle.conn_laws.proofs.Ties.States.{IsStopped}
use Rattle.session_laws.proofs.Ties.States.{Between, HasApplied}
use Rattle.conn_laws.proofs.Ties.Behind.{open_untold}
use Rattle.conn_laws.proofs.Ties.Names.{name_of_some, open_within, same_name}
use Rattle.session_laws.proofs.Ties.Names.{request_not}
use Rattle.conn_laws.proofs.Ties.InLine.{row_ids, kept_ids, line_of, open_in_line}
use Rattle.conn_laws.proofs.Ties.Owes.{answered_closed, lives}
use Rattle.session_laws.proofs.Ties.Owes.{in_time, line_unowed, none_open, not_empty, request_story, row_in_line, IsAwake}
use Rattle.conn_laws.proofs.Ties.Permits.{permits_same}
use Rattle.conn_laws.proofs.Ties.Kept.{packed_same, queued_same, tries_same}
use Rattle.session_laws.proofs.Ties.Kept.{one_changed, tied_by}
use Rattle.conn_laws.proofs.Requests.Closing.{one_of}
use Rattle.session_laws.proofs.Requests.Closing.{told_closed}
use Rattle.session_laws.proofs.Requests.Answer.{answer_apart, may_answer, owed_untold, none_before}
use Rattle.session_laws.proofs.Requests.Settle.{book_of_more, holds_more, seen, trace_of_acts}
use Rattle.session_laws.proofs.Turn.Announce.{announced_sound, first_book, holds_first, turn_of, turned, uses_on, time_still}
use Rattle.session_laws.proofs.Turn.Heard.{silent_applied, still_none, tame_between, hushed_still}
use Rattle.conn_laws.proofs.Requests.Cancel.{left_creds, left_fit, left_life, left_link, left_others, left_setup, silenced_wanted, still_dials, was_ready, was_setting, was_wanting, without_awaited, without_in, without_others, without_rises, left_renewal, early_cancelled, left_stopped, resting_cancelled, still_rests, left_repeat, serves_cancelled}
use Rattle.session_laws.proofs.Requests.Cancel.{IsSilent, none_more, silent_core, silent_ends, silent_numbers, silent_others, still_tied, left_course, left_notices}
use Rattle.driver_model.specs.declared.kind.SessionKind.{SessionKind}
use Rattle.driver_model.specs.declared.kind.SessionKind.TheVariants as session
use Rattle.driver_model.specs.Kind.{has_timeouts}
use Rattle.conn_laws.proofs.Links.Said.{IsTame, renoticed}
use Rattle.conn_laws.proofs.Internal.Serving.{resting_unready, unready_serves}
use Rattle.session_laws.proofs.Requests.Submit.{or_none}
use Rattle.conn_laws.proofs.Internal.Repeats.{repeat_alike}
use Rattle.conn_laws.proofs.Requests.Late.{IsFired, all_without, fires_request, fires_same, silenced_apart, silenced_still, still_alive, without_none}

-- a story whose timer fires
--
-- the stories where the timer of submission m fires
abbrev fires_at : ℕ → (ℕ → Story) → ℕ → Story
fires_at m story n = if_own (m == n) (fires (story n)) (story n)

-- each is the same but for that
fired_at : (m : ℕ) (story : ℕ → Story) (n : ℕ) → IsFired (story n) (fires_at m story n)
fired_at m story n = chosen (IsFired (story n)) (m == n) (fires (story n)) (story n)
    (λ t. fires_same (story n))
    (λ f. record { submission = refl; timeout = refl; tries = refl; waiting = refl; outcomes = refl; holds = record { link = refl; permits = refl; timeout = refl; clock = refl } })

-- its round is as it was
fires_rounds : (m : ℕ) (story : ℕ → Story) (n : ℕ) → (fires_at m story n).rounded ≡ (story n).rounded
fires_rounds m story n = chosen (λ (x : Story). x.rounded ≡ (story n).rounded) (m == n) (fires (story n)) (story n)
    (λ t. chosen (λ (x : Story). x.rounded ≡ (story n).rounded) (is_open (story n)) (record (story n) { overdue = true }) (story n) (λ o. refl) (λ f. refl))
    (λ f. refl)

-- who was told is told
fired_told : (m : ℕ) (story : ℕ → Story) (n : ℕ) → is_told (fires_at m story n) ≡ is_told (story n)
fired_told m story n = let same = fired_at m story n in sym (λ i. not (awaited_in (same.submission i)) && is_no_error (same.outcomes i))

-- the session where the time of a request is over
--
-- its lines, with the request to be answered
late_lines : (m : ℕ) (story : ℕ → Story) (requests : List Request) (link : LinkState) (waiting admitted : List Waiting) (p : ℕ) (started : List ℕ) → is_own p ≡ false → TiedLines story requests link waiting admitted [] started
    → TiedLines (fires_at m story) requests (cancelled link p) waiting admitted (p ∷ []) started
late_lines m story requests link waiting admitted p started apart h =
    let after = fires_at m story in
    let same = λ (n : ℕ). (fired_at m story n).submission in
    let answers = λ (n : ℕ). (fired_at m story n).outcomes in
    let times = λ (n : ℕ). (fired_at m story n).timeout in
    let rows = requests_in (wanted link.row) in
    let silent_rows = requests_in (wanted (silenced link.row p)) in
    let queue = awaited_ids (without link.queue p) in
    let kept = kept_ids admitted waiting in
    record {
      line = rising_tail 0 (requests_in started) (queue_ids link.queue ++ kept) (queue_ids (without link.queue p) ++ kept) (length requests) (λ low s. without_rises link.queue kept p low (length requests) s) h.line;
      queued = all_without (IsQueued after requests) link.queue p (queued_same story after requests link.queue same answers h.queued);
      entries = silenced_still requests link.row p apart h.entries;
      packs = packed_same story after requests waiting same times h.packs;
      packed_in = packed_same story after requests admitted same times h.packed_in;
      there = λ q e. by_test (p == q) _
          (λ t. inl (inl (eq_from p q t)))
          (λ f.
          let other = ne_from p q f in
          elim (h.there q e) [
            | inl i ↦ inl (inr (elim (in_either q rows (awaited_ids link.queue) i) [
              | inl j ↦ in_left q silent_rows queue (request_in q (wanted (silenced link.row p)) (request_other q (wanted link.row) j) (silenced_wanted link.row p q other (request_of q (wanted link.row) j)))
              | inr j ↦ in_right q silent_rows queue (without_awaited link.queue p q other j)
            ]))
            | inr w ↦ inr w
          ]);
    }

-- by the life of its link
late_lines_in : (m : ℕ) (story : ℕ → Story) (requests : List Request) (life : Life) (waiting admitted : List Waiting) (p : ℕ) (started : List ℕ) → is_own p ≡ false → TiedLines story requests (link_in life) waiting admitted [] started
    → TiedLines (fires_at m story) requests (link_in (cancelled_in life p)) waiting admitted (p ∷ []) started
late_lines_in m story requests (Ready link) waiting admitted p started apart h = late_lines m story requests link waiting admitted p started apart h
late_lines_in m story requests Resting waiting admitted p started apart h =
    let k = late_lines m story requests no_link waiting admitted p started apart h in
    record { line = k.line; queued = k.queued; entries = k.entries; packs = k.packs; packed_in = k.packed_in; there = k.there }
late_lines_in m story requests Dialing waiting admitted p started apart h =
    let k = late_lines m story requests no_link waiting admitted p started apart h in
    record { line = k.line; queued = k.queued; entries = k.entries; packs = k.packs; packed_in = k.packed_in; there = k.there }
late_lines_in m story requests (Wanting link) waiting admitted p started apart h =
    let k = late_lines m story requests no_link waiting admitted p started apart h in
    record { line = k.line; queued = k.queued; entries = k.entries; packs = k.packs; packed_in = k.packed_in; there = k.there }
late_lines_in m story requests (SettingUp link greeting) waiting admitted p started apart h =
    let k = late_lines m story requests no_link waiting admitted p started apart h in
    record { line = k.line; queued = k.queued; entries = k.entries; packs = k.packs; packed_in = k.packed_in; there = k.there }
late_lines_in m story requests (Ended e) waiting admitted p started apart h =
    let k = late_lines m story requests no_link waiting admitted p started apart h in
    record { line = k.line; queued = k.queued; entries = k.entries; packs = k.packs; packed_in = k.packed_in; there = k.there }

-- who was told is in the queue still
late_told : (story : ℕ → Story) (requests : List Request) (number : ℕ) (life : Life) (p : ℕ) → is_open (story (name_at requests p)) ≡ true → (has_ended life ≡ false → AreQueued story requests number (link_in life)) → has_ended (cancelled_in life p) ≡ false
    → AreQueued (fires_at (name_at requests p) story) requests number (link_in (cancelled_in life p))
late_told story requests number life p o h up = by_life life h up
  where
    m : ℕ
    m = name_at requests p

    same : (n : ℕ) → (fires_at m story n).link ≡ (story n).link
    same n = (fired_at m story n).holds.link

    other : (n q : ℕ) → is_told (story n) ≡ true → name_at requests q ≡ n → p ≢ q
    other n q was named apart = not_both (is_told (story n)) (subst (λ k. is_told (story k) ≡ false) (ap (name_at requests) apart ∙ named) (open_untold (story m) o)) was

    kept : (link after : LinkState) → ((n q : ℕ) → is_told (story n) ≡ true → name_at requests q ≡ n → IsIn q (queue_ids link.queue) → IsIn q (queue_ids after.queue)) → ((q : ℕ) → IsIn q (queue_ids after.queue) → IsIn q (queue_ids link.queue)) → AreQueued story requests number link
        → AreQueued (fires_at m story) requests number after
    kept link after stays was_in g = record {
      told = λ n is none on.
          let was = sym (fired_told m story n) ∙ is in
          let k = g.told n was ((fired_at m story n).tries ∙ none) (sym (same n) ∙ on) in
          (k.0, k.1, k.2, stays n k.0 was k.2 k.3);
      here = λ q i. same (name_at requests q) ∙ g.here q (was_in q i);
    }

    by_life : (x : Life) → (has_ended x ≡ false → AreQueued story requests number (link_in x)) → has_ended (cancelled_in x p) ≡ false → AreQueued (fires_at m story) requests number (link_in (cancelled_in x p))
    by_life (Ready link) g f = kept link (cancelled link p) (λ n q was named i. without_others link.queue p q (other n q was named) i) (λ q i. without_in link.queue p q i) (g refl)
    by_life Resting g f = kept no_link no_link (λ n q was named i. i) (λ q i. i) (g refl)
    by_life Dialing g f = kept no_link no_link (λ n q was named i. i) (λ q i. i) (g refl)
    by_life (Wanting link) g f = kept no_link no_link (λ n q was named i. i) (λ q i. i) (g refl)
    by_life (SettingUp link greeting) g f = kept no_link no_link (λ n q was named i. i) (λ q i. i) (g refl)
    by_life (Ended e) g f = cc

-- the waits that were shown
late_waits : (story : ℕ → Story) (requests : List Request) (m : ℕ) (a : Again) (life : Life) (p : ℕ) (ys fresh moved : List ℕ) → Rising 0 (queue_ids (link_in life).queue ++ ys) (length requests) → TiedWaits story requests a life fresh moved
    → TiedWaits (fires_at m story) requests a (cancelled_in life p) fresh moved
late_waits story requests m a life p ys fresh moved line h =
    let after = fires_at m story in
    let same : (q : ℕ) → shown_wait after requests q ≡ shown_wait story requests q = λ q. (fired_at m story (name_at requests q)).waiting in
    let dials = still_dials life p in
    let wants = was_wanting life p in
    let sets = was_setting life p in
    let ready = was_ready life p in
    let rests = still_rests life p in
    let others = left_others requests life ys p 0 line in
    record {
      early = λ q w. one_of (shown_wait after requests q) (shown_wait story requests q) (same q) (h.early q w);
      backoff = λ q w d. elim (h.backoff q w (rests d)) [ inl i ↦ inl i | inr e ↦ inr (same q ∙ e) ];
      connect = λ q w d. elim (h.connect q w (dials d)) [ inl i ↦ inl i | inr e ↦ inr (same q ∙ e) ];
      creds = λ q link w r. let x = wants link r in elim (h.creds q x.0 w x.1) [ inl i ↦ inl i | inr e ↦ inr (same q ∙ e) ];
      setup = λ q link u w r. let x = sets link u r in elim (h.setup q x.0 u w x.1) [ inl i ↦ inl i | inr e ↦ inr (same q ∙ e) ];
      resubscribe = λ q link w r goes. let x = ready link r in elim (h.resubscribe q x.0 w x.1 goes) [ inl i ↦ inl i | inr e ↦ inr (same q ∙ e) ];
      permit = λ q link w r none. let x = ready link r in elim (h.permit q x.0 w x.1 none) [ inl i ↦ inl i | inr e ↦ inr (same q ∙ e) ];
      place = λ q a. elim (h.place q a) [ inl i ↦ inl i | inr e ↦ inr (same q ∙ e) ];
      room = λ q r. elim (h.room q (others q r).2) [ inl i ↦ inl i | inr e ↦ inr (same q ∙ e) ];
      newer = h.newer;
      rising = h.rising;
      no_backoff = λ q i w d. same q ∙ h.no_backoff q i w (rests d);
      no_connect = λ q i w d e. h.no_connect q i w (dials d) (sym (same q) ∙ e);
      no_creds = λ q link i w r e. let x = wants link r in h.no_creds q x.0 i w x.1 (sym (same q) ∙ e);
      no_setup = λ q link u i w r e. let x = sets link u r in h.no_setup q x.0 u i w x.1 (sym (same q) ∙ e);
      no_resubscribe = λ q link i w r goes e. let x = ready link r in h.no_resubscribe q x.0 i w x.1 goes (sym (same q) ∙ e);
      unpermitted = λ q link w r goes e. let x = ready link r in h.unpermitted q x.0 w x.1 goes (sym (same q) ∙ e);
      no_permit = λ q link i w r none e. let x = ready link r in h.no_permit q x.0 i w x.1 none (sym (same q) ∙ e);
      no_place = λ q i a e. h.no_place q i a (sym (same q) ∙ e);
      seatless = λ q a e. h.seatless q a (sym (same q) ∙ e);
      no_room = λ q i r e. h.no_room q i (others q r).2 (sym (same q) ∙ e);
    }

-- the timer of request p is number n
abbrev IsClock : Core → ℕ → ℕ → Type 0
IsClock c n p = slice_get c.timers n ≡ Some (purpose.Response (owner.Try (name_at c.single.connection.requests p) 0))

-- no link hears of it
late_silent : (b : Book) (c : Core) (started : List ℕ) (n : ℕ) (who : Option Purpose) → Tied b (inner c started) → slice_get c.timers n ≡ who → ((m : ℕ) → of_timer m who ≡ silence) → IsSilent b c (event.Fired n) c.timeout
late_silent b c started n who h is none = record {
  silent = λ m. ap (λ (ts : List Purpose). of_timer m (slice_get ts n)) h.numbers.timers ∙ ap (of_timer m) is ∙ none m;
  none = refl;
  time = time_still (kind_in b.config) b.timeout (event.Fired n) tt ∙ h.numbers.timeout;
  shut = ap (λ s. s || false) h.numbers.shut;
}

-- the connection of which the message is gone
abbrev late_conn : Core → ℕ → MultiplexedConnection
late_conn c p = record c.single.connection { life = cancelled_in c.single.connection.life p }

-- the session with the turn in which the time of an open request is over
late_tied : (b : Book) (c : Core) (started : List ℕ) (word n p : ℕ) → Tied b (inner c started) → IsTame (b.link c.single.link) → IsClock c n p → is_open_at c.single.connection.requests p ≡ true
    → Tied (entered b (turn_of c word (event.Fired n))) (seen (turned c (event.Fired n)) [] (late_conn c p) (p ∷ []) started)
late_tied b c started word n p h tame is o =
    let conn = c.single.connection in
    let m = name_at conn.requests p in
    let l = open_within conn.requests p o in
    let r = request_story b (inner c started) p h l in
    let asked = r.open_is ∙ o in
    let ledger = b.link c.single.link in
    let now = entered b (turn_of c word (event.Fired n)) in
    let t = seen (turned c (event.Fired n)) [] (late_conn c p) (p ∷ []) started in
    let after = fires_at m b.story in
    let timer : slice_get b.timers n ≡ Some (purpose.Response (owner.Try m 0)) = ap (λ (ts : List Purpose). slice_get ts n) h.numbers.timers ∙ is in
    let stories : after ≡ now.story = λ i k. if_own (is_clock_of k (sym timer i)) (fires (b.story k)) (b.story k) in
    let q = late_silent b c started n (Some (purpose.Response (owner.Try m 0))) h is (λ k. refl) in
    let heard : now.link c.single.link ≡ record ledger { heard = silence } = ap (λ (x : News). noted ledger (hears c.turns x)) (q.silent c.single.link) in
    let queue = queue_ids (link_in conn.life).queue in
    let kept = kept_ids conn.admitted conn.waiting in
    let line = rising_right 0 (requests_in started) (queue ++ kept) (length conn.requests) h.lines.line in
    subst (λ (story : ℕ → Story). Tied (record now { story = story }) t) stories
    (tied_by (record now { story = after }) t (record ledger { heard = silence }) heard (record {
      numbers = silent_numbers b c started word (event.Fired n) c.timeout after conn.free (cancelled_in conn.life p) conn.requests (p ∷ []) q h;
      others = λ k other. silent_others b c (event.Fired n) c.timeout k q (h.others k other);
      notices = left_notices conn.life p ledger.hearing (renoticed tame h.notices);
      life = left_life ledger b.created conn.life p h.life;
      course = left_course conn.life p ledger.last ledger.end c.links c.single.link c.shut (c.shut || false) c.manager conn.last conn.opened conn.info conn.address (or_left c.shut false) h.course;
      calm = λ up awake. refl;
      creds = left_creds ledger.creds conn.renewal.wanted conn.life p h.creds;
      creation = h.creation;
      uses = uses_on c.sources c.single.link h.uses;
      renewal = left_renewal (record ledger { heard = silence }) conn.renewal conn.life p (renewal_alike ledger (record ledger { heard = silence }) conn.renewal conn.life refl refl refl h.renewal);
      repeat = left_repeat (record ledger { heard = silence }) b.tracked conn.renewal.within conn.again conn.life p (repeat_alike ledger (record ledger { heard = silence }) b.tracked conn.renewal.within conn.again conn.life refl refl refl (λ e is. refl) h.repeat);
      setup = left_setup ledger conn.info started conn.life p h.setup;
      link = λ alive. left_link conn.requests ledger conn.life p h.link alive;
      names = h.names;
      story = one_changed b (inner c started) p fires h l (fires_request (b.story m) conn.requests c.single.link p);
      tries = tries_same (record ledger { heard = silence }) b.story after conn.requests c.single.link started (λ k. (fired_at m b.story k).submission) (λ k. (fired_at m b.story k).tries) (λ k. sym (fired_at m b.story k).holds.link)
          (record { owners = h.tries.owners; greeted = h.tries.greeted; shapes = h.tries.shapes; tried = h.tries.tried; untried = h.tries.untried });
      lines = late_lines_in m b.story conn.requests conn.life conn.waiting conn.admitted p started (request_not b (inner c started) p h l) h.lines;
      told = late_told b.story conn.requests c.single.link conn.life p asked h.told;
      waits = late_waits b.story conn.requests m conn.again conn.life p kept conn.fresh conn.moved line h.waits;
      permits = subst (λ k. TiedPermits after k conn.requests c.single.link conn.limit conn.free []) (none_more b.submissions) (permits_same b.story after b.submissions conn.requests c.single.link conn.limit conn.free [] (λ k. (fired_at m b.story k).holds) h.permits);
      rounds = subst (λ x. TiedRounds (has_generations b) after conn.requests x conn.fresh conn.rounds) (sym (serves_cancelled conn.life conn.again p)) (rounds_same b.story after conn.requests conn.fresh (fires_rounds m b.story) h.rounds);
      early = early_cancelled conn.requests conn.again conn.life p h.early;
      late = λ k open_k late_k. by_test (p == k) _
          (λ e. inl (eq_from p k e))
          (λ f.
          let apart : m ≢ name_at conn.requests k = λ same. ne_from p k f (same_name c.table conn.requests p k h.names l (open_within conn.requests k open_k) same) in
          let still = left_if (m == name_at conn.requests k) (fires (b.story (name_at conn.requests k))) (b.story (name_at conn.requests k)) (ne_test m (name_at conn.requests k) apart) in
          absurd (h.late k open_k (ap (λ (s : Story). s.overdue) (sym still) ∙ late_k)));
    }))

-- what it is owed
--
-- a submission whose time is over
late_owed : (b : Book) (n : ℕ) → (b.story n).late ≡ false → (b.story n).unspoken ≡ false → bytes_of (b.story n) ≢ [] → (b.story n).overdue ≡ true → owed b n ≡ Some (outcome.Fault (error.Io kinds.TimedOut))
late_owed b n early spoken some over =
    left_if (b.story n).late _ _ early ∙ left_if (b.story n).unspoken _ _ spoken ∙ left_if (length (bytes_of (b.story n)) == 0) _ _ (not_empty (bytes_of (b.story n)) some) ∙ taken_if (b.story n).overdue _ (owed_to_try b (b.story n) (last_of (b.story n).tries)) over

-- the request is so
fired_overdue : (b : Book) (c : Core) (started : List ℕ) (word n p : ℕ) → Tied b (inner c started) → IsClock c n p → is_open_at c.single.connection.requests p ≡ true
    → ((entered b (turn_of c word (event.Fired n))).story (name_at c.single.connection.requests p)).overdue ≡ true
fired_overdue b c started word n p h is o =
    let conn = c.single.connection in
    let m = name_at conn.requests p in
    let s = b.story m in
    let asked = (request_story b (inner c started) p h (open_within conn.requests p o)).open_is ∙ o in
    let timer : slice_get b.timers n ≡ Some (purpose.Response (owner.Try m 0)) = ap (λ (ts : List Purpose). slice_get ts n) h.numbers.timers ∙ is in
    ap (λ (x : Story). x.overdue) (ap (λ x. if_own (is_clock_of m x) (fires s) s) timer ∙ taken_if (m == m) (fires s) s (eq_test m m refl) ∙ taken_if (is_open s) (record s { overdue = true }) s asked)

-- the answer
--
-- the rows and the queue are without it
late_apart : (b : Book) (t : TurnState) (life : Life) (p : ℕ) → Tied b t → t.life ≡ life → has_ended life ≡ false → is_own p ≡ false → is_open (b.story (name_at t.requests p)) ≡ true → IsIn p (wanted (link_in (cancelled_in life p)).row ++ queue_ids (link_in (cancelled_in life p)).queue) → ⊥
late_apart b t Resting p h e up other o i = i
late_apart b t Dialing p h e up other o i = i
late_apart b t (Wanting link) p h e up other o i = i
late_apart b t (SettingUp link greeting) p h e up other o i = i
late_apart b t (Ended x) p h e up other o i = cc
late_apart b t (Ready link) p h e up other o i =
    let here : link_in t.life ≡ link = ap link_in e in
    let kept = kept_ids t.admitted t.waiting in
    let rows = subst (λ (x : LinkState). Rising 0 (requests_in (row_ids x.row) ++ (queue_ids x.queue ++ kept)) (length t.requests)) here (row_in_line b t h (ap has_ended e)) in
    let line = rising_right 0 (requests_in (row_ids link.row)) (queue_ids link.queue ++ kept) (length t.requests) rows in
    let queued = subst (λ (x : LinkState). AllByRecursion (IsQueued b.story t.requests) x.queue) here h.lines.queued in
    elim (in_either p (wanted (silenced link.row p)) (queue_ids (without link.queue p)) i) [
      | inl j ↦ silenced_apart link.row (queue_ids link.queue ++ kept) p 0 (length t.requests) other rows j
      | inr j ↦ without_none b.story t.requests link.queue kept p 0 (length t.requests) o line queued j
    ]

-- who else is open is owed nothing
others_unowed : (b : Book) (t : TurnState) (p q : ℕ) → Tied b t → IsAwake t → t.pending ≡ p ∷ [] → has_ended t.life ≡ false → q < p → is_open_at t.requests q ≡ true → owed b (name_at t.requests q) ≡ None
others_unowed b t p q h awake is up less o =
    let apart : IsIn q t.pending → ⊥ = λ i. elim (subst (IsIn q) is i) [ inl same ↦ omega (arith, same) | inr none ↦ none ] in
    let link = link_in t.life in
    let i = open_in_line b.story t.requests link t.waiting t.admitted t.pending t.started q h.lines o in
    let j = elim (in_either q t.pending (line_of link t.admitted t.waiting) i) as (λ _. IsIn q (line_of link t.admitted t.waiting)) [ inl k ↦ absurd (apart k) | inr k ↦ k ] in
    line_unowed b t q h awake up o (in_time b t q h o apart) j

-- an open request, between two turns, has a link that has not ended
open_alive : (before : List Action) (c : Core) (started : List ℕ) (p : ℕ) → Between before c started → is_open_at c.single.connection.requests p ≡ true → has_ended c.single.connection.life ≡ false
open_alive before c started p h o = by_life c.single.connection.life refl
  where
    conn : MultiplexedConnection
    conn = c.single.connection

    by_life : (x : Life) → conn.life ≡ x → has_ended conn.life ≡ false
    by_life Resting e = ap has_ended e
    by_life Dialing e = ap has_ended e
    by_life (Wanting link) e = ap has_ended e
    by_life (SettingUp link greeting) e = ap has_ended e
    by_life (Ready link) e = ap has_ended e
    by_life (Ended x) e =
        let b = book before in
        let t = inner c started in
        let none : kept_ids conn.admitted conn.waiting ≡ [] = λ i. kept_ids (h.fit.none (unready_serves conn.life conn.again (ap is_ready e)) i) (h.still.none_waits (ap has_ended e) i) in
        absurd (none_open b t (Ended x) (name_at conn.requests p) refl h.sound.tied refl e none ((request_story b t p h.sound.tied (open_within conn.requests p o)).open_is ∙ o))

-- and where the connection has none, it was not shut down
open_awake : (before : List Action) (c : Core) (started : List ℕ) (p : ℕ) → Between before c started → is_open_at c.single.connection.requests p ≡ true → is_resting c.single.connection.life ≡ true → c.shut ≡ false
open_awake before c started p h o rests = by_test c.shut _
    (λ over. absurd (none_open b t conn.life (name_at conn.requests p) (bare conn.life rests) h.sound.tied refl refl (λ i. kept_ids (nobody i) (stopped conn.life rests (h.hushed over) i)) ((request_story b t p h.sound.tied (open_within conn.requests p o)).open_is ∙ o)))
    (λ awake. awake)
  where
    b : Book
    b = book before

    t : TurnState
    t = inner c started

    conn : MultiplexedConnection
    conn = c.single.connection

    nobody : conn.admitted ≡ []
    nobody = h.fit.none (unready_serves conn.life conn.again (resting_unready conn.life rests))

    stopped : (life : Life) → is_resting life ≡ true → IsStopped life conn.waiting → conn.waiting ≡ []
    stopped Resting z k = k
    stopped Dialing z k = cc
    stopped (Wanting link) z k = cc
    stopped (SettingUp link greeting) z k = cc
    stopped (Ready link) z k = cc
    stopped (Ended x) z k = cc

    bare : (life : Life) → is_resting life ≡ true → line_of (link_in life) conn.admitted conn.waiting ≡ kept_ids conn.admitted conn.waiting
    bare Resting z = refl
    bare Dialing z = refl
    bare (Wanting link) z = refl
    bare (SettingUp link greeting) z = refl
    bare (Ready link) z = cc
    bare (Ended x) z = refl

-- the time of an open request is over: it is answered
late_answered : (before : List Action) (c : Core) (started : List ℕ) (word n p : ℕ) → Between before c started → is_bad c (event.Fired n) ≡ false → IsClock c n p → is_open_at c.single.connection.requests p ≡ true
    → HasApplied (before ++ turn_of c word (event.Fired n) ∷ [])
    (with_work (record { core = turned c (event.Fired n); acts = [] }) (acted (record { conn = closed (late_conn c p) p; acts = [] }) (act.Outcome (name_at c.single.connection.requests p) (outcome.Fault (error.Io kinds.TimedOut))))) started
late_answered before c started word n p h good is o =
    let b0 = book before in
    let conn = c.single.connection in
    let kind = event.Fired n in
    let front = before ++ turn_of c word kind ∷ [] in
    let f = turned c kind in
    let now = entered b0 (turn_of c word kind) in
    let w : Work = record { conn = late_conn c p; acts = [] } in
    let over = outcome.Fault (error.Io kinds.TimedOut) in
    let m = name_at conn.requests p in
    let a = act.Outcome m over in
    let t = seen f [] (late_conn c p) (p ∷ []) started in
    let tied = late_tied b0 c started word n p h.sound.tied (tame_between before c started h) is o in
    let holds = holds_first front f (late_conn c p) (p ∷ []) started (announced_sound before c started word kind t h good tied) in
    let b = book (trace_of_acts front f []) in
    let book_is : b ≡ now = first_book before (turn_of c word kind) f in
    let l = open_within conn.requests p o in
    let alive = open_alive before c started p h o in
    let up = still_alive conn.life p alive in
    let awake : IsAwake t = λ rests. or_none c.shut ∙ open_awake before c started p h o (sym (resting_cancelled conn.life p) ∙ rests) in
    let r = request_story b t p holds.tied l in
    let asked = r.open_is ∙ o in
    let late = ap (λ (x : Book). (x.story m).overdue) book_is ∙ fired_overdue b0 c started word n p h.sound.tied is o in
    let owes = late_owed b m r.in_time r.spoken r.some late in
    let was_asked = (request_story b0 (inner c started) p h.sound.tied l).open_is ∙ o in
    let apart = late_apart b0 (inner c started) conn.life p h.sound.tied refl alive (request_not b0 (inner c started) p h.sound.tied l) was_asked in
    let lived = lives (b.link f.single.link) b.created (cancelled_in conn.life p) holds.tied.life up in
    let may = may_answer b t p over holds.tied o owes (λ q less asked_q. others_unowed b t p q holds.tied awake refl up less asked_q) (none_before b t m holds.tied refl) (λ ended. absurd (not_both (is_over (b.link f.single.link)) (ap is_some lived) ended)) in
    let link = link_in (cancelled_in conn.life p) in
    let told = λ (x : has_ended (cancelled_in conn.life p) ≡ false). told_closed b.story conn.requests c.single.link p (λ k. answered (b.story k) over) link link (λ u. absurd (owed_untold b m over asked owes u)) (λ k. refl) (λ q told_q i. i) (λ q i. i) (holds.tied.told x) in
    let answer = answer_apart b (seen f [] (late_conn c p) [] started) p [] over (λ going unshut. refl) (λ going goes. refl) o apart told holds.tied in
    let after = holds_more front f w a (closed (late_conn c p) p) (p ∷ []) [] started holds (inl may) answer in
    let q = late_silent b0 c started n (Some (purpose.Response (owner.Try m 0))) h.sound.tied is (λ k. refl) in
    record {
      sound = after;
      ended = subst NoneEnds (sym (book_of_more front f [] a ∙ ap (λ (x : Book). entered x (action.Outcome m over)) book_is)) (silent_ends b0 c kind c.timeout q (still_none before c started h));
      began = λ z. absurd (omega arith);
      moved = h.moved;
      fit = left_fit conn (given_back conn.limit conn.free (permits_at conn.requests p)) (with_permits conn.requests p progress.Closed 0) conn.life p refl h.fit;
      hushed = λ shut_now. left_stopped conn.life p conn.waiting (hushed_still c kind refl h.hushed shut_now);
    }

-- a response timer fires
--
-- one whose request isn't open is of no account
stays_fired : (b : Book) (n m : ℕ) → slice_get b.timers n ≡ Some (purpose.Response (owner.Try m 0)) → is_open (b.story m) ≡ false → (k : ℕ) → after_event b k (event.Fired n) ≡ b.story k
stays_fired b n m is f k =
    ap (λ x. if_own (is_clock_of k x) (fires (b.story k)) (b.story k)) is
    ∙ chosen (λ (s : Story). s ≡ b.story k) (m == k) (fires (b.story k)) (b.story k)
    (λ t. left_if (is_open (b.story k)) _ (b.story k) (ap (λ x. is_open (b.story x)) (sym (eq_from m k t)) ∙ f))
    (λ o. refl)

-- whatever has become of it
pub late_applied : (before : List Action) (c : Core) (started : List ℕ) (word n m : ℕ) → Between before c started → is_bad c (event.Fired n) ≡ false → slice_get c.timers n ≡ Some (purpose.Response (owner.Try m 0))
    → HasApplied (before ++ turn_of c word (event.Fired n) ∷ []) (late_by (with_work (record { core = turned c (event.Fired n); acts = [] }) (record { conn = c.single.connection; acts = [] })) (slice_get c.table m)) started
late_applied before c started word n m h good is = by_entry (slice_get c.table m) refl (h.sound.tied.story m)
  where
    b : Book
    b = book before

    conn : MultiplexedConnection
    conn = c.single.connection

    work : Work
    work = record { conn = conn; acts = [] }

    still : is_open (b.story m) ≡ false → HasApplied (before ++ turn_of c word (event.Fired n) ∷ []) (with_work (record { core = turned c (event.Fired n); acts = [] }) work) started
    still f =
        let timer = ap (λ (ts : List Purpose). slice_get ts n) h.sound.tied.numbers.timers ∙ is in
        let q = late_silent b c started n (Some (purpose.Response (owner.Try m 0))) h.sound.tied is (λ k. refl) in
        silent_applied before c started word (event.Fired n) (turned c (event.Fired n)) conn h good (silent_ends b c (event.Fired n) c.timeout q (still_none before c started h)) (λ z. absurd (omega arith)) h.moved h.fit (hushed_still c (event.Fired n) refl h.hushed)
        (still_tied b c started word (event.Fired n) c.timeout q (stays_fired b n m timer f) h.sound.tied (tame_between before c started h))

    by_entry : (x : Option (Option Pending)) → slice_get c.table m ≡ x → TiedStory (b.story m) conn.requests c.single.link x
        → HasApplied (before ++ turn_of c word (event.Fired n) ∷ []) (late_by (with_work (record { core = turned c (event.Fired n); acts = [] }) work) x) started
    by_entry None e s = still (ap is_open s)
    by_entry (Some None) e s = still (answered_closed (b.story m) [] (outcome.Fault s.error) s.answered)
    by_entry (Some (Some p)) e s =
        let k = h.sound.tied.names.kept m p e in
        let named = name_of_some conn.requests p.number k.0 k.1 ∙ k.2 in
        let over = outcome.Fault (error.Io kinds.TimedOut) in
        let applied = λ (x : Work). HasApplied (before ++ turn_of c word (event.Fired n) ∷ []) (with_work (record { core = turned c (event.Fired n); acts = [] }) x) started in
        by_test (is_open_at conn.requests p.number) (applied (timed_out work p.number))
        (λ o.
        let gone : (if is_open_at conn.requests p.number then at_life work (cancelled_in conn.life p.number) else work) ≡ at_life work (cancelled_in conn.life p.number) = taken_if (is_open_at conn.requests p.number) _ work o in
        subst (λ (x : Work). applied (answered_in x p.number over)) (sym gone)
        (if_true applied (is_open_at conn.requests p.number) (acted (record { conn = closed (late_conn c p.number) p.number; acts = [] }) (act.Outcome (name_at conn.requests p.number) over)) (at_life work (cancelled_in conn.life p.number)) o
        (late_answered before c started word n p.number h good (is ∙ ap (λ x. Some (purpose.Response (owner.Try x 0))) (sym named)) o)))
        (λ f.
        let gone : (if is_open_at conn.requests p.number then at_life work (cancelled_in conn.life p.number) else work) ≡ work = left_if (is_open_at conn.requests p.number) _ work f in
        subst (λ (x : Work). applied (answered_in x p.number over)) (sym gone) (if_false applied (is_open_at conn.requests p.number) _ work f (still (s.open_is ∙ f))))

-- a time is set
--
pub time_applied : (before : List Action) (c : Core) (started : List ℕ) (word : ℕ) (ms : Option ℕ) → Between before c started → is_bad c (event.Timeout ms) ≡ false
    → HasApplied (before ++ turn_of c word (event.Timeout ms) ∷ []) (effect (counted c) (event.Timeout ms)) started
time_applied before c started word ms h good =
    let b = book before in
    let kind_is = h.sound.tied.numbers.kind_is in
    let shut = ap (λ s. s || false) h.sound.tied.numbers.shut in
    let set = λ (time : Option ℕ) (q : IsSilent b c (event.Timeout ms) time).
    silent_applied before c started word (event.Timeout ms) (silent_core c (event.Timeout ms) time) c.single.connection h good (silent_ends b c (event.Timeout ms) time q (still_none before c started h)) (λ z. absurd (omega arith)) h.moved h.fit (hushed_still c (event.Timeout ms) refl h.hushed)
    (still_tied b c started word (event.Timeout ms) time q (λ m. refl) h.sound.tied (tame_between before c started h)) in
    chosen (λ (x : Core). HasApplied (before ++ turn_of c word (event.Timeout ms) ∷ []) (record { core = x; acts = [] }) started) (has_timeouts c.kind) (silent_core c (event.Timeout ms) ms) (turned c (event.Timeout ms))
    (λ single. set ms (record { silent = λ m. refl; none = refl; time = single_time (kind_in b.config) b.timeout ms (ap has_timeouts kind_is ∙ single); shut = shut }))
    (λ other. set c.timeout (record { silent = λ m. refl; none = refl; time = other_time (kind_in b.config) b.timeout ms (ap has_timeouts kind_is ∙ other) ∙ h.sound.tied.numbers.timeout; shut = shut }))
  where
    single_time : (is : SessionKind) (old new : Option ℕ) → has_timeouts is ≡ true → timeout_after is old (event.Timeout new) ≡ new
    single_time session.Single old new e = refl
    single_time (session.Manager lazy) old new e = cc
    single_time session.PubSub old new e = cc
    single_time session.Monitor old new e = cc

    other_time : (is : SessionKind) (old new : Option ℕ) → has_timeouts is ≡ false → timeout_after is old (event.Timeout new) ≡ old
    other_time session.Single old new e = cc
    other_time (session.Manager lazy) old new e = refl
    other_time session.PubSub old new e = refl
    other_time session.Monitor old new e = refl
