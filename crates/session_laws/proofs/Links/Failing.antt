-- The opening of the connection's link has failed, which is shown; and a link that is closed before it is set up.
use Rattle.std.proofs.Common.{◌≡◌, ◌≢◌, ℕ, ◌+◌, ◌-◌, ◌==◌, if◌then◌else◌, Bool, true, false, List, [], ◌∷◌, ◌++◌, length, Some, None, refl, sym, ap, ◌∙◌, subst, arith, ◌||◌, ◌<◌, Option}
use Rattle.std.proofs.lemmas.List.{append-nil}
use Rattle.containers.proofs.Choices.{by_test, left_if, both_left, both_right, eq_from, ne_from, not_both}
use Rattle.redis_error.specs.declared.redis_error.RedisError.{RedisError}
use Rattle.driver_model.specs.declared.action.Action.{Action}
use Rattle.driver_model.specs.declared.action.Action.TheVariants as action
use Rattle.driver_model.specs.declared.event.EventKind.{EventKind}
use Rattle.driver_model.specs.News.{News, news_of}
use Rattle.link_core.specs.Link.{LinkState}
use Rattle.mux_conn.specs.declared.act.LinkAct.{LinkAct}
use Rattle.mux_conn.specs.declared.act.LinkAct.TheVariants as act
use Rattle.mux_conn.specs.declared.connection.MultiplexedConnection.{MultiplexedConnection}
use Rattle.mux_conn.specs.declared.life.Life.TheVariants.{Ended}
use Rattle.mux_conn.specs.Connection.{Work}
use Rattle.mux_conn.specs.Effects.{opening_failed, waiting_failed}
use Rattle.mux_conn.specs.Requests.{name_at}
use Rattle.single_session.specs.declared.core_state.Core.{Core}
use Rattle.single_session.specs.Turn.{with_work, is_bad}
use Rattle.legal_trace.specs.Ledger.{Ledger, by_opening, ends, noted, noted_each, ending, ending_or_shutdown, failure_in, failure_of, is_ready, is_set_up, is_fault, next_notice, source_due, lasting}
use Rattle.legal_trace.specs.Story.{Story, bytes_of, is_open, last_of}
use Rattle.legal_trace.specs.Book.{Book, blank_book, book, entered, if_mine, hearing_in}
use Rattle.legal_trace.specs.Owed.{owed_by, owed_to_try, owed_unstarted, owed_waiting}
use Rattle.legal_trace.specs.Legal.{AllStand, FailuresAreShown, MayClose, MayFail, NoneEnds, ReadyIsShown, VerdictsAreShown, NoneIsOwed}
use Rattle.conn_laws.proofs.Requests.Rounded.{rounds_down}
use Rattle.conn_laws.proofs.Ties.Numbers.{IsIn}
use Rattle.conn_laws.proofs.Ties.Tied.{shown_creation, TiedLines}
use Rattle.session_laws.proofs.Ties.Tied.{inner, Tied}
use Rattle.session_laws.proofs.Ties.States.{Between, HasApplied}
use Rattle.session_laws.proofs.Ties.Entered.{all_stand-append, shown_more}
use Rattle.conn_laws.proofs.Links.Creds.{down_sourced}
use Rattle.conn_laws.proofs.Ties.Names.{get_some, name_of_some, open_within}
use Rattle.conn_laws.proofs.Ties.Owes.{get_behind, is_asked, owed_asked}
use Rattle.session_laws.proofs.Ties.Owes.{in_time, not_empty, open_request, request_story}
use Rattle.session_laws.proofs.Ties.Kept.{mine_noted, others_kept, replaced}
use Rattle.session_laws.proofs.Requests.Answer.{after_end}
use Rattle.conn_laws.proofs.Ties.Aside.{aside_ends, others_created, unfailed}
use Rattle.session_laws.proofs.Requests.Settle.{seen, sound_act, trace_of_acts, Holds, book_of_more}
use Rattle.conn_laws.proofs.Links.Close.{ended_waits, waiting_leaves, ends_so}
use Rattle.session_laws.proofs.Links.Close.{ended_applied, waiting_ends}
use Rattle.conn_laws.proofs.Turn.Announce.{heard_starts, uses_hear, timed_hear, asked_hear, heard_hearing}
use Rattle.session_laws.proofs.Turn.Announce.{turn_of, turned, IsNewsKind, first_book, heard_book, heard_is, heard_tied_by, may_turn, others_heard, uses_on}
use Rattle.session_laws.proofs.Turn.Heard.{heard_by, book_kind, book_news}
use Rattle.session_laws.proofs.Links.Said.{sources_asked}
use Rattle.conn_laws.proofs.Internal.Renewals.{renewal_ended}
use Rattle.driver_model.specs.Hearing.{hears_something}
use Rattle.session_laws.proofs.Managers.Comes.{tied_live, tied_unopened}
use Rattle.conn_laws.proofs.Internal.Held.{failed_served}
use Rattle.conn_laws.proofs.Links.Failing.{Fails, IsUnready, ended_so, given_up_is}

-- the failure is shown
--
-- a link whose opening has failed, and no attempt follows: where it wasn't told before, the session is tied to the book with what
-- shows it, and else to the book as it is
pub record IsFailing (trace : List Action) (f : Core) (acts : List LinkAct) (conn : MultiplexedConnection) (e : RedisError) (started : List ℕ) : Type 0 where
  pub stands : AllStand blank_book trace
  pub fails : failure_in ((book trace).link f.single.link).end ≡ Some e
  pub lasts : conn.last ≡ true
  pub unshown : conn.told ≡ false → (book trace).created ≡ 0
  pub first : conn.told ≡ false → (m : ℕ) → m < f.single.link → failure_in ((book trace).link m).end ≡ None
  pub tied : conn.told ≡ false → Tied (entered (book trace) (action.Created (Some e))) (seen f acts (record conn { life = Ended e; told = true }) [] started)
  pub again : conn.told ≡ true → Tied (book trace) (seen f acts (record conn { life = Ended e; told = true }) [] started)

-- it may be shown
failing_may : (trace : List Action) (f : Core) (acts : List LinkAct) (conn : MultiplexedConnection) (e : RedisError) (started : List ℕ) → conn.told ≡ false → IsFailing trace f acts conn e started → MayFail (book trace) e
failing_may trace f acts conn e started untold h = record {
  l = f.single.link;
  fails = h.fails;
  in_order = h.first untold;
  once = h.unshown untold;
  ended = over.0;
  answered = over.1;
  sourced = sources_asked (entered (book trace) (action.Created (Some e))) (seen f acts (record conn { life = Ended e; told = true }) [] started) (h.tied untold);
}
  where
    over : NoneEnds (book trace) × VerdictsAreShown (book trace) × FailuresAreShown (entered (book trace) (action.Created (Some e)))
    over = after_end (entered (book trace) (action.Created (Some e))) (seen f acts (record conn { life = Ended e; told = true }) [] started) (h.tied untold) refl

-- which is shown, where it wasn't told before
failing_shown : (before : List Action) (f : Core) (w : Work) (e : RedisError) (started : List ℕ) → IsFailing (trace_of_acts before f w.acts) f w.acts w.conn e started
    → Holds before f (ended_so w e) [] started
failing_shown before f w e started h = by_told w.conn.told refl
  where
    by_told : (x : Bool) → w.conn.told ≡ x → Holds before f (record { conn = record w.conn { life = Ended e; told = true }; acts = if x then w.acts else w.acts ++ act.Created (Some e) ∷ [] }) [] started
    by_told true told = record { stands = h.stands; tied = h.again told }
    by_told false untold =
        sound_act before f w.acts (act.Created (Some e)) (record w.conn { life = Ended e; told = true }) [] started h.stands (failing_may (trace_of_acts before f w.acts) f w.acts w.conn e started untold h) (h.tied untold)

-- and then those that wait are answered
pub failing_applied : (before : List Action) (f : Core) (w : Work) (e : RedisError) (started : List ℕ) → f.turns ≢ 0 → w.conn.moved ≡ [] → IsFailing (trace_of_acts before f w.acts) f w.acts w.conn e started
    → HasApplied before (with_work (record { core = f; acts = [] }) (opening_failed w e)) started
failing_applied before f w e started began none_moved h =
    let v = ended_so w e in
    subst (λ (x : Work). HasApplied before (with_work (record { core = f; acts = [] }) x) started) (sym (given_up_is w e h.lasts))
    (ended_applied before f (waiting_failed v e) e started began ((waiting_leaves v e).moved ∙ none_moved) (waiting_ends before f v e started (failing_shown before f w e started h) refl))

-- a link that is closed before it is set up
--
-- no message of a request has started, so none is owed anything, where the end of its link owes none
pub waiters_owed : (b now : Book) (c : Core) (started : List ℕ) → Tied b (inner c started) → started ≡ [] → ((n : ℕ) → now.story n ≡ b.story n) → (now.link c.single.link).asked ≡ true → owed_unstarted (now.link c.single.link).end ≡ None → NoneIsOwed now
waiters_owed b now c started h none same there unowed n asked =
    let t = inner c started in
    let r = open_request b t n h (ap is_open (sym (same n)) ∙ asked) in
    let p = r.number in
    let within = open_within t.requests p r.open_at in
    let q = request_story b t p h within in
    let g = get_some t.requests p within in
    let is : now.story n ≡ b.story (name_at t.requests p) = same n ∙ ap b.story (sym r.named) in
    let early : (now.story n).late ≡ false = ap (λ (x : Story). x.late) is ∙ q.in_time in
    let spoken : (now.story n).unspoken ≡ false = ap (λ (x : Story). x.unspoken) is ∙ q.spoken in
    let some : bytes_of (now.story n) ≢ [] = λ e. q.some (ap bytes_of (sym is) ∙ e) in
    let punctual : (now.story n).overdue ≡ false = ap (λ (x : Story). x.overdue) is ∙ in_time b t p h r.open_at (λ i. i) in
    let untried : (now.story n).tries ≡ [] = ap (λ (x : Story). x.tries) is ∙ ap (λ m. (b.story m).tries) (name_of_some t.requests p g.0 g.1) ∙ h.tries.untried p g.0 g.1 (λ i. subst (IsIn p) none i) (sym (ap (λ m. (b.story m).link) (name_of_some t.requests p g.0 g.1)) ∙ q.on r.open_at) in
    left_if (now.story n).late _ _ early ∙ left_if (now.story n).unspoken _ _ spoken ∙ left_if (length (bytes_of (now.story n)) == 0) _ _ (not_empty (bytes_of (now.story n)) some) ∙ left_if (now.story n).overdue _ (owed_to_try now (now.story n) (last_of (now.story n).tries)) punctual
    ∙ ap (λ ts. owed_to_try now (now.story n) (last_of ts)) untried ∙ ap (λ m. owed_waiting now.shut (now.link m)) (ap (λ (x : Story). x.link) is ∙ q.on r.open_at) ∙ owed_asked now.shut (now.link c.single.link) there ∙ unowed

-- also while it has none
pub unstarted_owed : (b now : Book) (c : Core) (started : List ℕ) → Tied b (inner c started) → started ≡ [] → ((n : ℕ) → now.story n ≡ b.story n) → (now.link c.single.link).asked ≡ true → (now.link c.single.link).end ≡ None → VerdictsAreShown now
unstarted_owed b now c started h none same there alive n asked on = waiters_owed b now c started h none same there (ap owed_unstarted alive) n asked

-- a link that isn't set up isn't ready, nor is any other
pub unready_shown : (now : Book) (link : ℕ) (l : Ledger) → now.link link ≡ l → ((m : ℕ) → m ≢ link → (now.link m).up ≡ false) → is_set_up l ≡ false → ReadyIsShown now
unready_shown now link l own others unready m ready = by_test (m == link) _
    (λ same. absurd (not_both (is_set_up l) unready (ap is_set_up (sym own) ∙ both_right (now.link link).up (is_set_up (now.link link)) (subst (λ i. is_ready (now.link i) ≡ true) (eq_from m link same) ready))))
    (λ other. absurd (not_both (now.link m).up (others m (ne_from m link other)) (both_left (now.link m).up (is_set_up (now.link m)) ready)))

-- it is closed
pub setup_stands : (before : List Action) (c : Core) (started : List ℕ) (word : ℕ) (kind : EventKind) (n : News) (x : RedisError) → Between before c started → is_bad c kind ≡ false → IsNewsKind c.timers kind → news_of c.timers c.sources c.single.link kind ≡ n
    → IsUnready (book before).created c.single.connection.life started → Fails (heard_by (book before) c n) c.single.connection.info c.single.connection.renewal.wanted (hearing_in (book before).config) c.single.connection.hears x
    → AllStand blank_book (trace_of_acts (before ++ turn_of c word kind ∷ []) (turned c kind) (act.Close ∷ []))
setup_stands before c started word kind n x h good k is u fails =
    let b = book before in
    let h0 = h.sound.tied in
    let conn = c.single.connection in
    let l0 = b.link c.single.link in
    let l = heard_by b c n in
    let f = turned c kind in
    let front = before ++ turn_of c word kind ∷ [] in
    let now = heard_book b c.turns word kind in
    let close = action.Close c.single.link in
    let own : now.link c.single.link ≡ l = ap (heard_by b c) (book_news b c started kind n h0 is) in
    let others = others_heard b c started kind b.created h0 good (λ some. some) in
    let asked : l.asked ≡ true = (asked_hear l0 c.turns n).asked ∙ is_asked l0 b.created conn.life u.there h0.life in
    let first : book (trace_of_acts front f []) ≡ now = first_book before (turn_of c word kind) f ∙ heard_is b c.turns word kind (book_kind b c kind h0.numbers.timers k) in
    let shown : trace_of_acts front f (act.Close ∷ []) ≡ trace_of_acts front f [] ++ close ∷ [] = shown_more front c.single.link (length f.timers) (length f.sources) [] act.Close in
    let all : AllStand blank_book (trace_of_acts front f []) = subst (AllStand blank_book) (sym (append-nil front)) (all_stand-append before (turn_of c word kind ∷ []) h.sound.stands (may_turn before c started word kind h good, tt)) in
    let may : MayClose now c.single.link = record {
      why = by_opening x;
      ends = ap ending own ∙ fails.must;
      in_order = λ m less. aside_ends (now.link m) (others m (λ same. omega arith));
      answered = unstarted_owed b now c started h0 u.none (λ m. refl) (ap (λ (y : Ledger). y.asked) own ∙ asked) (ap (λ (y : Ledger). y.end) own ∙ fails.alive);
      created = unready_shown now c.single.link l own (λ m other. (others m other).down) fails.unready;
      sourced = λ m. by_test (m == c.single.link) _
          (λ same. subst (λ i. source_due (now.link i) ≡ false) (sym (eq_from m c.single.link same)) (ap source_due own ∙ fails.sourced))
          (λ other. down_sourced (now.link m) (others m (ne_from m c.single.link other)).down);
      pushed = λ m heard. by_test (m == c.single.link) _
          (λ same. subst (λ i. next_notice (now.link i) ≡ None) (sym (eq_from m c.single.link same)) (ap next_notice own ∙ get_behind l.told l.notices (fails.notices.untold_is (ap hears_something (sym fails.notices.heard_is) ∙ heard))))
          (λ other. (others m (ne_from m c.single.link other)).told (ap hears_something (sym fails.notices.heard_is) ∙ heard));
    } in
    subst (AllStand blank_book) (sym shown) (all_stand-append (trace_of_acts front f []) (close ∷ []) all (subst (λ (y : Book). MayClose y c.single.link) (sym first) may, tt))

-- its opening has failed, where no other attempt follows
pub setup_fails : (before : List Action) (c : Core) (started : List ℕ) (word : ℕ) (kind : EventKind) (n : News) (x : RedisError) → Between before c started → is_bad c kind ≡ false → IsNewsKind c.timers kind → news_of c.timers c.sources c.single.link kind ≡ n
    → IsUnready (book before).created c.single.connection.life started → Fails (heard_by (book before) c n) c.single.connection.info c.single.connection.renewal.wanted (hearing_in (book before).config) c.single.connection.hears x
    → c.single.connection.last ≡ true → IsFailing (trace_of_acts (before ++ turn_of c word kind ∷ []) (turned c kind) (act.Close ∷ [])) (turned c kind) (act.Close ∷ []) c.single.connection x started
setup_fails before c started word kind n x h good k is u fails lasts =
    let b = book before in
    let h0 = h.sound.tied in
    let conn = c.single.connection in
    let l0 = b.link c.single.link in
    let l = heard_by b c n in
    let f = turned c kind in
    let front = before ++ turn_of c word kind ∷ [] in
    let now = heard_book b c.turns word kind in
    let line = ends (now.turns - 1) in
    let close = action.Close c.single.link in
    let own : now.link c.single.link ≡ l = ap (heard_by b c) (book_news b c started kind n h0 is) in
    let others = others_heard b c started kind b.created h0 good (λ some. some) in
    let links : ℕ → Ledger = λ m. noted_each (now.link m) (if_mine (c.single.link == m) line) in
    let keeps = asked_hear l0 c.turns n in
    let asked : l.asked ≡ true = keeps.asked ∙ is_asked l0 b.created conn.life u.there h0.life in
    let live = tied_live b (inner c started) h0 u.there u.alive in
    let why : lasting l.last (ending_or_shutdown (ending l)) ≡ by_opening x = ends_so l (by_opening x) (ap (λ y. lasting y (by_opening x)) (keeps.last ∙ live.lasts ∙ lasts)) fails.must in
    let closed : links c.single.link ≡ noted l line = mine_noted (now.link c.single.link) c.single.link line ∙ ap (λ (y : Ledger). noted y line) own in
    let t = seen f (act.Close ∷ []) (record conn { life = Ended x; told = true }) [] started in
    let tied : (created : ℕ) (halted : Bool) → created ≢ 0 → Tied (record (entered now close) { created = created; failed = halted }) t = λ created halted some. replaced (record now { created = created; failed = halted; link = links }) t (entered now close).placed now.since
    (heard_tied_by b c started word created halted true conn.opened kind conn.info (Ended x) conn.fresh [] [] links (noted l line) b.sources (c.sources ++ []) h0 (record { before = λ z. cc; after = λ z. some }) (λ z. some)
    (others_created c.single.link created _ (λ z. some) (others_kept now c.single.link line others)) closed (h0.numbers.sources ∙ sym (append-nil c.sources)) (uses_on c.sources c.single.link (uses_hear c.sources c.single.link l0 c.turns n h0.uses))
    (record {
      starts = heard_starts l0 c.turns n;
      hearing_kept = heard_hearing l0 c.turns n;
      spoken = refl;
      course = (
        live.links,
        live.begun,
        record {
          failed = λ new awake none. (let no : ◌≡◌ {A = Option RedisError} None (Some x) = sym none ∙ ap failure_of why in cc);
          unfailed = λ was. absurd (not_both conn.opened (tied_unopened b (inner c started) h0 u.unready u.alive) was);
        },
      );
      lived = (refl, ap owed_by why, λ y shown. some, asked);
      creds = record { wanted_is = fails.wanted_is; sought = tt };
      renewal_is = renewal_ended l0 (noted l line) conn.renewal conn.life (timed_hear l0 c.turns n) (heard_starts l0 c.turns n) h0.renewal;
      repeat_is = failed_served (noted l line).end conn.again x (ap failure_of why);
      said = record { info_is = fails.info_is; sent = fails.sent; said = tt };
      linked = λ z. cc;
      lines = subst (λ (y : LinkState). TiedLines b.story conn.requests y conn.waiting conn.admitted [] started) u.bare h0.lines;
      told = λ z. cc;
      waits = ended_waits b.story conn.requests conn.again conn.life x conn.fresh conn.moved h0.waits;
      rounds = rounds_down b.story conn.requests conn.fresh conn.fresh refl h0.rounds;
      early = λ unready alive. cc;
      notices = record {
        heard_is = fails.notices.heard_is;
        hearing_is = fails.notices.hearing_is;
        within = fails.notices.within;
        untold_is = fails.notices.untold_is;
        parts = λ heard done cut. absurd (not_both (is_fault (by_opening x)) refl (sym (ap is_fault why) ∙ cut));
        alive = λ none. cc;
        due = fails.notices.due;
        tame = λ none r. cc;
      };
    })) in
    let first : book (trace_of_acts front f []) ≡ now = first_book before (turn_of c word kind) f ∙ heard_is b c.turns word kind (book_kind b c kind h0.numbers.timers k) in
    let trace = trace_of_acts front f (act.Close ∷ []) in
    let book_is : book trace ≡ entered now close = book_of_more front f [] act.Close ∙ ap (λ (y : Book). entered y close) first in
    record {
      stands = setup_stands before c started word kind n x h good k is u fails;
      lasts = lasts;
      fails = ap (λ (y : Book). failure_in (y.link c.single.link).end) book_is ∙ ap (λ (y : Ledger). failure_in y.end) closed ∙ ap failure_of why;
      unshown = λ untold. ap (λ (y : Book). y.created) book_is ∙ h0.creation.before untold;
      first = λ untold m less. ap (λ (y : Book). failure_in (y.link m).end) book_is ∙ unfailed (links m) (others_kept now c.single.link line others m (λ same. omega arith)) (h0.creation.before untold);
      tied = λ untold. subst (λ (y : Book). Tied (entered y (action.Created (Some x))) t) (sym book_is)
          (replaced (record (entered now close) { created = b.created + 1; failed = b.failed || true }) t (entered (entered now close) (action.Created (Some x))).placed now.since (tied (b.created + 1) (b.failed || true) ((shown_creation b.created).after refl)));
      again = λ told. subst (λ (y : Book). Tied y t) (sym book_is) (tied b.created b.failed (h0.creation.after told));
    }
