-- An attempt to open the connection's link has failed, and another one follows: the connection is without a link.
use Rattle.std.proofs.Common.{◌≡◌, ◌≢◌, inl, inr, ℕ, ◌+◌, ◌-◌, ◌==◌, true, false, ◌||◌, List, [], ◌∷◌, ◌++◌, length, Option, Some, None, is_some, refl, sym, ap, ◌∙◌, subst, arith}
use Rattle.std.proofs.lemmas.List.{append-nil}
use Rattle.containers.proofs.Choices.{by_test, both_left, eq_from, left_if, ne_from, not_both}
use Rattle.redis_error.specs.declared.redis_error.RedisError.{RedisError}
use Rattle.driver_model.specs.declared.action.Action.{Action}
use Rattle.driver_model.specs.declared.action.Action.TheVariants as action
use Rattle.driver_model.specs.declared.action.Purpose.{Purpose}
use Rattle.driver_model.specs.declared.action.SourceUse.{SourceUse}
use Rattle.driver_model.specs.declared.event.EventKind.{EventKind}
use Rattle.driver_model.specs.declared.hearing.Hearing.{Hearing}
use Rattle.driver_model.specs.Hearing.{hears_pushes, hears_something}
use Rattle.driver_model.specs.News.{News, news_of, shut}
use Rattle.link_core.specs.Link.{LinkState}
use Rattle.mux_conn.specs.declared.act.LinkAct.{LinkAct}
use Rattle.mux_conn.specs.declared.act.LinkAct.TheVariants as act
use Rattle.mux_conn.specs.declared.request.Request.{Request}
use Rattle.mux_conn.specs.declared.request.Waiting.{Waiting}
use Rattle.mux_conn.specs.Connection.{Work}
use Rattle.mux_conn.specs.Effects.{afresh, given_up, opening_failed}
use Rattle.mux_conn.specs.Requests.{is_open_at, is_unbegun_at, is_waiting_at}
use Rattle.single_session.specs.declared.core_state.Core.{Core}
use Rattle.single_session.specs.Turn.{is_bad, is_shutdown, numbered, sources_of, timers_of, with_work}
use Rattle.legal_trace.specs.Book.{Book, blank_book, book, entered, hearing_in, if_mine}
use Rattle.legal_trace.specs.Ledger.{Ledger, by_attempt, by_opening, ending, ending_or_shutdown, ends, failure_in, is_cut, is_over, is_set_up, lasting, next_notice, noted, noted_each, renewal_count, renewals_asked, End, Ending, by_shutdown, by_fault, failure_of, is_fault}
use Rattle.legal_trace.specs.Legal.{AllStand, IsShown, is_attempt, is_by_attempt}
use Rattle.legal_trace.specs.Owed.{owed_unstarted, owed_by}
use Rattle.legal_trace.specs.Story.{Story}
use Rattle.conn_laws.proofs.Turn.Announce.{asked_hear, heard_starts, uses_hear}
use Rattle.session_laws.proofs.Turn.Announce.{turn_of, turned, IsNewsKind, aims_on, heard_book, uses_on, first_book, heard_is, others_heard}
use Rattle.conn_laws.proofs.Ties.Aside.{aside_ends, not_up_ends, over_not_asked}
use Rattle.session_laws.proofs.Internal.Served.{numbers_is}
use Rattle.session_laws.proofs.Managers.Comes.{tied_live}
use Rattle.conn_laws.proofs.Links.Creds.{down_sourced}
use Rattle.conn_laws.proofs.Links.Failing.{IsUnready, Fails}
use Rattle.session_laws.proofs.Links.Failing.{waiters_owed, failing_applied, setup_fails, setup_stands}
use Rattle.conn_laws.proofs.Requests.Going.{undue_asked}
use Rattle.conn_laws.proofs.Ties.Numbers.{IsIn}
use Rattle.conn_laws.proofs.Internal.Renewals.{down_renewed_due, early_renewal}
use Rattle.session_laws.proofs.Requests.Settle.{trace_of_acts, book_of_more}
use Rattle.session_laws.proofs.Ties.States.{Between, HasRetired, HasEffect}
use Rattle.conn_laws.proofs.Ties.Tied.{AreAside, AreUses, IsAside, TiedLines, link_in, no_link}
use Rattle.session_laws.proofs.Ties.Tied.{AfterFailedAttempt, Tied, inner, AreAimed}
use Rattle.legal_trace.specs.Managers.{is_lazy}
use Rattle.connection_info.specs.declared.address.RedisConnectionInfo.{RedisConnectionInfo}
use Rattle.session_laws.proofs.Turn.Heard.{going_awake, heard_by, book_news, book_kind}
use Rattle.conn_laws.proofs.Ties.Owes.{get_behind, is_asked}
use Rattle.conn_laws.proofs.Links.Said.{PushesOf}
use Rattle.session_laws.proofs.Ties.Kept.{mine_noted, others_kept}
use Rattle.conn_laws.proofs.Internal.Serving.{unready_serves}
use Rattle.conn_laws.proofs.Changes.Requests.{unbegun_waits}

-- the ledger of a link whose opening has failed, where another attempt follows: nothing of it is still to be told
pub record IsAttempted (l : Ledger) (heard : Hearing) : Type 0 where
  pub asked : l.asked ≡ true
  pub down : l.up ≡ false
  pub attempted : is_attempt l.end ≡ true
  pub told : hears_something heard ≡ true → next_notice l ≡ None
  pub starts : renewal_count l.starts ≡ 0

-- what ended as an attempt is over, and owes none anything, nor did it fail or end by a fault
attempt_over : (l : Ledger) → is_attempt l.end ≡ true → (is_over l ≡ true) × (owed_unstarted l.end ≡ None) × (failure_in l.end ≡ None) × (is_cut l.end ≡ false)
attempt_over l = by_end l.end
  where
    by_why : (why : Ending) → is_by_attempt why ≡ true → (owed_by why ≡ None) × (failure_of why ≡ None) × (is_fault why ≡ false)
    by_why by_shutdown e = cc
    by_why (by_fault f) e = cc
    by_why (by_opening x) e = cc
    by_why (by_attempt x) e = (refl, refl, refl)

    by_end : (end : Option End) → is_attempt end ≡ true → (is_some end ≡ true) × (owed_unstarted end ≡ None) × (failure_in end ≡ None) × (is_cut end ≡ false)
    by_end None e = cc
    by_end (Some end) e = let k = by_why end.why e in (refl, k.0, k.1, k.2)

-- no new credentials were to be told
none_asked : (l : Ledger) → l.up ≡ false → renewal_count l.starts ≡ 0 → renewals_asked l ≡ 0
none_asked l down none = undue_asked l (down_renewed_due l down) ∙ none

-- so it stands aside
attempt_aside : (links link : ℕ) (l : Ledger) (heard : Hearing) (within : Option ℕ) (created : ℕ) → links ≡ link + 1 → IsAttempted l heard → IsAside links link l heard within created
attempt_aside links link l heard within created one h =
    let over = attempt_over l h.attempted in
    let none = none_asked l h.down h.starts in
    record {
      down = h.down;
      over = λ less. over.0;
      unknown = λ past. absurd (omega arith);
      told = h.told;
      parts = λ y cut. absurd (not_both (is_cut l.end) over.3 cut);
      shown = λ e fails. (let no : ◌≡◌ {A = Option RedisError} None (Some e) = sym over.2 ∙ fails in cc);
      timed = λ some. omega arith;
      few = omega arith;
    }

-- all that the event does is shown
attempt_shown : (b now : Book) (c : Core) (started : List ℕ) (l : Ledger) → Tied b (inner c started) → started ≡ [] → ((n : ℕ) → now.story n ≡ b.story n) → now.config ≡ b.config → now.created ≡ b.created → now.link c.single.link ≡ l → IsAttempted l c.single.connection.hears
    → AreAside c.single.link c.links now.link c.single.connection.hears c.single.connection.renewal.within now.created → IsShown now
attempt_shown b now c started l h none same config created own a others =
    let mine = c.single.link in
    let over = attempt_over l a.attempted in
    let heard_is : hearing_in now.config ≡ c.single.connection.hears = ap hearing_in config ∙ h.notices.heard_is in
    record {
      answered = waiters_owed b now c started h none same (ap (λ (x : Ledger). x.asked) own ∙ a.asked) (ap (λ (x : Ledger). owed_unstarted x.end) own ∙ over.1);
      ended = λ m. by_test (m == mine) _
          (λ t. subst (λ i. ending (now.link i) ≡ None) (sym (eq_from m mine t)) (ap ending own ∙ not_up_ends l a.down (over_not_asked l over.0)))
          (λ o. aside_ends (now.link m) (others m (ne_from m mine o)));
      created = record {
        lazy = λ is none_shown. h.numbers.lazy (ap is_lazy (sym config) ∙ is) (sym created ∙ none_shown);
        shown = λ m ready. absurd (not_both (now.link m).up (down m) (both_left (now.link m).up (is_set_up (now.link m)) ready));
        failed = λ m e fails. by_test (m == mine) _
            (λ t. (let no : ◌≡◌ {A = Option RedisError} None (Some e) = sym (ap (λ i. failure_in (now.link i).end) (eq_from m mine t) ∙ ap (λ (x : Ledger). failure_in x.end) own ∙ over.2) ∙ fails in cc))
            (λ o. (others m (ne_from m mine o)).shown e fails);
      };
      pushed = λ m heard. by_test (m == mine) _
          (λ t. subst (λ i. next_notice (now.link i) ≡ None) (sym (eq_from m mine t)) (ap next_notice own ∙ a.told (ap hears_something (sym heard_is) ∙ heard)))
          (λ o. (others m (ne_from m mine o)).told (ap hears_something (sym heard_is) ∙ heard));
      parted = λ m heard cut. by_test (m == mine) _
          (λ t. absurd (not_both (is_cut (now.link m).end) (ap (λ i. is_cut (now.link i).end) (eq_from m mine t) ∙ ap (λ (x : Ledger). is_cut x.end) own ∙ over.3) cut))
          (λ o. (others m (ne_from m mine o)).parts (ap hears_pushes (sym heard_is) ∙ heard) cut);
      sourced = λ m. down_sourced (now.link m) (down m);
    }
  where
    down : (m : ℕ) → (now.link m).up ≡ false
    down m = by_test (m == c.single.link) _
        (λ t. ap (λ i. (now.link i).up) (eq_from m c.single.link t) ∙ ap (λ (x : Ledger). x.up) own ∙ a.down)
        (λ o. (others m (ne_from m c.single.link o)).down)

-- the lines of those that wait alone
alone_lines : (story : ℕ → Story) (requests : List Request) (link : LinkState) (waiting admitted : List Waiting) (started : List ℕ) → link ≡ no_link → admitted ≡ [] → started ≡ [] → TiedLines story requests link waiting admitted [] started → TiedLines story requests no_link waiting [] [] []
alone_lines story requests link waiting admitted started bare nobody none h =
    subst (λ (x : LinkState). TiedLines story requests x waiting [] [] []) bare
    (subst (λ (x : List Waiting). TiedLines story requests link waiting x [] []) nobody
    (subst (λ (x : List ℕ). TiedLines story requests link waiting admitted [] x) none h))

-- the session is so
pub retires : (before : List Action) (c : Core) (started : List ℕ) (word : ℕ) (kind : EventKind) (n : News) (acts : List LinkAct) (links : ℕ → Ledger) (placed : ℕ → Option ℕ) (since : ℕ → ℕ) (l : Ledger) → Between before c started → news_of c.timers c.sources c.single.link kind ≡ n → n ≢ shut → IsUnready (book before).created c.single.connection.life started
    → c.single.connection.last ≡ false → timers_of c.single.link acts ≡ [] → sources_of c.single.link acts ≡ [] → AreAside c.single.link c.links links c.single.connection.hears c.single.connection.renewal.within (book before).created → links c.single.link ≡ l → IsAttempted l c.single.connection.hears
    → AreUses c.sources c.single.link l.creds.asked l.creds.renews → AllStand blank_book (trace_of_acts (before ++ turn_of c word kind ∷ []) (turned c kind) acts)
    → book (trace_of_acts (before ++ turn_of c word kind ∷ []) (turned c kind) acts) ≡ record (heard_book (book before) c.turns word kind) { link = links; placed = placed; since = since }
    → HasRetired (before ++ turn_of c word kind ∷ []) (with_work (record { core = turned c kind; acts = [] }) (record { conn = afresh c.single.connection; acts = acts }))
retires before c started word kind n acts links placed since l h is other u last no_timers no_sources others own a uses stands book_is =
    let b = book before in
    let h0 = h.sound.tied in
    let conn = c.single.connection in
    let now = record (heard_book b c.turns word kind) { link = links; placed = placed; since = since } in
    let live = tied_live b (inner c started) h0 u.there u.alive in
    let unserving = unready_serves conn.life conn.again u.unready in
    let nobody : conn.admitted ≡ [] = h.fit.none unserving in
    let early : (p : ℕ) → is_open_at conn.requests p ≡ true → is_unbegun_at conn.requests p ≡ true = (h0.early unserving u.alive).unbegun in
    let waits : (p : ℕ) → is_open_at conn.requests p ≡ true → is_waiting_at conn.requests p ≡ true = λ p o. unbegun_waits conn.requests p (early p o) in
    let retiring : AfterFailedAttempt now (inner (numbered (with_work (record { core = turned c kind; acts = [] }) (record { conn = afresh conn; acts = acts }))).core []) = record {
      numbers = record {
        turns = ap (λ m. m + 1) h0.numbers.turns;
        links = h0.numbers.links;
        submissions = h0.numbers.submissions;
        timers = h0.numbers.timers ∙ sym (append-nil c.timers) ∙ ap (λ (ts : List Purpose). c.timers ++ ts) (sym no_timers);
        sources = h0.numbers.sources ∙ sym (append-nil c.sources) ∙ ap (λ (ss : List SourceUse). c.sources ++ ss) (sym no_sources);
        aims = subst (λ (ts : List Purpose). AreAimed (c.timers ++ ts) c.single.link (length c.table)) (sym no_timers) (aims_on c.timers c.single.link (length c.table) h0.numbers.aims);
        timed = h0.numbers.timed;
        timeout = h0.numbers.timeout;
        shut = ap (λ s. s || is_shutdown kind) h0.numbers.shut;
        within = h0.numbers.within;
        few = h0.numbers.few;
        settings = record { size_is = h0.numbers.settings.size_is; bound_is = h0.numbers.settings.bound_is; limit_is = h0.numbers.settings.limit_is; some = h0.numbers.settings.some; limited = h0.numbers.settings.limited };
        kind_is = h0.numbers.kind_is;
        quiet = λ w. let q = h0.numbers.quiet w in record { none = q.none; unwanted = q.unwanted; unrenewed = refl; unrepeated = refl };
        comes_back = h0.numbers.comes_back;
        lazy = h0.numbers.lazy;
        current_is = h0.numbers.current_is;
        speaks = ap (λ (i : RedisConnectionInfo). i.protocol) h0.numbers.address_is;
        address_is = h0.numbers.address_is;
        wants = h0.numbers.wants;
        alone = h0.numbers.alone;
      };
      rests = refl;
      comes = by_test (is_some c.manager) _ (λ t. t) (λ f. absurd (not_both conn.last last (h0.numbers.alone f)));
      placed = live.links;
      unopened = refl;
      unshut = going_awake c kind n is other u.there u.alive h.hushed;
      info_is = refl;
      attempted = ap (λ (x : Ledger). is_attempt x.end) own ∙ a.attempted;
      others = others;
      own = subst (λ (x : Ledger). IsAside c.links c.single.link x conn.hears conn.renewal.within b.created) (sym own) (attempt_aside c.links c.single.link l conn.hears conn.renewal.within b.created live.links a);
      heard_is = h0.notices.heard_is;
      calm = refl;
      creation = h0.creation;
      uses = subst (λ (x : Ledger). AreUses (c.sources ++ sources_of c.single.link acts) c.single.link x.creds.asked x.creds.renews) (sym own)
          (subst (λ (ss : List SourceUse). AreUses (c.sources ++ ss) c.single.link l.creds.asked l.creds.renews) (sym no_sources) (uses_on c.sources c.single.link uses));
      renewal = record { over_is = refl; came = refl; waits = refl; untimed = refl; unstarted = refl; unasked = refl; unpending = refl; told = refl; kept = refl; found = refl };
      repeat = refl;
      names = h0.names;
      story = h0.story;
      untried = λ p r e on. h0.tries.untried p r e (λ i. subst (IsIn p) u.none i) on;
      lines = alone_lines b.story conn.requests (link_in conn.life) conn.waiting conn.admitted started u.bare nobody u.none h0.lines;
      admitted = refl;
      moved = refl;
      pending = refl;
      started = refl;
      fresh = numbers_is conn.waiting;
      free = refl;
      being_admitted = refl;
      rounds_is = h0.rounds.rounds_is;
      waiting = early;
      holds = λ p o. h0.permits.none p (waits p o) (λ i. i);
      late = h0.late;
    } in
    record {
      stands = stands;
      retiring = subst (λ (x : Book). AfterFailedAttempt x (inner (numbered (with_work (record { core = turned c kind; acts = [] }) (record { conn = afresh conn; acts = acts }))).core [])) (sym book_is) retiring;
      shown = subst IsShown (sym book_is) (attempt_shown b now c started l h0 u.none (λ m. refl) refl refl own a others);
      began = λ z. absurd (omega arith);
      fit = record { wanting = λ link e. cc; setup = λ link greeting e. cc; link = λ link e. cc; none = λ no. refl };
    }

-- what closes a link whose opening must fail leaves such a ledger
closed_attempt : (b : Book) (c : Core) (started : List ℕ) (n : News) (x : RedisError) (turn : ℕ) → Tied b (inner c started) → IsUnready b.created c.single.connection.life started → c.single.connection.last ≡ false → ending (heard_by b c n) ≡ Some (by_opening x)
    → PushesOf (hearing_in b.config) c.single.connection.hears (heard_by b c n) → IsAttempted (noted (heard_by b c n) (ends turn)) c.single.connection.hears
closed_attempt b c started n x turn h u last must told =
    let conn = c.single.connection in
    let l0 = b.link c.single.link in
    let l = heard_by b c n in
    let keeps = asked_hear l0 c.turns n in
    let live = tied_live b (inner c started) h u.there u.alive in
    let ends_last : l.last ≡ false = keeps.last ∙ live.lasts ∙ last in
    record {
      asked = keeps.asked ∙ is_asked l0 b.created conn.life u.there h.life;
      down = refl;
      attempted = (λ i. is_by_attempt (lasting (ends_last i) (ending_or_shutdown (must i))));
      told = λ some. get_behind l.told l.notices (told.untold_is some);
      starts = ap renewal_count (heard_starts l0 c.turns n) ∙ (early_renewal l0 conn.renewal conn.life u.unready u.alive h.renewal).unstarted;
    }

-- so where it is closed, the session is without one
pub closed_retires : (before : List Action) (c : Core) (started : List ℕ) (word : ℕ) (kind : EventKind) (n : News) (x : RedisError) → Between before c started → is_bad c kind ≡ false → IsNewsKind c.timers kind → news_of c.timers c.sources c.single.link kind ≡ n → n ≢ shut → IsUnready (book before).created c.single.connection.life started
    → c.single.connection.last ≡ false → ending (heard_by (book before) c n) ≡ Some (by_opening x) → PushesOf (hearing_in (book before).config) c.single.connection.hears (heard_by (book before) c n)
    → AllStand blank_book (trace_of_acts (before ++ turn_of c word kind ∷ []) (turned c kind) (act.Close ∷ []))
    → HasRetired (before ++ turn_of c word kind ∷ []) (with_work (record { core = turned c kind; acts = [] }) (opening_failed (record { conn = c.single.connection; acts = act.Close ∷ [] }) x))
closed_retires before c started word kind n x h good k is other u last must told stands =
    let b = book before in
    let h0 = h.sound.tied in
    let conn = c.single.connection in
    let l0 = b.link c.single.link in
    let l = heard_by b c n in
    let f = turned c kind in
    let front = before ++ turn_of c word kind ∷ [] in
    let now = heard_book b c.turns word kind in
    let line = ends (now.turns - 1) in
    let close = action.Close c.single.link in
    let own : now.link c.single.link ≡ l = ap (heard_by b c) (book_news b c started kind n h0 is) in
    let links : ℕ → Ledger = λ m. noted_each (now.link m) (if_mine (c.single.link == m) line) in
    let closed : links c.single.link ≡ noted l line = mine_noted (now.link c.single.link) c.single.link line ∙ ap (λ (y : Ledger). noted y line) own in
    let first : book (trace_of_acts front f []) ≡ now = first_book before (turn_of c word kind) f ∙ heard_is b c.turns word kind (book_kind b c kind h0.numbers.timers k) in
    let book_is : book (trace_of_acts front f (act.Close ∷ [])) ≡ entered now close = book_of_more front f [] act.Close ∙ ap (λ (y : Book). entered y close) first in
    let w : Work = record { conn = conn; acts = act.Close ∷ [] } in
    subst (λ (y : Work). HasRetired front (with_work (record { core = f; acts = [] }) y)) (sym (left_if conn.last (given_up w x) (record w { conn = afresh conn }) last))
    (retires before c started word kind n (act.Close ∷ []) links (entered now close).placed now.since (noted l line) h is other u last refl refl (others_kept now c.single.link line (others_heard b c started kind b.created h0 good (λ some. some)))
    closed (closed_attempt b c started n x (now.turns - 1) h0 u last must told) (uses_hear c.sources c.single.link l0 c.turns n h0.uses) stands book_is)

-- a link that is closed before it is set up
--
-- the event has had its effect
pub setup_failed : (before : List Action) (c : Core) (started : List ℕ) (word : ℕ) (kind : EventKind) (n : News) (x : RedisError) → Between before c started → is_bad c kind ≡ false → IsNewsKind c.timers kind → news_of c.timers c.sources c.single.link kind ≡ n → n ≢ shut
    → IsUnready (book before).created c.single.connection.life started → Fails (heard_by (book before) c n) c.single.connection.info c.single.connection.renewal.wanted (hearing_in (book before).config) c.single.connection.hears x
    → HasEffect (before ++ turn_of c word kind ∷ []) (with_work (record { core = turned c kind; acts = [] }) (opening_failed (record { conn = c.single.connection; acts = act.Close ∷ [] }) x)) started
setup_failed before c started word kind n x h good k is other u fails = by_test c.single.connection.last _
    (λ last. inl (failing_applied (before ++ turn_of c word kind ∷ []) (turned c kind) (record { conn = c.single.connection; acts = act.Close ∷ [] }) x started (λ z. absurd (omega arith)) h.moved (setup_fails before c started word kind n x h good k is u fails last)))
    (λ more. inr (closed_retires before c started word kind n x h good k is other u more fails.must fails.notices (setup_stands before c started word kind n x h good k is u fails)))
