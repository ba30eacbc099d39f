-- A link comes up: it is ready, or what is said to its server first is to start.
use Rattle.std.specs.List.{AllByRecursion}
use Rattle.std.proofs.Common.{inl, inr, length, ◌==◌, ◌≡◌, ℕ, ◌+◌, true, false, ◌&&◌, ◌||◌, List, [], ◌∷◌, ◌++◌, Option, None, refl, sym, ap, ◌∙◌, subst, arith, ◌≢◌, Some, Bool, if◌then◌else◌, not}
use Rattle.containers.proofs.Choices.{chosen, left_if, not_both, taken_if}
use Rattle.driver_model.specs.declared.action.Action.{Action}
use Rattle.driver_model.specs.declared.action.Action.TheVariants as action
use Rattle.driver_model.specs.declared.action.SourceUse.TheVariants as source
use Rattle.driver_model.specs.declared.action.WaitKind.{WaitKind}
use Rattle.driver_model.specs.declared.action.WaitKind.TheVariants as wait
use Rattle.driver_model.specs.declared.event.EventKind.{EventKind}
use Rattle.driver_model.specs.News.{News, news_of, shut}
use Rattle.connection_info.specs.declared.address.RedisConnectionInfo.{RedisConnectionInfo}
use Rattle.connection_setup.specs.Setup.{setup}
use Rattle.driver_model.specs.Setup.{says_nothing}
use Rattle.link_core.specs.declared.message.Queued.{Queued}
use Rattle.link_core.specs.declared.message.Entry.{Entry}
use Rattle.link_core.specs.Link.{LinkState, enqueued}
use Rattle.link_laws.proofs.TiedLink.{enqueued_tied, said_tied}
use Rattle.link_laws.specs.Settles.{wanted, awaited_ids}
use Rattle.mux_conn.specs.declared.act.LinkAct.TheVariants as act
use Rattle.mux_conn.specs.declared.life.Life.{Life}
use Rattle.mux_conn.specs.declared.life.Life.TheVariants.{Resting, Dialing, Wanting, SettingUp, Ready, Ended}
use Rattle.mux_conn.specs.Requests.{is_waiting_at}
use Rattle.mux_conn.specs.Effects.{all_fresh, come_up, made_ready, sets_up, setup_queued, steps_of, numbers_of, greeted, setup_id}
use Rattle.mux_conn.specs.Turn.{early_wait}
use Rattle.mux_conn.specs.Connection.{Work, is_ready, acted, opened_on, is_resting}
use Rattle.mux_conn.specs.Renewals.{source_asked}
use Rattle.mux_conn.specs.declared.connection.MultiplexedConnection.{MultiplexedConnection}
use Rattle.single_session.specs.declared.core_state.Core.{Core}
use Rattle.single_session.specs.Turn.{with_work, is_bad}
use Rattle.legal_trace.specs.Ledger.{Ledger, Heard, ending, ending_unready, ending_up, is_ready as is_ready_link, lacks_credentials, setup_after, setup_count, setup_steps, noted, noted_each, sources, source_due}
use Rattle.legal_trace.specs.Book.{Book, blank_book, book, entered, use_for, if_mine, hearing_in, has_generations}
use Rattle.legal_trace.specs.Legal.{AllStand, MayBeCreated, MayNeed}
use Rattle.legal_trace.proofs.Setups.{ends_where_set, silent_is_set, silent_is_greeted}
use Rattle.session_laws.proofs.Internal.Served.{fresh_rises, numbers_is}
use Rattle.conn_laws.proofs.Requests.Rounded.{rounds_down, rounds_new, early_on}
use Rattle.conn_laws.proofs.Changes.Requests.{unbegun_waits, waiting_open}
use Rattle.conn_laws.proofs.Links.Server.{AreSetups, HasCredentials, IsSettingUp, IsSetupDue, IsSetUp, IsWatching, greeting_at, watch_queued}
use Rattle.conn_laws.proofs.Ties.Tied.{shown_creation, TiedCreation, AreQueued, TiedLines, TiedNotices, TiedWaits, has_ended, link_in, no_link, owner_of, queue_ids, shown_wait, waiting_ids, AreUses, is_reading, TiedRounds}
use Rattle.session_laws.proofs.Ties.Tied.{Sound, TurnState, Tied, inner, is_begun}
use Rattle.conn_laws.proofs.Ties.States.{IsFit, IsFitIn}
use Rattle.session_laws.proofs.Ties.States.{Between, HasApplied}
use Rattle.conn_laws.proofs.Links.Creds.{has_credentials, IsOfRenewals, down_sourced}
use Rattle.conn_laws.proofs.Links.Said.{PushesOf, ending_setting, readied, setup_recredited, well_readied}
use Rattle.session_laws.proofs.Ties.Entered.{all_stand-append, book_more, sound_more, book-append}
use Rattle.session_laws.proofs.Requests.Settle.{Tells, seen, trace_of_acts}
use Rattle.conn_laws.proofs.Ties.Numbers.{IsIn, requests_in}
use Rattle.conn_laws.proofs.Turn.Announce.{heard_starts, renews_hear, heard_hearing, asked_hear}
use Rattle.session_laws.proofs.Turn.Announce.{IsNewsKind, comes_as, heard_book, heard_is, heard_tied, may_turn, turn_of, turned, ComesTo, heard_tied_by, others_heard, uses_asked, uses_more, protocol_still}
use Rattle.conn_laws.proofs.Turn.Heard.{none_hears}
use Rattle.session_laws.proofs.Turn.Heard.{book_kind, book_news, fresh_applied, heard_by, none_ends, hushed_there, going_awake}
use Rattle.conn_laws.proofs.Internal.Renewals.{early_renewal, renewed_first}
use Rattle.session_laws.proofs.Ties.Kept.{mine_noted, others_kept, replaced}
use Rattle.std.proofs.lemmas.List.{append-nil, nil_from_length}
use Rattle.session_laws.proofs.Links.Failing.{unstarted_owed}
use Rattle.mux_conn.specs.declared.life.Greeting.TheVariants as greet
use Rattle.driver_model.specs.Hearing.{is_watching}
use Rattle.session_laws.proofs.Managers.Comes.{tied_live, tied_unopened}
use Rattle.conn_laws.proofs.Internal.Serving.{unready_serves}
use Rattle.session_laws.proofs.Internal.Held.{held_hears}
use Rattle.conn_laws.proofs.Internal.Repeats.{held_alike, held_ready}
use Rattle.conn_laws.proofs.Links.ComeUp.{IsEarly, IsMade, IsUpNow, bare_alone, bare_lines, early_sources, early_started, made_conn, none_wait, not_resubscribing, says_same}

-- the waits
--
-- who waits for the connection is one of them
bare_waits : (b : Book) (t : TurnState) (p : ℕ) → Tied b t → t.pending ≡ [] → t.admitted ≡ [] → link_in t.life ≡ no_link → is_waiting_at t.requests p ≡ true → IsIn p (waiting_ids t.waiting)
bare_waits b t p h none nobody e w =
    elim (h.lines.there p (waiting_open t.requests p w)) [
      | inl i ↦ absurd (subst (λ (x : LinkState). IsIn p ([] ++ (requests_in (wanted x.row) ++ awaited_ids x.queue))) e (subst (λ ns. IsIn p (ns ++ (requests_in (wanted (link_in t.life).row) ++ awaited_ids (link_in t.life).queue))) none i))
      | inr k ↦ elim k [ inl a ↦ absurd (subst (λ ws. IsIn p (waiting_ids ws)) nobody a.1) | inr x ↦ x.1 ]
    ]

-- so all whose rounds have not begun come anew
anew_rounds : {ready : Bool} (b : Book) (t : TurnState) → Tied b t → t.pending ≡ [] → t.admitted ≡ [] → link_in t.life ≡ no_link → TiedRounds (has_generations b) b.story t.requests ready (numbers_of t.waiting) t.rounds
anew_rounds b t h none nobody bare = rounds_new b.story t.requests t.fresh (numbers_of t.waiting)
    (λ p shows up u. subst (IsIn p) (sym (numbers_is t.waiting)) (bare_waits b t p h none nobody bare (unbegun_waits t.requests p u))) h.rounds

-- where no wait is to be shown, who waits for the connection has shown what it waits for
shown_early : (b : Book) (t : TurnState) (p : ℕ) (life : Life) → Tied b t → t.fresh ≡ [] → t.life ≡ life → is_ready life ≡ false → has_ended life ≡ false → is_waiting_at t.requests p ≡ true → shown_wait b.story t.requests p ≡ Some (early_wait life)
shown_early b t p Resting h none e f g w = elim (h.waits.backoff p w e) [ inl i ↦ absurd (subst (IsIn p) none i) | inr s ↦ s ]
shown_early b t p Dialing h none e f g w = elim (h.waits.connect p w e) [ inl i ↦ absurd (subst (IsIn p) none i) | inr s ↦ s ]
shown_early b t p (Wanting link) h none e f g w = elim (h.waits.creds p link w e) [ inl i ↦ absurd (subst (IsIn p) none i) | inr s ↦ s ]
shown_early b t p (SettingUp link greeting) h none e f g w = elim (h.waits.setup p link greeting w e) [ inl i ↦ absurd (subst (IsIn p) none i) | inr s ↦ s ]
shown_early b t p (Ready link) h none e f g w = cc
shown_early b t p (Ended x) h none e f g w = cc

-- one wait is no other
same_kind : (a b : WaitKind) → ◌≡◌ {A = Option WaitKind} (Some a) (Some b) → a ≡ b
same_kind a b e = cc

-- the waits in a life in which something else is waited for, where all that waited are to show theirs anew
pub fresh_waits : (b : Book) (t : TurnState) (life after : Life) → Tied b t → t.pending ≡ [] → t.admitted ≡ [] → t.fresh ≡ [] → t.life ≡ life → link_in life ≡ no_link → is_ready life ≡ false → has_ended life ≡ false → early_wait life ≢ early_wait after → is_resting after ≡ false
    → (link_in after).queue ≡ [] → TiedWaits b.story t.requests t.again after (numbers_of t.waiting) t.moved
fresh_waits b t life after h none nobody no_fresh e bare f g other goes queue = record {
  early = h.waits.early;
  backoff = λ p w d. inl (here p w);
  connect = λ p w d. inl (here p w);
  creds = λ p x w d. inl (here p w);
  setup = λ p x u w d. inl (here p w);
  resubscribe = λ p x w d goes. inl (here p w);
  permit = λ p x w d none. inl (here p w);
  place = h.waits.place;
  room = λ p i. absurd (subst (λ (qs : List Queued). IsIn p (awaited_ids qs)) queue i);
  newer = fresh_rises b t h;
  rising = h.waits.rising;
  no_backoff = λ p i w d. absurd (not_both (is_resting after) goes (ap is_resting d));
  no_connect = λ p i w d. anew p w wait.Connect (ap early_wait d);
  no_creds = λ p x i w d. anew p w wait.Creds (ap early_wait d);
  no_setup = λ p x u i w d. anew p w wait.Setup (ap early_wait d);
  no_resubscribe = λ p x i w d goes shown. not_resubscribing life (same_kind (early_wait life) wait.Resubscribe (sym (shown_early b t p life h no_fresh e f g w) ∙ shown));
  unpermitted = λ p x w d goes. anew p w wait.Permit (ap early_wait d);
  no_permit = λ p x i w d none. anew p w wait.Permit (ap early_wait d);
  no_place = h.waits.no_place;
  seatless = h.waits.seatless;
  no_room = λ p i r. absurd (subst (λ (qs : List Queued). IsIn p (awaited_ids qs)) queue r);
}
  where
    here : (p : ℕ) → is_waiting_at t.requests p ≡ true → IsIn p (numbers_of t.waiting)
    here p w = subst (IsIn p) (sym (numbers_is t.waiting)) (bare_waits b t p h none nobody (ap link_in e ∙ bare) w)

    anew : (p : ℕ) → is_waiting_at t.requests p ≡ true → (k : WaitKind) → early_wait after ≡ k → shown_wait b.story t.requests p ≢ Some k
    anew p w k is shown = other (same_kind (early_wait life) k (sym (shown_early b t p life h no_fresh e f g w) ∙ shown) ∙ sym is)

-- a link is ready
--
-- which is shown
pub record IsShownReady (front : List Action) (f : Core) (w : Work) (l : Ledger) (untold : List Heard) (started : List ℕ) : Type 0 where
  pub holds : Tells front f w untold [] started
  pub ledger : (book (trace_of_acts front f w.acts)).link f.single.link ≡ l

-- what is known of a link that becomes ready, which wasn't before, and to whose server this is said
pub record IsReadied (b : Book) (c : Core) (l : Ledger) (info : RedisConnectionInfo) (link : LinkState) (untold : List Heard) : Type 0 where
  pub info_is : l.info ≡ info
  pub sent : AreSetups l
  pub wanted_is : l.creds.wanted ≡ c.single.connection.renewal.wanted
  pub has : HasCredentials l.creds
  pub made : IsMade l b.created c.single.connection.requests link
  pub notices : TiedNotices (hearing_in b.config) c.single.connection.hears l.hearing l.notices l.told l.end l.parted l.strange (is_reading l) untold false

-- what the session needs of it, also where a second source is asked for
readied_comes : (b : Book) (c : Core) (started : List ℕ) (n : News) (info : RedisConnectionInfo) (link : LinkState) (untold : List Heard) (more : Bool) (created : ℕ) → created ≢ 0 → Tied b (inner c started) → IsFitIn c.single.connection → c.single.connection.fresh ≡ [] → (IsOfRenewals n → ⊥) → IsEarly c.single.connection.life wait.Permit
    → (let l = heard_by b c n in IsReadied b c l info link untold → info.protocol ≡ c.single.connection.info.protocol → l.creds.wanted ≡ more → (more ≡ true → l.creds.asked ≡ true)
    → ComesTo b c (readied more l) created true info (Ready link) (numbers_of c.single.connection.waiting) [] untold started)
readied_comes b c started n info link untold more created some_created h0 fit no_fresh other early facts spoken needs some =
    let conn = c.single.connection in
    let l = heard_by b c n in
    let made = facts.made in
    let asked = if more then true else l.creds.asked in
    let renews = if more then l.creds.asked else l.creds.renews in
    let nobody = fit.none (unready_serves conn.life conn.again early.unready) in
    let none = none_hears (b.link c.single.link) c.turns n conn.renewal other (early_renewal (b.link c.single.link) conn.renewal conn.life early.unready early.alive h0.renewal) in
    let once : l.creds.renews ≡ false = renews_hear (b.link c.single.link) c.turns n ∙ early_sources (b.link c.single.link).creds conn.life early.unready early.alive h0.creds.sought in
    let said = setup_recredited l asked renews l.creds.renewals l.creds.over l.creds.timed l.creds.lost info started link (record { info_is = facts.info_is; sent = facts.sent; said = made.said }) in
    let live = tied_live b (inner c started) h0 early.there early.alive in
    record {
      starts = heard_starts (b.link c.single.link) c.turns n;
      hearing_kept = heard_hearing (b.link c.single.link) c.turns n;
      spoken = spoken;
      lived = (made.asked, made.up, made.alive, some_created);
      course = (live.links, live.begun, refl, (asked_hear (b.link c.single.link) c.turns n).last ∙ live.lasts);
      creds = record {
        wanted_is = facts.wanted_is;
        sought = (
          elim facts.has [ inl unwanted ↦ inl unwanted | inr come ↦ inr (chosen (λ (x : Bool). x ≡ true) more true l.creds.asked (λ t. refl) (λ f. come.0), come.1) ],
          chosen (λ (x : Bool). x ≡ l.creds.wanted) more l.creds.asked l.creds.renews (λ t. some t ∙ sym (needs ∙ t)) (λ f. once ∙ sym (needs ∙ f)),
        );
      };
      renewal_is = renewed_first (readied more l) conn.renewal (record {
        over_is = none.over_is;
        came = none.came;
        waits = none.waits;
        untimed = none.untimed;
        unstarted = none.unstarted;
        unasked = none.unasked;
        unpending = none.unpending;
        told = none.told;
        kept = none.kept;
        found = none.found;
      });
      repeat_is = held_ready (readied more l) b.tracked conn.renewal.within conn.again (held_alike l (readied more l) b.tracked conn.renewal.within conn.again refl refl (held_hears b c started n h0 early.there early.unready early.alive));
      said = said;
      linked = λ z. said_tied (owner_of conn.requests) l link l.info (readied more l).creds l.heard made.tied;
      lines = bare_lines b.story conn.requests link conn.waiting conn.admitted started made.queue made.row (subst (λ (x : LinkState). TiedLines b.story conn.requests x conn.waiting conn.admitted [] started) early.bare h0.lines);
      told = λ z. record {
        told = λ m told none on. absurd (let q = (subst (λ (x : LinkState). AreQueued b.story conn.requests c.single.link x) early.bare (h0.told early.alive)).told m told none on in q.3);
        here = λ p i. absurd (subst (λ (qs : List Queued). IsIn p (queue_ids qs)) made.queue i);
      };
      waits = fresh_waits b (inner c started) conn.life (Ready link) h0 refl nobody no_fresh refl early.bare early.unready early.alive early.other refl made.queue;
      rounds = anew_rounds b (inner c started) h0 refl nobody early.bare;
      early = early_on conn.requests conn.again conn.again conn.life (Ready link) (unready_serves conn.life conn.again early.unready) early.alive made.queue h0.early;
      notices = facts.notices;
    }

-- the creation may be shown then
may_be_created : (b : Book) (c : Core) (started : List ℕ) (word : ℕ) (kind : EventKind) (n : News) (info : RedisConnectionInfo) (link : LinkState) (untold : List Heard) → Tied b (inner c started) → IsEarly c.single.connection.life wait.Permit → (heard_book b c.turns word kind).link c.single.link ≡ heard_by b c n
    → IsReadied b c (heard_by b c n) info link untold → b.created ≡ 0 → MayBeCreated (heard_book b c.turns word kind)
may_be_created b c started word kind n info link untold h0 early own facts unshown = record {
  l = c.single.link;
  ready = ap is_ready_link own ∙ (λ i. facts.made.up i && facts.made.said.well i);
  once = unshown;
  answered = unstarted_owed b (heard_book b c.turns word kind) c started h0 (early_started (b.link c.single.link) started c.single.connection.life early.unready early.alive h0.setup.said) (λ m. refl) (ap (λ (y : Ledger). y.asked) own ∙ facts.made.asked) (ap (λ (y : Ledger). y.end) own ∙ facts.made.alive);
}

-- where it wasn't before, and this is said to its server
pub makes_ready : (before : List Action) (c : Core) (started : List ℕ) (word : ℕ) (kind : EventKind) (n : News) (info : RedisConnectionInfo) (link : LinkState) (untold : List Heard) → Between before c started → is_bad c kind ≡ false → IsNewsKind c.timers kind
    → news_of c.timers c.sources c.single.link kind ≡ n → (IsOfRenewals n → ⊥) → IsEarly c.single.connection.life wait.Permit → IsReadied (book before) c (heard_by (book before) c n) info link untold
    → IsShownReady (before ++ turn_of c word kind ∷ []) (turned c kind) (made_ready (record { conn = record c.single.connection { info = info }; acts = [] }) link) (readied c.single.connection.renewal.wanted (heard_by (book before) c n)) untold started
makes_ready before c started word kind n info link untold h good k is other early facts = by_told c.single.connection.told refl
  where
    b : Book
    b = book before

    h0 : Tied b (inner c started)
    h0 = h.sound.tied

    mine : ℕ
    mine = c.single.link

    l : Ledger
    l = heard_by b c n

    now : Book
    now = heard_book b c.turns word kind

    front : List Action
    front = before ++ turn_of c word kind ∷ []

    f : Core
    f = turned c kind

    ns : List ℕ
    ns = numbers_of c.single.connection.waiting

    shown : Action
    shown = action.Created None

    opened : Work
    opened = opened_on (all_fresh (record { conn = record c.single.connection { info = info }; acts = [] })) link

    v : Work
    v = record { conn = record opened.conn { told = true }; acts = act.Created None ∷ [] }

    own : now.link mine ≡ l
    own = ap (heard_by b c) (book_news b c started kind n h0 is)

    spoken : info.protocol ≡ c.single.connection.info.protocol
    spoken = protocol_still b c started kind info l h0 early.there own facts.info_is

    may : b.created ≡ 0 → MayBeCreated now
    may unshown = may_be_created b c started word kind n info link untold h0 early own facts unshown

    book_is : book front ≡ now
    book_is = book_more before (turn_of c word kind) ∙ heard_is b c.turns word kind (book_kind b c kind h0.numbers.timers k)

    all : AllStand blank_book front
    all = all_stand-append before (turn_of c word kind ∷ []) h.sound.stands (may_turn before c started word kind h good, tt)

    -- none come of sources
    unwanted : b.created ≡ 0 → c.single.connection.renewal.wanted ≡ false → IsShownReady front f v (readied c.single.connection.renewal.wanted l) untold started
    unwanted unshown w =
        let t = record (seen f [] (comes_as c info (Ready link) ns) [] started) { told = true; opened = true; untold = untold } in
        let same : readied c.single.connection.renewal.wanted l ≡ l = ap (λ (x : Bool). readied x l) w in
        let comes = readied_comes b c started n info link untold false (b.created + 1) ((shown_creation b.created).after refl) h0 h.fit h.fresh other early facts spoken (facts.wanted_is ∙ w) (λ none. cc) in
        let tied : Tied (entered now shown) t = replaced (record now { created = b.created + 1; failed = b.failed || false }) t (entered now shown).placed now.since
        (heard_tied b c started word (b.created + 1) (b.failed || false) true true kind info (Ready link) ns [] untold l h0 (shown_creation b.created) good (λ some none. absurd (omega arith)) own comes) in
        record {
          holds = sound_more front shown t all (inl (subst MayBeCreated (sym book_is) (may unshown))) (subst (λ (x : Book). Tied (entered x shown) t) (sym book_is) tied);
          ledger = ap (λ (x : Book). x.link mine) (book_more front shown ∙ ap (λ (x : Book). entered x shown) book_is) ∙ own ∙ sym same;
        }

    -- or a second source is asked for
    wants : b.created ≡ 0 → c.single.connection.renewal.wanted ≡ true → IsShownReady front f (acted v act.NeedRenewals) (readied c.single.connection.renewal.wanted l) untold started
    wants unshown w =
        let count = length c.sources + 0 in
        let next : count ≡ length c.sources = omega arith in
        let needs = action.NeedCreds count mine in
        let wanted : l.creds.wanted ≡ true = facts.wanted_is ∙ w in
        let asked : l.creds.asked ≡ true = elim facts.has [ inl none ↦ absurd (not_both l.creds.wanted none wanted) | inr come ↦ come.0 ] in
        let once : (b.link mine).creds.renews ≡ false = early_sources (b.link mine).creds c.single.connection.life early.unready early.alive h0.creds.sought in
        let renews : l.creds.renews ≡ false = renews_hear (b.link mine) c.turns n ∙ once in
        let created = entered now shown in
        let uses = c.sources ++ source.Renewal mine ∷ [] in
        let what = use_for created mine in
        let what_is : what ≡ source.Renewal mine = ap (λ (x : Ledger). if x.creds.asked then source.Renewal mine else source.Setup mine) own ∙ taken_if l.creds.asked (source.Renewal mine) (source.Setup mine) asked in
        let others = others_heard b c started kind (b.created + 1) h0 good (λ some none. absurd (omega arith)) in
        let links : ℕ → Ledger = λ m. noted_each (now.link m) (if_mine (mine == m) sources) in
        let after = noted l sources in
        let ledger_is : links mine ≡ after = mine_noted (now.link mine) mine sources ∙ ap (λ (y : Ledger). noted y sources) own in
        let t = record (seen f [] (comes_as c info (Ready link) ns) [] started) { told = true; opened = true; untold = untold; sources = uses } in
        let comes = readied_comes b c started n info link untold true (b.created + 1) ((shown_creation b.created).after refl) h0 h.fit h.fresh other early facts spoken wanted (λ x. asked) in
        let used : AreUses uses mine true l.creds.asked = uses_more c.sources mine true l.creds.asked (source.Renewal mine) (omega arith, λ same. asked) (uses_asked c.sources mine (b.link mine).creds.asked (b.link mine).creds.renews l.creds.asked once h0.uses) in
        let tied : Tied (entered created needs) t = replaced (record now { created = b.created + 1; failed = b.failed || false; link = links; sources = b.sources ++ what ∷ [] }) t (entered created needs).placed now.since
        (heard_tied_by b c started word (b.created + 1) (b.failed || false) true true kind info (Ready link) ns [] untold links after (b.sources ++ what ∷ []) uses h0 (shown_creation b.created) (λ some none. absurd (omega arith)) (others_kept now mine sources others) ledger_is
        (λ i. h0.numbers.sources i ++ what_is i ∷ []) used comes) in
        let need : MayNeed created count mine = record {
          due = ap source_due own ∙ (λ i. facts.made.up i && wanted i && (not (asked i) || (facts.made.said.well i && not (renews i))));
          next = next ∙ ap length (sym h0.numbers.sources);
          in_order = λ m less. down_sourced (now.link m) (others m (λ one. omega arith)).down;
          answered = unstarted_owed b created c started h0 (early_started (b.link mine) started c.single.connection.life early.unready early.alive h0.setup.said) (λ m. refl) (ap (λ (y : Ledger). y.asked) own ∙ facts.made.asked) (ap (λ (y : Ledger). y.end) own ∙ facts.made.alive);
          created = λ m ready none. absurd (let no : b.created + 1 ≡ 0 = none in omega (arith, no));
        } in
        let both = shown ∷ needs ∷ [] in
        let last : book (front ++ both) ≡ entered (entered now shown) needs = book-append front both ∙ ap (λ (x : Book). entered (entered x shown) needs) book_is in
        let same : readied c.single.connection.renewal.wanted l ≡ after = ap (λ (x : Bool). readied x l) w in
        record {
          holds = record {
            stands = all_stand-append front both all (inl (subst MayBeCreated (sym book_is) (may unshown)), (subst (λ (x : Book). MayNeed (entered x shown) count mine) (sym book_is) need, tt));
            tied = subst (λ (x : Book). Tied x t) (sym last) tied;
          };
          ledger = ap (λ (x : Book). x.link mine) last ∙ ledger_is ∙ sym same;
        }

    by_wanted : b.created ≡ 0 → (x : Bool) → c.single.connection.renewal.wanted ≡ x → IsShownReady front f (if x then acted v act.NeedRenewals else v) (readied c.single.connection.renewal.wanted l) untold started
    by_wanted unshown true w = wants unshown w
    by_wanted unshown false w = unwanted unshown w

    -- what nothing is shown of, as it was told before
    u : Work
    u = record { conn = record opened.conn { told = true }; acts = [] }

    again_creation : c.single.connection.told ≡ true → TiedCreation b.created true
    again_creation told = record { before = λ z. cc; after = λ z. h0.creation.after told }

    again_unwanted : c.single.connection.told ≡ true → c.single.connection.renewal.wanted ≡ false → IsShownReady front f u (readied c.single.connection.renewal.wanted l) untold started
    again_unwanted told w =
        let t = record (seen f [] (comes_as c info (Ready link) ns) [] started) { told = true; opened = true; untold = untold } in
        let same : readied c.single.connection.renewal.wanted l ≡ l = ap (λ (x : Bool). readied x l) w in
        let comes = readied_comes b c started n info link untold false b.created (h0.creation.after told) h0 h.fit h.fresh other early facts spoken (facts.wanted_is ∙ w) (λ none. cc) in
        let tied : Tied now t = heard_tied b c started word b.created b.failed true true kind info (Ready link) ns [] untold l h0 (again_creation told) good (λ some. some) own comes in
        record {
          holds = subst (λ (x : List Action). Sound x t) (sym (append-nil front)) (record { stands = all; tied = subst (λ (x : Book). Tied x t) (sym book_is) tied });
          ledger = ap (λ (x : List Action). (book x).link mine) (append-nil front) ∙ ap (λ (x : Book). x.link mine) book_is ∙ own ∙ sym same;
        }

    again_wants : c.single.connection.told ≡ true → c.single.connection.renewal.wanted ≡ true → IsShownReady front f (acted u act.NeedRenewals) (readied c.single.connection.renewal.wanted l) untold started
    again_wants told w =
        let count = length c.sources in
        let needs = action.NeedCreds count mine in
        let wanted : l.creds.wanted ≡ true = facts.wanted_is ∙ w in
        let asked : l.creds.asked ≡ true = elim facts.has [ inl none ↦ absurd (not_both l.creds.wanted none wanted) | inr come ↦ come.0 ] in
        let once : (b.link mine).creds.renews ≡ false = early_sources (b.link mine).creds c.single.connection.life early.unready early.alive h0.creds.sought in
        let renews : l.creds.renews ≡ false = renews_hear (b.link mine) c.turns n ∙ once in
        let uses = c.sources ++ source.Renewal mine ∷ [] in
        let what = use_for now mine in
        let what_is : what ≡ source.Renewal mine = ap (λ (x : Ledger). if x.creds.asked then source.Renewal mine else source.Setup mine) own ∙ taken_if l.creds.asked (source.Renewal mine) (source.Setup mine) asked in
        let others = others_heard b c started kind b.created h0 good (λ some. some) in
        let links : ℕ → Ledger = λ m. noted_each (now.link m) (if_mine (mine == m) sources) in
        let after = noted l sources in
        let ledger_is : links mine ≡ after = mine_noted (now.link mine) mine sources ∙ ap (λ (y : Ledger). noted y sources) own in
        let t = record (seen f [] (comes_as c info (Ready link) ns) [] started) { told = true; opened = true; untold = untold; sources = uses } in
        let comes = readied_comes b c started n info link untold true b.created (h0.creation.after told) h0 h.fit h.fresh other early facts spoken wanted (λ x. asked) in
        let used : AreUses uses mine true l.creds.asked = uses_more c.sources mine true l.creds.asked (source.Renewal mine) (omega arith, λ same. asked) (uses_asked c.sources mine (b.link mine).creds.asked (b.link mine).creds.renews l.creds.asked once h0.uses) in
        let tied : Tied (entered now needs) t = replaced (record now { link = links; sources = b.sources ++ what ∷ [] }) t (entered now needs).placed now.since
        (heard_tied_by b c started word b.created b.failed true true kind info (Ready link) ns [] untold links after (b.sources ++ what ∷ []) uses h0 (again_creation told) (λ some. some) (others_kept now mine sources others) ledger_is
        (λ i. h0.numbers.sources i ++ what_is i ∷ []) used comes) in
        let need : MayNeed now count mine = record {
          due = ap source_due own ∙ (λ i. facts.made.up i && wanted i && (not (asked i) || (facts.made.said.well i && not (renews i))));
          next = ap length (sym h0.numbers.sources);
          in_order = λ m less. down_sourced (now.link m) (others m (λ one. omega arith)).down;
          answered = unstarted_owed b now c started h0 (early_started (b.link mine) started c.single.connection.life early.unready early.alive h0.setup.said) (λ m. refl) (ap (λ (y : Ledger). y.asked) own ∙ facts.made.asked) (ap (λ (y : Ledger). y.end) own ∙ facts.made.alive);
          created = λ m ready. h0.creation.after told;
        } in
        let last : book (front ++ needs ∷ []) ≡ entered now needs = book_more front needs ∙ ap (λ (x : Book). entered x needs) book_is in
        let same : readied c.single.connection.renewal.wanted l ≡ after = ap (λ (x : Bool). readied x l) w in
        record {
          holds = sound_more front needs t all (subst (λ (x : Book). MayNeed x count mine) (sym book_is) need) (subst (λ (x : Book). Tied (entered x needs) t) (sym book_is) tied);
          ledger = ap (λ (x : Book). x.link mine) last ∙ ledger_is ∙ sym same;
        }

    again : c.single.connection.told ≡ true → (x : Bool) → c.single.connection.renewal.wanted ≡ x → IsShownReady front f (if x then acted u act.NeedRenewals else u) (readied c.single.connection.renewal.wanted l) untold started
    again told true w = again_wants told w
    again told false w = again_unwanted told w

    -- whether it was told before or not
    by_told : (x : Bool) → c.single.connection.told ≡ x → IsShownReady front f (source_asked (record { conn = record opened.conn { told = true }; acts = if x then [] else act.Created None ∷ [] })) (readied c.single.connection.renewal.wanted l) untold started
    by_told true told = again told c.single.connection.renewal.wanted refl
    by_told false untold_yet = by_wanted (h0.creation.before untold_yet) c.single.connection.renewal.wanted refl

-- so the event has had its effect, where the link need not end
pub ready_applied : (front : List Action) (f : Core) (conn : MultiplexedConnection) (link : LinkState) (l : Ledger) (started : List ℕ) → f.turns ≢ 0 → f.shut ≡ false → conn.admitted ≡ [] → conn.moved ≡ [] → IsFit conn.size conn.boundary link → ending l ≡ None
    → IsShownReady front f (made_ready (record { conn = conn; acts = [] }) link) l [] started → HasApplied front (with_work (record { core = f; acts = [] }) (made_ready (record { conn = conn; acts = [] }) link)) started
ready_applied front f conn link l started began awake nobody none_moved fit none h =
    let first : Work = record { conn = conn; acts = [] } in
    let w = made_ready first link in
    let same = made_conn first link in
    record {
      sound = h.holds;
      ended = none_ends (book (trace_of_acts front f w.acts)) (seen f w.acts w.conn [] started) h.holds.tied (ap ending h.ledger ∙ none);
      began = began;
      moved = ap (λ (x : MultiplexedConnection). x.moved) same ∙ none_moved;
      fit = subst IsFitIn (sym same) (record {
        wanting = λ x e. cc;
        setup = λ x u e. cc;
        link = λ x e. (let same : link ≡ x = cc in subst (IsFit conn.size conn.boundary) same fit);
        none = λ down. nobody;
      });
      hushed = λ over. absurd (not_both f.shut awake over);
    }

-- a link is up
--
-- to whose server the same protocol is said
spoken_up : (before : List Action) (c : Core) (started : List ℕ) (kind : EventKind) (n : News) (info : RedisConnectionInfo) (link : LinkState) → Between before c started → news_of c.timers c.sources c.single.link kind ≡ n → is_resting c.single.connection.life ≡ false
    → IsUpNow (heard_by (book before) c n) (book before).created c.single.connection info started link → info.protocol ≡ c.single.connection.info.protocol
spoken_up before c started kind n info link h is there u =
    let b = book before in
    protocol_still b c started kind info (heard_by b c n) h.sound.tied there (ap (heard_by b c) (book_news b c started kind n h.sound.tied is)) u.info_is

-- it has come as far as to be set up
setting_course : (b : Book) (c : Core) (started : List ℕ) (n : News) → Tied b (inner c started) → is_resting c.single.connection.life ≡ false → is_ready c.single.connection.life ≡ false → has_ended c.single.connection.life ≡ false
    → (let conn = c.single.connection in (c.links ≡ c.single.link + 1) × (is_begun c.manager ≡ true) × (conn.opened ≡ false) × ((heard_by b c n).last ≡ conn.last))
setting_course b c started n h there unready alive =
    let live = tied_live b (inner c started) h there alive in
    (live.links, live.begun, tied_unopened b (inner c started) h unready alive, (asked_hear (b.link c.single.link) c.turns n).last ∙ live.lasts)

-- nothing is to be said: it is ready
comes_ready : (before : List Action) (c : Core) (started : List ℕ) (word : ℕ) (kind : EventKind) (n : News) (info : RedisConnectionInfo) (link : LinkState) → Between before c started → is_bad c kind ≡ false → IsNewsKind c.timers kind → news_of c.timers c.sources c.single.link kind ≡ n
    → (IsOfRenewals n → ⊥) → n ≢ shut → IsEarly c.single.connection.life wait.Permit
    → (let l = heard_by (book before) c n in IsUpNow l (book before).created c.single.connection info started link → HasCredentials l.creds → PushesOf (hearing_in (book before).config) c.single.connection.hears l → ((more : Bool) → ending_up (readied more l) n ≡ None)
    → says_nothing (setup info true) ≡ true → is_watching c.single.connection.hears ≡ false
    → HasApplied (before ++ turn_of c word kind ∷ []) (with_work (record { core = turned c kind; acts = [] }) (made_ready (record { conn = record c.single.connection { info = info }; acts = [] }) link)) started)
comes_ready before c started word kind n info link h good k is other shutless early u has notices calm nothing plain =
    let conn = record c.single.connection { info = info } in
    let l = heard_by (book before) c n in
    let more = c.single.connection.renewal.wanted in
    let silent : says_nothing (setup_steps l 0) ≡ true = says_same l info u.info_is ∙ nothing in
    let said : IsSetUp l = record { well = silent_is_set l (ap is_watching notices.hearing_is ∙ plain) (has_credentials l.creds has) silent; none = λ t. ap setup_count u.starts } in
    let made : IsMade l (book before).created conn.requests link = record { asked = u.asked; up = u.up; alive = u.alive; said = said; tied = u.tied (owner_of conn.requests); queue = u.queue; row = u.row } in
    ready_applied (before ++ turn_of c word kind ∷ []) (turned c kind) conn link (readied more l) started (λ z. absurd (omega arith)) (going_awake c kind n is shutless early.there early.alive h.hushed) (h.fit.none (unready_serves c.single.connection.life c.single.connection.again early.unready)) h.moved u.fit (ends_where_set (readied more l) u.up (well_readied more l ∙ said.well) ∙ calm more)
    (makes_ready before c started word kind n info link [] h good k is other early (record { info_is = u.info_is; sent = u.sent; wanted_is = u.wanted_is; has = has; made = made; notices = notices }))

-- or its setup is to start
comes_to_say : (before : List Action) (c : Core) (started : List ℕ) (word : ℕ) (kind : EventKind) (n : News) (info : RedisConnectionInfo) (link : LinkState) → Between before c started → is_bad c kind ≡ false → IsNewsKind c.timers kind → news_of c.timers c.sources c.single.link kind ≡ n
    → (IsOfRenewals n → ⊥) → n ≢ shut → IsEarly c.single.connection.life wait.Setup
    → (let l = heard_by (book before) c n in IsUpNow l (book before).created c.single.connection info started link → HasCredentials l.creds → PushesOf (hearing_in (book before).config) c.single.connection.hears l → ending_unready l n ≡ None
    → says_nothing (setup info true) ≡ false
    → HasApplied (before ++ turn_of c word kind ∷ []) (with_work (record { core = turned c kind; acts = [] }) (sets_up (all_fresh (record { conn = record c.single.connection { info = info }; acts = [] })) link greet.WithUser)) started)
comes_to_say before c started word kind n info link h good k is other shutless early u has notices calm something =
    let b = book before in
    let h0 = h.sound.tied in
    let conn = c.single.connection in
    let l = heard_by b c n in
    let q = setup_queued (setup info true) (setup_id greet.WithUser) in
    let next = enqueued link q in
    let life = SettingUp next greet.WithUser in
    let given : lacks_credentials l ≡ false = has_credentials l.creds has in
    let says : says_nothing (setup_steps l 0) ≡ false = says_same l info u.info_is ∙ something in
    let count : setup_count l.starts ≡ 0 = ap setup_count u.starts in
    let nobody = h.fit.none (unready_serves conn.life conn.again early.unready) in
    let due : IsSetupDue l next greet.WithUser = record {
      due = subst (λ m. setup_after l m ≡ Some m) (sym count) (left_if (lacks_credentials l || says_nothing (setup_steps l 0)) None (Some 0) (λ i. given i || says i));
      user = subst (λ m. greet.WithUser ≡ greeting_at m) (sym count) refl;
      queue = ap (λ (qs : List Queued). qs ++ q ∷ []) u.queue
          ∙ subst (λ m. q ∷ [] ≡ setup_queued (setup_steps l m) (setup_id greet.WithUser) ∷ []) (sym count) (ap (λ (x : RedisConnectionInfo). setup_queued (setup x true) (setup_id greet.WithUser) ∷ []) (sym u.info_is));
      row = u.row;
    } in
    let said : IsSettingUp l next greet.WithUser = record { says = says; alone = bare_alone l u.starts; stage = inl due; awaited = subst (AllByRecursion (λ (e : Entry). e.awaited ≡ true)) (sym u.row) tt } in
    let some = h0.numbers.settings.some in
    let fits : IsFit conn.size conn.boundary next = record {
      sound = u.fit.sound;
      size_is = u.fit.size_is;
      bound_is = u.fit.bound_is;
      within = (let one : length (link.queue ++ q ∷ []) ≡ 1 = ap (λ (qs : List Queued). length (qs ++ q ∷ [])) u.queue in omega (arith, some, one));
    } in
    fresh_applied before c started word kind n info life (numbers_of conn.waiting) h good k is
    (record {
      starts = heard_starts (b.link c.single.link) c.turns n;
      hearing_kept = heard_hearing (b.link c.single.link) c.turns n;
      spoken = spoken_up before c started kind n info link h is early.there u;
      lived = (u.asked, u.up, u.alive);
      course = setting_course b c started n h0 early.there early.unready early.alive;
      creds = record { wanted_is = u.wanted_is; sought = (has, renews_hear (b.link c.single.link) c.turns n ∙ early_sources (b.link c.single.link).creds conn.life early.unready early.alive h0.creds.sought) };
      renewal_is = none_hears (b.link c.single.link) c.turns n conn.renewal other (early_renewal (b.link c.single.link) conn.renewal conn.life early.unready early.alive h0.renewal);
      repeat_is = held_hears b c started n h0 early.there early.unready early.alive;
      said = record { info_is = u.info_is; sent = u.sent; said = (u.none, said) };
      linked = λ z. enqueued_tied _ l link q (u.tied _);
      lines = subst (λ (x : LinkState). TiedLines b.story conn.requests x conn.waiting conn.admitted [] started) early.bare h0.lines;
      told = λ z. subst (λ (x : LinkState). AreQueued b.story conn.requests c.single.link x) early.bare (h0.told early.alive);
      waits = fresh_waits b (inner c started) conn.life life h0 refl nobody h.fresh refl early.bare early.unready early.alive early.other refl refl;
      rounds = rounds_down b.story conn.requests conn.fresh (numbers_of conn.waiting) refl h0.rounds;
      early = early_on conn.requests conn.again conn.again conn.life life (unready_serves conn.life conn.again early.unready) early.alive refl h0.early;
      notices = notices;
    })
    (ending_setting l next greet.WithUser u.up said ∙ calm)
    (record {
      wanting = λ x same. cc;
      setup = λ x w same. (let one : next ≡ x = cc in subst (IsFit conn.size conn.boundary) one fits);
      link = λ x same. cc;
      none = λ z. nobody;
    })
    (hushed_there c kind n life is shutless early.there early.alive h.hushed)

-- where its server is put into monitor mode there are none
none_asked : (b : Book) (t : TurnState) → Tied b t → is_watching t.hears ≡ true → t.requests ≡ []
none_asked b t h w = nil_from_length t.requests (let none = ap length (h.numbers.quiet w).none in let few = h.names.few in omega arith)

-- or, where nothing is to be said, MONITOR is
comes_to_watch : (before : List Action) (c : Core) (started : List ℕ) (word : ℕ) (kind : EventKind) (n : News) (info : RedisConnectionInfo) (link : LinkState) → Between before c started → is_bad c kind ≡ false → IsNewsKind c.timers kind → news_of c.timers c.sources c.single.link kind ≡ n
    → (IsOfRenewals n → ⊥) → n ≢ shut → IsEarly c.single.connection.life wait.Setup
    → (let l = heard_by (book before) c n in IsUpNow l (book before).created c.single.connection info started link → HasCredentials l.creds → PushesOf (hearing_in (book before).config) c.single.connection.hears l → ending_unready l n ≡ None
    → says_nothing (setup info true) ≡ true → is_watching c.single.connection.hears ≡ true
    → HasApplied (before ++ turn_of c word kind ∷ []) (with_work (record { core = turned c kind; acts = [] }) (sets_up (record { conn = record c.single.connection { info = info }; acts = [] }) link greet.Monitor)) started)
comes_to_watch before c started word kind n info link h good k is other shutless early u has notices calm nothing watches =
    let b = book before in
    let h0 = h.sound.tied in
    let conn = c.single.connection in
    let l = heard_by b c n in
    let next = enqueued link watch_queued in
    let life = SettingUp next greet.Monitor in
    let silent : says_nothing (setup_steps l 0) ≡ true = says_same l info u.info_is ∙ nothing in
    let count : setup_count l.starts ≡ 0 = ap setup_count u.starts in
    let nobody = h.fit.none (unready_serves conn.life conn.again early.unready) in
    let said : IsWatching l next = record {
      watches = ap is_watching notices.hearing_is ∙ watches;
      greeted = silent_is_greeted l (has_credentials l.creds has) silent;
      none = λ t. count;
      stage = inl (record { alone = bare_alone l u.starts; answered = λ j less. absurd (omega (arith, less, count)); queue = ap (λ (qs : List Queued). qs ++ watch_queued ∷ []) u.queue; row = u.row });
      awaited = subst (AllByRecursion (λ (e : Entry). e.awaited ≡ true)) (sym u.row) tt;
    } in
    let some = h0.numbers.settings.some in
    let fits : IsFit conn.size conn.boundary next = record {
      sound = u.fit.sound;
      size_is = u.fit.size_is;
      bound_is = u.fit.bound_is;
      within = (let one : length (link.queue ++ watch_queued ∷ []) ≡ 1 = ap (λ (qs : List Queued). length (qs ++ watch_queued ∷ [])) u.queue in omega (arith, some, one));
    } in
    fresh_applied before c started word kind n info life conn.fresh h good k is
    (record {
      starts = heard_starts (b.link c.single.link) c.turns n;
      hearing_kept = heard_hearing (b.link c.single.link) c.turns n;
      spoken = spoken_up before c started kind n info link h is early.there u;
      lived = (u.asked, u.up, u.alive);
      course = setting_course b c started n h0 early.there early.unready early.alive;
      creds = record { wanted_is = u.wanted_is; sought = (has, renews_hear (b.link c.single.link) c.turns n ∙ early_sources (b.link c.single.link).creds conn.life early.unready early.alive h0.creds.sought) };
      renewal_is = none_hears (b.link c.single.link) c.turns n conn.renewal other (early_renewal (b.link c.single.link) conn.renewal conn.life early.unready early.alive h0.renewal);
      repeat_is = held_hears b c started n h0 early.there early.unready early.alive;
      said = record { info_is = u.info_is; sent = u.sent; said = (u.none, said) };
      linked = λ z. enqueued_tied _ l link watch_queued (u.tied _);
      lines = subst (λ (x : LinkState). TiedLines b.story conn.requests x conn.waiting conn.admitted [] started) early.bare h0.lines;
      told = λ z. subst (λ (x : LinkState). AreQueued b.story conn.requests c.single.link x) early.bare (h0.told early.alive);
      waits = none_wait b.story conn.requests conn.again conn.life next greet.Monitor conn.fresh conn.moved (none_asked b (inner c started) h0 watches) h0.waits;
      rounds = rounds_down b.story conn.requests conn.fresh conn.fresh refl h0.rounds;
      early = early_on conn.requests conn.again conn.again conn.life life (unready_serves conn.life conn.again early.unready) early.alive refl h0.early;
      notices = notices;
    })
    (ending_setting l next greet.Monitor u.up said ∙ calm)
    (record {
      wanting = λ x same. cc;
      setup = λ x w same. (let one : next ≡ x = cc in subst (IsFit conn.size conn.boundary) one fits);
      link = λ x same. cc;
      none = λ z. nobody;
    })
    (hushed_there c kind n life is shutless early.there early.alive h.hushed)

-- so it comes up
pub comes_up : (before : List Action) (c : Core) (started : List ℕ) (word : ℕ) (kind : EventKind) (n : News) (info : RedisConnectionInfo) (link : LinkState) → Between before c started → is_bad c kind ≡ false → IsNewsKind c.timers kind → news_of c.timers c.sources c.single.link kind ≡ n
    → (IsOfRenewals n → ⊥) → n ≢ shut → IsEarly c.single.connection.life wait.Permit → IsEarly c.single.connection.life wait.Setup
    → (let l = heard_by (book before) c n in IsUpNow l (book before).created c.single.connection info started link → HasCredentials l.creds → PushesOf (hearing_in (book before).config) c.single.connection.hears l → ((more : Bool) → ending_up (readied more l) n ≡ None) × (ending_unready l n ≡ None)
    → HasApplied (before ++ turn_of c word kind ∷ []) (with_work (record { core = turned c kind; acts = [] }) (come_up (record { conn = record c.single.connection { info = info }; acts = [] }) link)) started)
comes_up before c started word kind n info link h good k is other shutless ready setting u has notices calm =
    let w : Work = record { conn = record c.single.connection { info = info }; acts = [] } in
    chosen (λ (x : Work). HasApplied (before ++ turn_of c word kind ∷ []) (with_work (record { core = turned c kind; acts = [] }) x) started) (says_nothing (steps_of w.conn greet.WithUser))
    (greeted w link) (sets_up (all_fresh w) link greet.WithUser)
    (λ t. chosen (λ (x : Work). HasApplied (before ++ turn_of c word kind ∷ []) (with_work (record { core = turned c kind; acts = [] }) x) started) (is_watching w.conn.hears) (sets_up w link greet.Monitor) (made_ready w link)
    (λ y. comes_to_watch before c started word kind n info link h good k is other shutless setting u has notices calm.1 t y)
    (λ y. comes_ready before c started word kind n info link h good k is other shutless ready u has notices calm.0 t y))
    (λ f. comes_to_say before c started word kind n info link h good k is other shutless setting u has notices calm.1 f)
