-- News of new credentials: some came, no more come, or some are not answered in time.
use Rattle.std.proofs.Common.{◌≡◌, inl, inr, ℕ, suc, ◌+◌, ◌==◌, Bool, true, false, ◌&&◌, ◌||◌, not, is_some, List, [], ◌∷◌, ◌++◌, None, refl, sym, ap, ◌∙◌, subst, arith, ◌≢◌}
use Rattle.containers.proofs.Choices.{by_test, chosen, taken_if, left_if, not_both, ne_test, both_left, both_right}
use Rattle.credentials.specs.Credentials.{Credentials}
use Rattle.redis_error.specs.declared.redis_error.RedisError.{RedisError}
use Rattle.driver_model.specs.declared.action.Action.{Action}
use Rattle.driver_model.specs.declared.event.EventKind.{EventKind}
use Rattle.driver_model.specs.News.{News, news_of, renewed, unrenewed, late, shut}
use Rattle.link_core.specs.Link.{LinkState}
use Rattle.link_laws.proofs.TiedLink.{said_tied}
use Rattle.mux_conn.specs.declared.connection.MultiplexedConnection.{MultiplexedConnection}
use Rattle.mux_conn.specs.declared.life.Life.{Life}
use Rattle.mux_conn.specs.declared.life.Life.TheVariants.{Resting, Dialing, Wanting, SettingUp, Ready, Ended}
use Rattle.mux_conn.specs.declared.renewal.Renewal.{Renewal}
use Rattle.mux_conn.specs.Connection.{is_ready, is_resting}
use Rattle.mux_conn.specs.Renewals.{expected, expecting, is_unanswered, late_for, none_follow, takes_more, with_renewal}
use Rattle.single_session.specs.declared.core_state.Core.{Core}
use Rattle.single_session.specs.Turn.{is_bad, numbered, with_work}
use Rattle.legal_trace.specs.Ledger.{Ledger, ending, ending_up, is_full_last, is_renewal_open, is_set_up, last_renewal, lost_by, may_renew, renewal_count, renewal_due, renewed_by, unrenewed_by}
use Rattle.legal_trace.specs.Book.{Book, book}
use Rattle.legal_trace.proofs.Setups.{ends_where_set}
use Rattle.session_laws.proofs.Turn.Announce.{IsNewsKind, StaysQuiet, quiet_still, heard_book, heard_tied_new, heard_is, turn_of, turned, announced_sound, first_book, holds_first}
use Rattle.session_laws.proofs.Links.Connect.{passed_over}
use Rattle.session_laws.proofs.Links.End.{up_tied}
use Rattle.session_laws.proofs.Turn.Heard.{heard_by, book_kind, book_news, ended_quiet, none_ends, still_none, tame_between, hushed_there}
use Rattle.conn_laws.proofs.Internal.Renewals.{none_renewed_due, renewed_alike}
use Rattle.conn_laws.proofs.Links.Said.{recredited, setup_on, setup_recredited, well_on, well_recredited, mild_end, renoticed}
use Rattle.session_laws.proofs.Requests.Settle.{renewal_over, seen, trace_of_acts}
use Rattle.session_laws.proofs.Ties.States.{Between, HasApplied, trace_with}
use Rattle.conn_laws.proofs.Links.Server.{AreRenewed, AreSought, NoneRenewed, TiedCreds, TiedRenewal, TiedSetup, on_link}
use Rattle.conn_laws.proofs.Ties.Tied.{TiedLife, carried, has_ended, whole_link}
use Rattle.session_laws.proofs.Ties.Tied.{Tied, inner}
use Rattle.conn_laws.proofs.Links.ComeUp.{early_sources}
use Rattle.conn_laws.proofs.Internal.Repeats.{TiedRepeat, repeat_alike}
use Rattle.conn_laws.proofs.Internal.Renewed.{expects, late_lost, may_is, none_follows, open_is_unanswered}

-- a link that has ended
--
-- the event has had its effect also where new credentials came to this
over_renewal : (front : List Action) (f : Core) (conn : MultiplexedConnection) (r : Renewal) (e : RedisError) (started : List ℕ) → conn.life ≡ Ended e → r.within ≡ conn.renewal.within → r.wanted ≡ conn.renewal.wanted → r.waiting ≡ conn.renewal.waiting → r.asked ≡ conn.renewal.asked
    → HasApplied front (with_work (record { core = f; acts = [] }) (record { conn = conn; acts = [] })) started → HasApplied front (with_work (record { core = f; acts = [] }) (record { conn = with_renewal conn r; acts = [] })) started
over_renewal front f conn r e started over within wanted waiting asked h =
    let t = with_work (record { core = f; acts = [] }) (record { conn = conn; acts = [] }) in
    record {
      sound = record { stands = h.sound.stands; tied = renewal_over (book (trace_with front t)) (inner (numbered t).core started) r e within wanted waiting asked over h.sound.tied };
      ended = h.ended;
      began = h.began;
      moved = h.moved;
      fit = record { wanting = h.fit.wanting; setup = h.fit.setup; link = h.fit.link; none = h.fit.none };
      hushed = h.hushed;
    }

-- a link that is ready
--
-- of which other new credentials are known
ready_renewal : (before : List Action) (c : Core) (started : List ℕ) (word : ℕ) (kind : EventKind) (n : News) (link : LinkState) (renewals : List Credentials) (over lost : Bool) (r : Renewal) → Between before c started → is_bad c kind ≡ false → IsNewsKind c.timers kind
    → news_of c.timers c.sources c.single.link kind ≡ n → c.single.connection.life ≡ Ready link → r.within ≡ c.single.connection.renewal.within → r.wanted ≡ c.single.connection.renewal.wanted → StaysQuiet c r c.single.connection.again → n ≢ shut
    → (let l = (book before).link c.single.link in let m = recredited l l.creds.asked l.creds.renews renewals over l.creds.timed lost in
    heard_by (book before) c n ≡ record m { heard = n } → AreRenewed (record m { heard = n }) r → ending_up (record m { heard = n }) n ≡ None
    → HasApplied (before ++ turn_of c word kind ∷ []) (with_work (record { core = turned c kind; acts = [] }) (record { conn = with_renewal c.single.connection r; acts = [] })) started)
ready_renewal before c started word kind n link renewals over lost r h good k is e within wanted quiet other same are calm =
    let b = book before in
    let h0 = h.sound.tied in
    let conn = c.single.connection in
    let l = b.link c.single.link in
    let m = recredited l l.creds.asked l.creds.renews renewals over l.creds.timed lost in
    let after = record m { heard = n } in
    let u = up_tied b (inner c started) link e h0 in
    let said0 = subst (λ (x : Life). TiedSetup l conn.info started x) e h0.setup in
    let said : TiedSetup after conn.info started (Ready link) = setup_on m l.asked l.up l.end l.taken l.offer l.rest n conn.info started (Ready link) (setup_recredited l l.creds.asked l.creds.renews renewals over l.creds.timed lost conn.info started link said0) in
    let sought = subst (λ (x : Life). AreSought l.creds x) e h0.creds.sought in
    let front = before ++ turn_of c word kind ∷ [] in
    let f = turned c kind in
    let own = ap (heard_by b c) (book_news b c started kind n h0 is) ∙ same in
    let t = seen f [] (with_renewal conn r) [] started in
    let tied : Tied (heard_book b c.turns word kind) t = heard_tied_new b c started word b.created b.failed conn.told conn.opened kind conn.info r conn.again conn.life conn.fresh [] [] after h0 h0.creation within wanted quiet good (λ some. some) own
    (record {
      starts = refl;
      hearing_kept = refl;
      spoken = refl;
      lived = subst (λ (x : Life). TiedLife after b.created x) (sym e) (u.asked, u.up, u.alive, u.shown);
      course = h0.course;
      creds = subst (λ (x : Life). TiedCreds after.creds r.wanted x) (sym e) (record { wanted_is = on_link conn.life (l.creds.wanted ≡ conn.renewal.wanted) (ap is_resting e) h0.creds.wanted_is ∙ sym wanted; sought = sought });
      renewal_is = subst (λ (x : Life). TiedRenewal after r x) (sym e) are;
      repeat_is = subst (λ o. TiedRepeat after b.tracked o conn.again conn.life) (sym within) (repeat_alike l after b.tracked conn.renewal.within conn.again conn.life refl refl refl (λ x over. refl) h0.repeat);
      said = subst (λ (x : Life). TiedSetup after conn.info started x) (sym e) said;
      linked = λ z. said_tied (carried conn.life conn.requests) l (whole_link conn.life) l.info m.creds n (h0.link z);
      lines = h0.lines;
      told = h0.told;
      waits = h0.waits;
      rounds = h0.rounds;
      early = h0.early;
      notices = renoticed (tame_between before c started h) h0.notices;
    }) in
    let turn_is = heard_is b c.turns word kind (book_kind b c kind h0.numbers.timers k) in
    let holds = holds_first front f (with_renewal conn r) [] started (announced_sound before c started word kind t h good (subst (λ (x : Book). Tied x t) (sym turn_is) tied)) in
    let ledger = ap (λ (x : Book). x.link c.single.link) (first_book before (turn_of c word kind) f ∙ turn_is) ∙ own in
    let well : is_set_up after ≡ true = well_on m l.asked l.up l.end l.taken l.offer l.rest n ∙ well_recredited l l.creds.asked l.creds.renews renewals over l.creds.timed lost ∙ u.well in
    record {
      sound = holds;
      ended = none_ends (book (trace_of_acts front f [])) t holds.tied (ap ending ledger ∙ ends_where_set after u.up well ∙ calm);
      began = λ z. absurd (omega arith);
      moved = h.moved;
      fit = record { wanting = h.fit.wanting; setup = h.fit.setup; link = h.fit.link; none = h.fit.none };
      hushed = hushed_there c kind n conn.life is other (ap is_resting e) (ap has_ended e) h.hushed;
    }

-- new credentials come
--
-- so it does
pub renewed_applied : (before : List Action) (c : Core) (started : List ℕ) (word : ℕ) (kind : EventKind) (a : Credentials) → Between before c started → is_bad c kind ≡ false → IsNewsKind c.timers kind → news_of c.timers c.sources c.single.link kind ≡ renewed a → ((book before).link c.single.link).creds.renews ≡ true
    → HasApplied (before ++ turn_of c word kind ∷ []) (with_work (record { core = turned c kind; acts = [] }) (record { conn = expecting c.single.connection a; acts = [] })) started
renewed_applied before c started word kind a h good k is renews = by_life c.single.connection.life refl
  where
    b : Book
    b = book before

    conn : MultiplexedConnection
    conn = c.single.connection

    l : Ledger
    l = b.link c.single.link

    done : MultiplexedConnection → Type 0
    done x = HasApplied (before ++ turn_of c word kind ∷ []) (with_work (record { core = turned c kind; acts = [] }) (record { conn = x; acts = [] })) started

    -- where it isn't ready
    unready : (x : Life) → conn.life ≡ x → is_ready x ≡ false → done conn → done (expecting conn a)
    unready x e unset d = subst done (sym (left_if (is_ready conn.life && takes_more conn.renewal) (with_renewal conn (expected conn.renewal a)) conn (ap (λ y. y && takes_more conn.renewal) (ap is_ready e ∙ unset)))) d

    early : (x : Life) → conn.life ≡ x → is_ready x ≡ false → has_ended x ≡ false → done (expecting conn a)
    early x e unset alive = absurd (not_both l.creds.renews (early_sources l.creds conn.life (ap is_ready e ∙ unset) (ap has_ended e ∙ alive) h.sound.tied.creds.sought) renews)

    ready : (link : LinkState) → conn.life ≡ Ready link → done (expecting conn a)
    ready link e =
        let u = up_tied b (inner c started) link e h.sound.tied in
        let sought = subst (λ (x : Life). AreSought l.creds x) e h.sound.tied.creds.sought in
        let tied : AreRenewed l conn.renewal = subst (λ (x : Life). TiedRenewal l conn.renewal x) e h.sound.tied.renewal in
        let may = may_is l conn.renewal u.up u.well (sought.1 ∙ on_link conn.life (l.creds.wanted ≡ conn.renewal.wanted) (ap is_resting e) h.sound.tied.creds.wanted_is) tied.over_is in
        let now = expected conn.renewal a in
        let still = quiet_still b c started h.sound.tied in
        chosen done (is_ready conn.life && takes_more conn.renewal) (with_renewal conn now) conn
        (λ t.
        let so : may_renew l ≡ true = may ∙ ap (λ y. y && takes_more conn.renewal) (sym (ap is_ready e)) ∙ t in
        let wants : StaysQuiet c now conn.again = λ w. absurd (not_both conn.renewal.wanted (still w).0 (both_left conn.renewal.wanted (not conn.renewal.over) (both_right (is_ready conn.life) (takes_more conn.renewal) t))) in
        ready_renewal before c started word kind (renewed a) link (l.creds.renewals ++ a ∷ []) l.creds.over l.creds.lost now h good k is e refl refl wants (λ z. cc) (ap (λ (x : Ledger). record x { heard = renewed a }) (taken_if (may_renew l) (renewed_by l a) l so)) (expects l conn.renewal a (renewed a) tied) refl)
        (λ f.
        let so : may_renew l ≡ false = may ∙ ap (λ y. y && takes_more conn.renewal) (sym (ap is_ready e)) ∙ f in
        ready_renewal before c started word kind (renewed a) link l.creds.renewals l.creds.over l.creds.lost conn.renewal h good k is e refl refl still (λ z. cc) (ap (λ (x : Ledger). record x { heard = renewed a }) (left_if (may_renew l) (renewed_by l a) l so)) (renewed_alike l (record l { heard = renewed a }) conn.renewal refl refl refl tied) refl)

    by_life : (x : Life) → conn.life ≡ x → done (expecting conn a)
    by_life Resting e = early Resting e refl refl
    by_life Dialing e = early Dialing e refl refl
    by_life (Wanting link) e = early (Wanting link) e refl refl
    by_life (SettingUp link greeting) e = early (SettingUp link greeting) e refl refl
    by_life (Ready link) e = ready link e
    by_life (Ended x) e = unready (Ended x) e refl (ended_quiet before c started word kind (renewed a) x h good k is e)

-- no more come
--
-- the source has ended
pub unrenewed_applied : (before : List Action) (c : Core) (started : List ℕ) (word : ℕ) (kind : EventKind) → Between before c started → is_bad c kind ≡ false → IsNewsKind c.timers kind → news_of c.timers c.sources c.single.link kind ≡ unrenewed → ((book before).link c.single.link).creds.renews ≡ true
    → HasApplied (before ++ turn_of c word kind ∷ []) (with_work (record { core = turned c kind; acts = [] }) (record { conn = none_follow c.single.connection; acts = [] })) started
unrenewed_applied before c started word kind h good k is renews = by_life c.single.connection.life refl
  where
    conn : MultiplexedConnection
    conn = c.single.connection

    l : Ledger
    l = (book before).link c.single.link

    over : Renewal
    over = record conn.renewal { over = true }

    done : MultiplexedConnection → Type 0
    done x = HasApplied (before ++ turn_of c word kind ∷ []) (with_work (record { core = turned c kind; acts = [] }) (record { conn = x; acts = [] })) started

    early : (x : Life) → conn.life ≡ x → is_ready x ≡ false → has_ended x ≡ false → done (none_follow conn)
    early x e unset alive = absurd (not_both l.creds.renews (early_sources l.creds conn.life (ap is_ready e ∙ unset) (ap has_ended e ∙ alive) h.sound.tied.creds.sought) renews)

    by_life : (x : Life) → conn.life ≡ x → done (none_follow conn)
    by_life Resting e = early Resting e refl refl
    by_life Dialing e = early Dialing e refl refl
    by_life (Wanting link) e = early (Wanting link) e refl refl
    by_life (SettingUp link greeting) e = early (SettingUp link greeting) e refl refl
    by_life (Ready link) e =
        let u = up_tied (book before) (inner c started) link e h.sound.tied in
        let tied : AreRenewed l conn.renewal = subst (λ (x : Life). TiedRenewal l conn.renewal x) e h.sound.tied.renewal in
        let still = quiet_still (book before) c started h.sound.tied in
        ready_renewal before c started word kind unrenewed link l.creds.renewals true l.creds.lost over h good k is e refl refl still (λ z. cc) (ap (λ (x : Ledger). record x { heard = unrenewed }) (taken_if l.up (unrenewed_by l) l u.up)) (none_follows l conn.renewal unrenewed tied) refl
    by_life (Ended x) e = over_renewal (before ++ turn_of c word kind ∷ []) (turned c kind) conn over x started e refl refl refl refl (ended_quiet before c started word kind unrenewed x h good k is e)

-- some are not answered in time
--
-- the time for some is over
pub renewal_late : (before : List Action) (c : Core) (started : List ℕ) (word : ℕ) (kind : EventKind) (m : ℕ) → Between before c started → is_bad c kind ≡ false → IsNewsKind c.timers kind → news_of c.timers c.sources c.single.link kind ≡ late m
    → HasApplied (before ++ turn_of c word kind ∷ []) (with_work (record { core = turned c kind; acts = [] }) (record { conn = late_for c.single.connection m; acts = [] })) started
renewal_late before c started word kind m h good k is = by_life c.single.connection.life refl
  where
    b : Book
    b = book before

    conn : MultiplexedConnection
    conn = c.single.connection

    l : Ledger
    l = b.link c.single.link

    gone : Renewal
    gone = record conn.renewal { lost = true }

    done : MultiplexedConnection → Type 0
    done x = HasApplied (before ++ turn_of c word kind ∷ []) (with_work (record { core = turned c kind; acts = [] }) (record { conn = x; acts = [] })) started

    none_of : (a : Bool) → (a && false) ≡ false
    none_of true = refl
    none_of false = refl

    -- none were told before it is set up
    early : NoneRenewed l conn.renewal → done (late_for conn m)
    early none =
        let unasked : is_unanswered conn.renewal m ≡ false = ap (λ (y : Bool). y && (conn.renewal.unanswered || conn.renewal.pending)) (ne_test (m + 1) conn.renewal.asked (λ same. absurd (let zero_is = none.unasked in omega (arith, same, zero_is)))) in
        let unopen : is_renewal_open l m ≡ false =
        left_if (is_some (renewal_due l)) (m == renewal_count l.starts) ((suc m == renewal_count l.starts) && not (is_full_last l (last_renewal l.starts 0 None))) (ap is_some (none_renewed_due l conn.renewal none))
        ∙ ap (λ (y : Bool). y && not (is_full_last l (last_renewal l.starts 0 None))) (ne_test (suc m) (renewal_count l.starts) (λ same. absurd (let zero_is = none.unstarted in omega (arith, same, zero_is)))) in
        subst done (sym (left_if (is_unanswered conn.renewal m) (with_renewal conn gone) conn unasked))
        (passed_over before c started word kind (late m) h good k is (λ z. cc) (ap (λ (x : Ledger). record x { heard = late m }) (left_if (l.up && is_renewal_open l m) (lost_by l) l (ap (λ y. l.up && y) unopen ∙ none_of l.up)))
        (mild_end l l.taken l.offer (late m) tt (still_none before c started h c.single.link)))

    -- a link that is ready
    ready : (link : LinkState) → conn.life ≡ Ready link → done (late_for conn m)
    ready link e =
        let u = up_tied b (inner c started) link e h.sound.tied in
        let tied : AreRenewed l conn.renewal = subst (λ (x : Life). TiedRenewal l conn.renewal x) e h.sound.tied.renewal in
        let open_is = l.up && is_renewal_open l m in
        let still = quiet_still b c started h.sound.tied in
        by_test conn.renewal.lost (done (late_for conn m))
        (λ lost.
        let was : conn.renewal ≡ gone = (λ i. record conn.renewal { lost = lost i }) in
        let lost_too : done (with_renewal conn gone) = by_test open_is (done (with_renewal conn gone))
        (λ t.
        ready_renewal before c started word kind (late m) link l.creds.renewals l.creds.over true gone h good k is e refl refl still (λ z. cc) (ap (λ (x : Ledger). record x { heard = late m }) (taken_if open_is (lost_by l) l t)) (late_lost l conn.renewal true (late m) (λ z. refl) (inr lost) tied) refl)
        (λ f.
        ready_renewal before c started word kind (late m) link l.creds.renewals l.creds.over l.creds.lost gone h good k is e refl refl still (λ z. cc) (ap (λ (x : Ledger). record x { heard = late m }) (left_if open_is (lost_by l) l f)) (late_lost l conn.renewal l.creds.lost (late m) (λ z. z) (inr lost) tied) refl) in
        chosen done (is_unanswered conn.renewal m) (with_renewal conn gone) conn (λ t. lost_too) (λ f. subst (λ r. done (with_renewal conn r)) (sym was) lost_too))
        (λ kept.
        let same : is_renewal_open l m ≡ is_unanswered conn.renewal m = open_is_unanswered l conn.renewal m u.up kept (λ due. (h.still.renewed link e due).0) tied in
        chosen done (is_unanswered conn.renewal m) (with_renewal conn gone) conn
        (λ t.
        ready_renewal before c started word kind (late m) link l.creds.renewals l.creds.over true gone h good k is e refl refl still (λ z. cc) (ap (λ (x : Ledger). record x { heard = late m }) (taken_if open_is (lost_by l) l (λ i. u.up i && (same ∙ t) i))) (late_lost l conn.renewal true (late m) (λ z. refl) (inl refl) tied)
        refl)
        (λ f.
        ready_renewal before c started word kind (late m) link l.creds.renewals l.creds.over l.creds.lost conn.renewal h good k is e refl refl still (λ z. cc) (ap (λ (x : Ledger). record x { heard = late m }) (left_if open_is (lost_by l) l (ap (λ y. l.up && y) (same ∙ f) ∙ none_of l.up)))
        (renewed_alike l (record l { heard = late m }) conn.renewal refl refl refl tied) refl))

    by_life : (x : Life) → conn.life ≡ x → done (late_for conn m)
    by_life Resting e = early (subst (λ (x : Life). TiedRenewal l conn.renewal x) e h.sound.tied.renewal)
    by_life Dialing e = early (subst (λ (x : Life). TiedRenewal l conn.renewal x) e h.sound.tied.renewal)
    by_life (Wanting link) e = early (subst (λ (x : Life). TiedRenewal l conn.renewal x) e h.sound.tied.renewal)
    by_life (SettingUp link greeting) e = early (subst (λ (x : Life). TiedRenewal l conn.renewal x) e h.sound.tied.renewal)
    by_life (Ready link) e = ready link e
    by_life (Ended x) e =
        let quiet = ended_quiet before c started word kind (late m) x h good k is e in
        chosen done (is_unanswered conn.renewal m) (with_renewal conn gone) conn (λ t. over_renewal (before ++ turn_of c word kind ∷ []) (turned c kind) conn gone x started e refl refl refl refl quiet) (λ f. quiet)
