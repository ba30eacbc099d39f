-- A fault ends the connection's link, or the shutdown does.
use Rattle.std.proofs.Common.{inl, ◌≡◌, ◌≢◌, ℕ, ◌-◌, true, false, List, [], ◌∷◌, ◌++◌, Some, None, refl, sym, ap, ◌∙◌, subst, ◌&&◌, not, is_some, arith, ◌||◌, Bool}
use Rattle.containers.proofs.Choices.{taken_if, left_if}
use Rattle.redis_error.specs.declared.fault_kind.FaultKind.TheVariants as kinds
use Rattle.redis_error.specs.declared.redis_error.RedisError.{RedisError}
use Rattle.redis_error.specs.declared.redis_error.RedisError.TheVariants as error
use Rattle.driver_model.specs.declared.action.Action.{Action}
use Rattle.driver_model.specs.declared.event.EventKind.{EventKind}
use Rattle.driver_model.specs.declared.news.LinkFault.{LinkFault}
use Rattle.driver_model.specs.News.{News, failed, shut, news_of, overdue, dropped}
use Rattle.link_core.specs.Ends.{row_closed, row_hit, queue_closed}
use Rattle.link_core.specs.Link.{LinkState}
use Rattle.link_laws.proofs.Once.{closed_ids, hit_ids}
use Rattle.link_laws.proofs.Settles.{row_hit_owed, row_closed_owed}
use Rattle.link_laws.proofs.TiedLink.{TiedLink}
use Rattle.mux_conn.specs.declared.life.Greeting.{Greeting}
use Rattle.mux_conn.specs.declared.life.Life.{Life}
use Rattle.mux_conn.specs.declared.life.Life.TheVariants.{Resting, Dialing, Wanting, SettingUp, Ready, Ended}
use Rattle.mux_conn.specs.Connection.{is_ready, Work, is_resting}
use Rattle.mux_conn.specs.Effects.{ended, ended_by, failed_at, overdue_at, shut_at, unauthorized_at, greeting_error, dropped_at, waiting_failed}
use Rattle.single_session.specs.declared.core_state.Core.{Core}
use Rattle.single_session.specs.Turn.{with_work, is_bad, is_shutdown}
use Rattle.legal_trace.specs.Ledger.{Ledger, by_fault, by_opening, by_shutdown, ends, noted, ending, ending_alive, ending_unready, is_over, lacks_credentials}
use Rattle.legal_trace.specs.Book.{Book, book, hearing_in}
use Rattle.conn_laws.proofs.Links.Server.{AreSought, HasSaid, on_link, hearing_on, hearing_there}
use Rattle.conn_laws.proofs.Ties.Tied.{link_in, no_link, carried, whole_link, owner_of, TiedLife, has_ended, greeter, TiedNotices, is_reading}
use Rattle.session_laws.proofs.Ties.Tied.{TurnState, inner, Tied}
use Rattle.conn_laws.proofs.Links.Creds.{asked_sourced, has_sourced, wanting_lacks}
use Rattle.conn_laws.proofs.Links.SetUp.{not_set_up, lacking_unset}
use Rattle.conn_laws.proofs.Links.Said.{ending_wanting, ready_heard, setting_heard, setting_told, renoticed, PushesOf}
use Rattle.conn_laws.proofs.Links.Failing.{Fails, IsUnready}
use Rattle.conn_laws.proofs.Ties.States.{IsStopped}
use Rattle.session_laws.proofs.Ties.States.{Between, HasApplied, HasEffect}
use Rattle.session_laws.proofs.Requests.Settle.{seen, trace_of_acts, Holds}
use Rattle.conn_laws.proofs.Links.Close.{SettlesAll, ended_moved, parted_moved, waiting_leaves}
use Rattle.session_laws.proofs.Links.Close.{HasEnded, ended_holds, ended_applied, faulted_holds, waiting_shut}
use Rattle.session_laws.proofs.Turn.Announce.{turn_of, turned, IsNewsKind}
use Rattle.session_laws.proofs.Turn.Heard.{heard_by, Begins, Leads, heard_begins, leads_still, ended_quiet, dialing_quiet, tame_between, resting_quiet, none_ends}
use Rattle.driver_model.specs.Hearing.{felt, hears_messages}
use Rattle.driver_model.specs.declared.hearing.Hearing.{Hearing}
use Rattle.driver_model.specs.declared.news.LinkFault.TheVariants as faults
use Rattle.conn_laws.proofs.Managers.Comes.{resting_ends}
use Rattle.session_laws.proofs.Managers.Comes.{tied_opened}
use Rattle.session_laws.proofs.Links.Retire.{setup_failed}
use Rattle.conn_laws.proofs.Links.End.{Denies, IsPlain, IsSetting, IsUp, IsWanting, bare_error_is, opening_error_is, plain_is, settles_ready}

-- the link of a connection that is ready is up
pub up_tied : (b : Book) (t : TurnState) (link : LinkState) → t.life ≡ Ready link → Tied b t → IsUp (owner_of t.requests) (b.link t.link) b.created link
up_tied b t link is h =
    let l = b.link t.link in
    let lived = subst (λ (x : Life). TiedLife l b.created x) is h.life in
    let said = subst (λ (x : Life). HasSaid l t.started x) is h.setup.said in
    record {
      asked = lived.0;
      up = lived.1;
      alive = lived.2;
      shown = lived.3;
      has = (subst (λ (x : Life). AreSought l.creds x) is h.creds.sought).0;
      well = said.well;
      tied = subst (λ (x : Life). TiedLink (carried x t.requests) l (whole_link x)) is (h.link (ap has_ended is));
    }

-- so it is while the connection says so
pub wanting_tied : (b : Book) (t : TurnState) (link : LinkState) → t.life ≡ Wanting link → Tied b t → IsWanting (b.link t.link) b.created t.started link
wanting_tied b t link is h =
    let l = b.link t.link in
    let lived = subst (λ (x : Life). TiedLife l b.created x) is h.life in
    let said = subst (λ (x : Life). HasSaid l t.started x) is h.setup.said in
    let sought : AreSought l.creds (Wanting link) = subst (λ (x : Life). AreSought l.creds x) is h.creds.sought in
    record {
      asked = lived.0;
      up = lived.1;
      alive = lived.2;
      sought = sought;
      lacks = wanting_lacks l.creds link sought;
      starts = said.0;
      none = said.1;
      queue = said.2;
      row = said.3;
      tied = subst (λ (x : Life). TiedLink (carried x t.requests) l (whole_link x)) is (h.link (ap has_ended is));
    }

-- so it is while the connection says so
pub setting_tied : (b : Book) (t : TurnState) (link : LinkState) (greeting : Greeting) → t.life ≡ SettingUp link greeting → Tied b t → IsSetting (b.link t.link) b.created t.started link greeting
setting_tied b t link greeting is h =
    let l = b.link t.link in
    let lived = subst (λ (x : Life). TiedLife l b.created x) is h.life in
    let said = subst (λ (x : Life). HasSaid l t.started x) is h.setup.said in
    record {
      asked = lived.0;
      up = lived.1;
      alive = lived.2;
      has = (subst (λ (x : Life). AreSought l.creds x) is h.creds.sought).0;
      once = (subst (λ (x : Life). AreSought l.creds x) is h.creds.sought).1;
      none = said.0;
      said = said.1;
      tied = subst (λ (x : Life). TiedLink (carried x t.requests) l (whole_link x)) is (h.link (ap has_ended is));
    }

-- the link ends by a fault
pub fault_ends : (before : List Action) (f : Core) (w : Work) (link : LinkState) (fault : LinkFault) (started : List ℕ) → Holds before f w [] started → w.conn.life ≡ Ready link
    → ending ((book (trace_of_acts before f w.acts)).link f.single.link) ≡ Some (by_fault fault) → HasEnded before f (ended_by w link fault) error.Closed started
fault_ends before f w link fault started h is must =
    let b = book (trace_of_acts before f w.acts) in
    let l = b.link f.single.link in
    let name = owner_of w.conn.requests in
    let tied = up_tied b (seen f w.acts w.conn [] started) link is h.tied in
    let turn = b.turns - 1 in
    let row = row_hit_owed name l link turn fault must tied.alive tied.tied in
    faulted_holds before f w (row_hit fault link.row) (queue_closed link.queue) fault started h (ap has_ended is) (tied_opened b (seen f w.acts w.conn [] started) link h.tied is)
    (must, settles_ready name (noted l (ends turn)) w.conn.life link (row_hit fault link.row) is row (hit_ids fault link.row link.queue))

-- or by the shutdown
pub shutdown_ends : (before : List Action) (f : Core) (w : Work) (link : LinkState) (started : List ℕ) → Holds before f w [] started → f.shut ≡ true → w.conn.life ≡ Ready link
    → ending ((book (trace_of_acts before f w.acts)).link f.single.link) ≡ Some by_shutdown → HasEnded before f (shut_at w (Ready link)) error.Closed started
shutdown_ends before f w link started h over is must =
    let b = book (trace_of_acts before f w.acts) in
    let l = b.link f.single.link in
    let name = owner_of w.conn.requests in
    let tied = up_tied b (seen f w.acts w.conn [] started) link is h.tied in
    let turn = b.turns - 1 in
    let row = row_closed_owed name l link turn must tied.alive tied.tied in
    ended_holds before f w (row_closed link.row) (queue_closed link.queue) by_shutdown started h (ap has_ended is) refl refl refl over
    (must, settles_ready name (noted l (ends turn)) w.conn.life link (row_closed link.row) is row (closed_ids link.row link.queue))

-- also before it is ready
pub bare_ends : (before : List Action) (f : Core) (w : Work) (started : List ℕ) → Holds before f w [] started → f.shut ≡ true → has_ended w.conn.life ≡ false → link_in w.conn.life ≡ no_link → ending ((book (trace_of_acts before f w.acts)).link f.single.link) ≡ Some by_shutdown
    → HasEnded before f (ended w []) error.Closed started
bare_ends before f w started h over alive bare must =
    let b = book (trace_of_acts before f w.acts) in
    let settles = λ (x : LinkState). SettlesAll (owner_of w.conn.requests) (noted (b.link f.single.link) (ends (b.turns - 1))) x [] [] in
    ended_holds before f w [] [] by_shutdown started h alive refl refl refl over (must, subst settles (sym bare) (record { started = tt; waits = tt; ids = refl }))

-- the turns of these events
--
plain_leads : (before : List Action) (c : Core) (started : List ℕ) (n : News) → IsPlain n → Between before c started → Leads (book before) c n c.single.connection.life [] started
plain_leads before c started n k h = leads_still before c started n h (plain_is ((book before).link c.single.link) c.turns n k)

-- the turn of such an event begins with its link as it was
pub plain_begins : (before : List Action) (c : Core) (started : List ℕ) (word : ℕ) (kind : EventKind) (n : News) → IsPlain n → Between before c started → is_bad c kind ≡ false → IsNewsKind c.timers kind → news_of c.timers c.sources c.single.link kind ≡ n
    → Begins (before ++ turn_of c word kind ∷ []) (turned c kind) c.single.connection (heard_by (book before) c n) (book before).story [] started
plain_begins before c started word kind n p h good k is = heard_begins before c started word kind n c.single.connection.life [] h good k is (plain_leads before c started n p h)

-- a link that is set up still isn't ready
pub setting_unready : (b : Book) (t : TurnState) (link : LinkState) (greeting : Greeting) → t.life ≡ SettingUp link greeting → Tied b t → IsUnready b.created t.life t.started
setting_unready b t link greeting e h = let s = setting_tied b t link greeting e h in record { bare = ap link_in e; none = s.none; unready = ap is_ready e; alive = ap has_ended e; there = ap is_resting e }

-- nor is one that waits for credentials
pub wanting_unready : (b : Book) (t : TurnState) (link : LinkState) → t.life ≡ Wanting link → Tied b t → IsUnready b.created t.life t.started
wanting_unready b t link e h = let s = wanting_tied b t link e h in record { bare = ap link_in e; none = s.none; unready = ap is_ready e; alive = ap has_ended e; there = ap is_resting e }

-- what was told of a link that is there
pub notices_there : (b : Book) (c : Core) (started : List ℕ) → is_resting c.single.connection.life ≡ false → Tied b (inner c started) → PushesOf (hearing_in b.config) c.single.connection.hears (b.link c.single.link)
notices_there b c started there h =
    let l = b.link c.single.link in
    subst (λ (x : Hearing). TiedNotices (hearing_in b.config) c.single.connection.hears x l.notices l.told l.end l.parted l.strange (is_reading l) [] false) (hearing_on c.single.connection.life c.single.connection.hears l.hearing there) h.notices

-- a link that is set up fails by news that leave its ledger
plain_fails : (before : List Action) (c : Core) (started : List ℕ) (n : News) (x : RedisError) (link : LinkState) (greeting : Greeting) → Between before c started → c.single.connection.life ≡ SettingUp link greeting
    → (let l = record ((book before).link c.single.link) { heard = n } in ending_unready l n ≡ Some (by_opening x)) → Fails (record ((book before).link c.single.link) { heard = n }) c.single.connection.info c.single.connection.renewal.wanted (hearing_in (book before).config) c.single.connection.hears x
plain_fails before c started n x link greeting h e is =
    let b = book before in
    let l = b.link c.single.link in
    let s = setting_tied b (inner c started) link greeting e h.sound.tied in
    record {
      alive = s.alive;
      unready = (not_set_up (record l { heard = n }) link greeting (setting_told l n link greeting s.said)).unset;
      must = setting_heard l n link greeting s.up s.said ∙ is;
      info_is = on_link c.single.connection.life (l.info ≡ c.single.connection.info) (ap is_resting e) h.sound.tied.setup.info_is;
      wanted_is = on_link c.single.connection.life (l.creds.wanted ≡ c.single.connection.renewal.wanted) (ap is_resting e) h.sound.tied.creds.wanted_is;
      sourced = has_sourced (record l { heard = n }) s.has (not_set_up (record l { heard = n }) link greeting (setting_told l n link greeting s.said)).unset;
      sent = h.sound.tied.setup.sent;
      notices = renoticed (tame_between before c started h) (notices_there b c started (ap is_resting e) h.sound.tied);
    }

-- and so does one that waits for credentials
wanting_fails : (before : List Action) (c : Core) (started : List ℕ) (n : News) (x : RedisError) (link : LinkState) → Between before c started → c.single.connection.life ≡ Wanting link
    → (let l = record ((book before).link c.single.link) { heard = n } in ending_unready l n ≡ Some (by_opening x)) → Fails (record ((book before).link c.single.link) { heard = n }) c.single.connection.info c.single.connection.renewal.wanted (hearing_in (book before).config) c.single.connection.hears x
wanting_fails before c started n x link h e is =
    let b = book before in
    let l = b.link c.single.link in
    let s = wanting_tied b (inner c started) link e h.sound.tied in
    record {
      alive = s.alive;
      unready = (lacking_unset (record l { heard = n }) s.lacks).unset;
      must = ending_wanting (record l { heard = n }) s.up s.lacks ∙ is;
      info_is = on_link c.single.connection.life (l.info ≡ c.single.connection.info) (ap is_resting e) h.sound.tied.setup.info_is;
      wanted_is = on_link c.single.connection.life (l.creds.wanted ≡ c.single.connection.renewal.wanted) (ap is_resting e) h.sound.tied.creds.wanted_is;
      sourced = asked_sourced (record l { heard = n }) s.sought.1 (inl (lacking_unset (record l { heard = n }) s.lacks).unset);
      sent = h.sound.tied.setup.sent;
      notices = renoticed (tame_between before c started h) (notices_there b c started (ap is_resting e) h.sound.tied);
    }

-- a fault of a link that is set up ends it
fault_applied : (before : List Action) (c : Core) (started : List ℕ) (word : ℕ) (kind : EventKind) (n : News) (link : LinkState) (f : LinkFault) → Between before c started
    → Begins (before ++ turn_of c word kind ∷ []) (turned c kind) c.single.connection (heard_by (book before) c n) (book before).story [] started → c.single.connection.life ≡ Ready link
    → ending ((book (trace_of_acts (before ++ turn_of c word kind ∷ []) (turned c kind) [])).link c.single.link) ≡ Some (by_fault f)
    → HasApplied (before ++ turn_of c word kind ∷ []) (with_work (record { core = turned c kind; acts = [] }) (ended_by (record { conn = c.single.connection; acts = [] }) link f)) started
fault_applied before c started word kind n link f h begins e must =
    ended_applied (before ++ turn_of c word kind ∷ []) (turned c kind) (ended_by (record { conn = c.single.connection; acts = [] }) link f) error.Closed started (λ z. absurd (omega arith))
    (parted_moved (record { conn = c.single.connection; acts = [] }) (row_hit f link.row ++ queue_closed link.queue) ∙ h.moved)
    (fault_ends (before ++ turn_of c word kind ∷ []) (turned c kind) (record { conn = c.single.connection; acts = [] }) link f started begins.holds e must)

-- a fault, or the peer's end
pub failed_applied : (before : List Action) (c : Core) (started : List ℕ) (word : ℕ) (kind : EventKind) (f : LinkFault) → Between before c started → is_bad c kind ≡ false → IsNewsKind c.timers kind → news_of c.timers c.sources c.single.link kind ≡ failed f
    → HasEffect (before ++ turn_of c word kind ∷ []) (with_work (record { core = turned c kind; acts = [] }) (failed_at (record { conn = c.single.connection; acts = [] }) f c.single.connection.life)) started
failed_applied before c started word kind f h good k is = by_life c.single.connection.life refl
  where
    by_life : (x : Life) → c.single.connection.life ≡ x → HasEffect (before ++ turn_of c word kind ∷ []) (with_work (record { core = turned c kind; acts = [] }) (failed_at (record { conn = c.single.connection; acts = [] }) f x)) started
    by_life Resting e = inl (resting_quiet before c started word kind (failed f) (λ z. cc) h good k is e)
    by_life Dialing e = inl (dialing_quiet before c started word kind (failed f) tt h good k is e)
    by_life (Ended x) e = inl (ended_quiet before c started word kind (failed f) x h good k is e)
    by_life (SettingUp link greeting) e =
        let s = setting_tied (book before) (inner c started) link greeting e h.sound.tied in
        let x = greeting_error greeting link.row f in
        setup_failed before c started word kind (failed f) x h good k is (λ z. cc) (setting_unready (book before) (inner c started) link greeting e h.sound.tied)
        (plain_fails before c started (failed f) x link greeting h e (ap (λ (y : RedisError). Some (by_opening y)) (opening_error_is (λ p. greeter greeting) ((book before).link c.single.link) link greeting f s.said s.alive s.tied)))
    by_life (Wanting link) e =
        setup_failed before c started word kind (failed f) error.Closed h good k is (λ z. cc) (wanting_unready (book before) (inner c started) link e h.sound.tied)
        (wanting_fails before c started (failed f) error.Closed link h e (ap (λ (y : RedisError). Some (by_opening y)) (bare_error_is ((book before).link c.single.link) f (wanting_tied (book before) (inner c started) link e h.sound.tied).starts)))
    by_life (Ready link) e =
        let begins = plain_begins before c started word kind (failed f) tt h good k is in
        let l = (book before).link c.single.link in
        let u = up_tied (book before) (inner c started) link e h.sound.tied in
        let g = felt c.single.connection.hears f in
        let must = ap ending begins.ledger ∙ ready_heard l (failed f) u.up u.well ∙ ap (λ (x : Hearing). Some (by_fault (felt x f))) (hearing_there c.single.connection.life c.single.connection.hears l.hearing (ap is_resting e) h.sound.tied.notices.hearing_is) in
        inl (fault_applied before c started word kind (failed f) link g h begins e must)

-- the stream of messages is dropped on a link that is up
pub dropped_up : (before : List Action) (c : Core) (started : List ℕ) (word : ℕ) (kind : EventKind) → hears_messages c.single.connection.hears ≡ true → Between before c started → is_bad c kind ≡ false → IsNewsKind c.timers kind → news_of c.timers c.sources c.single.link kind ≡ dropped
    → (x : Life) → c.single.connection.life ≡ x → x ≢ Dialing → HasEffect (before ++ turn_of c word kind ∷ []) (with_work (record { core = turned c kind; acts = [] }) (dropped_at (record { conn = c.single.connection; acts = [] }) x)) started
dropped_up before c started word kind listens h good k is = by_life
  where
    l : Ledger
    l = (book before).link c.single.link

    heard : is_resting c.single.connection.life ≡ false → hears_messages l.hearing ≡ true
    heard there = ap hears_messages (hearing_there c.single.connection.life c.single.connection.hears l.hearing there h.sound.tied.notices.hearing_is) ∙ listens

    opens : is_resting c.single.connection.life ≡ false → ending_unready (record l { heard = dropped }) dropped ≡ Some (by_opening error.Closed)
    opens there = taken_if (hears_messages l.hearing) (Some (by_opening error.Closed)) None (heard there)

    by_life : (x : Life) → c.single.connection.life ≡ x → x ≢ Dialing → HasEffect (before ++ turn_of c word kind ∷ []) (with_work (record { core = turned c kind; acts = [] }) (dropped_at (record { conn = c.single.connection; acts = [] }) x)) started
    by_life Resting e other = inl (resting_quiet before c started word kind dropped (λ z. cc) h good k is e)
    by_life Dialing e other = absurd (other refl)
    by_life (Ended x) e other = inl (ended_quiet before c started word kind dropped x h good k is e)
    by_life (SettingUp link greeting) e other =
        setup_failed before c started word kind dropped error.Closed h good k is (λ z. cc) (setting_unready (book before) (inner c started) link greeting e h.sound.tied)
        (plain_fails before c started dropped error.Closed link greeting h e (opens (ap is_resting e)))
    by_life (Wanting link) e other =
        setup_failed before c started word kind dropped error.Closed h good k is (λ z. cc) (wanting_unready (book before) (inner c started) link e h.sound.tied)
        (wanting_fails before c started dropped error.Closed link h e (opens (ap is_resting e)))
    by_life (Ready link) e other =
        let begins = plain_begins before c started word kind dropped tt h good k is in
        let u = up_tied (book before) (inner c started) link e h.sound.tied in
        let must = ap ending begins.ledger ∙ ready_heard l dropped u.up u.well ∙ taken_if (hears_messages l.hearing) (Some (by_fault faults.Ended)) None (heard (ap is_resting e)) in
        inl (fault_applied before c started word kind dropped link faults.Ended h begins e must)

-- the time of the opening is over while the link is set up
pub setting_overdue : (before : List Action) (c : Core) (started : List ℕ) (word : ℕ) (kind : EventKind) (link : LinkState) (greeting : Greeting) → Between before c started → is_bad c kind ≡ false → IsNewsKind c.timers kind → news_of c.timers c.sources c.single.link kind ≡ overdue
    → c.single.connection.life ≡ SettingUp link greeting
    → HasEffect (before ++ turn_of c word kind ∷ []) (with_work (record { core = turned c kind; acts = [] }) (overdue_at (record { conn = c.single.connection; acts = [] }) (SettingUp link greeting))) started
setting_overdue before c started word kind link greeting h good k is e =
    let x = error.Io kinds.TimedOut in
    setup_failed before c started word kind overdue x h good k is (λ z. cc) (setting_unready (book before) (inner c started) link greeting e h.sound.tied) (plain_fails before c started overdue x link greeting h e refl)

-- or while it waits for credentials
pub wanting_overdue : (before : List Action) (c : Core) (started : List ℕ) (word : ℕ) (kind : EventKind) (link : LinkState) → Between before c started → is_bad c kind ≡ false → IsNewsKind c.timers kind → news_of c.timers c.sources c.single.link kind ≡ overdue
    → c.single.connection.life ≡ Wanting link
    → HasEffect (before ++ turn_of c word kind ∷ []) (with_work (record { core = turned c kind; acts = [] }) (overdue_at (record { conn = c.single.connection; acts = [] }) (Wanting link))) started
wanting_overdue before c started word kind link h good k is e =
    let x = error.Io kinds.TimedOut in
    setup_failed before c started word kind overdue x h good k is (λ z. cc) (wanting_unready (book before) (inner c started) link e h.sound.tied) (wanting_fails before c started overdue x link h e refl)

-- so the opening fails
pub denied_fails : (before : List Action) (c : Core) (started : List ℕ) (word : ℕ) (kind : EventKind) (n : News) (x : RedisError) (link : LinkState) → Denies n x → Between before c started → is_bad c kind ≡ false → IsNewsKind c.timers kind
    → news_of c.timers c.sources c.single.link kind ≡ n → c.single.connection.life ≡ Wanting link
    → HasEffect (before ++ turn_of c word kind ∷ []) (with_work (record { core = turned c kind; acts = [] }) (unauthorized_at (record { conn = c.single.connection; acts = [] }) x (Wanting link))) started
denied_fails before c started word kind n x link d h good k is e =
    let b = book before in
    let l = b.link c.single.link in
    let s = wanting_tied b (inner c started) link e h.sound.tied in
    setup_failed before c started word kind n x h good k is d.open_still (wanting_unready b (inner c started) link e h.sound.tied)
    (subst (λ (y : Ledger). Fails y c.single.connection.info c.single.connection.renewal.wanted (hearing_in b.config) c.single.connection.hears x) (sym (d.stays l c.turns))
    (wanting_fails before c started n x link h e (d.ends (record l { heard = n }) ∙ taken_if (lacks_credentials l) (Some (by_opening x)) None s.lacks)))

-- everything is shut down
pub shut_applied : (before : List Action) (c : Core) (started : List ℕ) (word : ℕ) (kind : EventKind) → Between before c started → is_bad c kind ≡ false → IsNewsKind c.timers kind → news_of c.timers c.sources c.single.link kind ≡ shut → is_shutdown kind ≡ true
    → HasApplied (before ++ turn_of c word kind ∷ []) (with_work (record { core = turned c kind; acts = [] }) (shut_at (record { conn = c.single.connection; acts = [] }) c.single.connection.life)) started
shut_applied before c started word kind h good k is shuts = by_life c.single.connection.life refl
  where
    l : Ledger
    l = (book before).link c.single.link

    begins : Begins (before ++ turn_of c word kind ∷ []) (turned c kind) c.single.connection (heard_by (book before) c shut) (book before).story [] started
    begins = plain_begins before c started word kind shut tt h good k is

    over : (turned c kind).shut ≡ true
    over = ap (λ y. c.shut || y) shuts ∙ or_true c.shut
      where
        or_true : (y : Bool) → (y || true) ≡ true
        or_true true = refl
        or_true false = refl

    -- where no request has a place
    bare : (x : Life) → c.single.connection.life ≡ x → has_ended x ≡ false → link_in x ≡ no_link → ending (record l { heard = shut }) ≡ Some by_shutdown
        → HasApplied (before ++ turn_of c word kind ∷ []) (with_work (record { core = turned c kind; acts = [] }) (ended (record { conn = c.single.connection; acts = [] }) [])) started
    bare x e alive none must =
        ended_applied (before ++ turn_of c word kind ∷ []) (turned c kind) (ended (record { conn = c.single.connection; acts = [] }) []) error.Closed started (λ z. absurd (omega arith))
        (ended_moved (record { conn = c.single.connection; acts = [] }) [] ∙ h.moved)
        (bare_ends (before ++ turn_of c word kind ∷ []) (turned c kind) (record { conn = c.single.connection; acts = [] }) started begins.holds over (ap has_ended e ∙ alive) (ap link_in e ∙ none) (ap ending begins.ledger ∙ must))

    by_life : (x : Life) → c.single.connection.life ≡ x → HasApplied (before ++ turn_of c word kind ∷ []) (with_work (record { core = turned c kind; acts = [] }) (shut_at (record { conn = c.single.connection; acts = [] }) x)) started
    by_life (Ended x) e = ended_quiet before c started word kind shut x h good k is e
    by_life Resting e =
        let front = before ++ turn_of c word kind ∷ [] in
        let w : Work = record { conn = c.single.connection; acts = [] } in
        let a = waiting_shut front (turned c kind) w started begins.holds e over in
        let v = waiting_failed w error.Closed in
        let b = book (trace_of_acts front (turned c kind) v.acts) in
        let rests : v.conn.life ≡ Resting = a.over in
        record {
          sound = a.holds;
          ended = none_ends b (seen (turned c kind) v.acts v.conn [] started) a.holds.tied (resting_ends (b.link c.single.link) b.created v.conn.life (ap is_resting rests) a.holds.tied.life);
          began = λ z. absurd (omega arith);
          moved = (waiting_leaves w error.Closed).moved ∙ h.moved;
          fit = record {
            wanting = λ link y. (let no : Resting ≡ Wanting link = sym rests ∙ y in cc);
            setup = λ link greeting y. (let no : Resting ≡ SettingUp link greeting = sym rests ∙ y in cc);
            link = λ link y. (let no : Resting ≡ Ready link = sym rests ∙ y in cc);
            none = λ y. a.none_admitted;
          };
          hushed = λ y. subst (λ (x : Life). IsStopped x v.conn.waiting) (sym rests) a.none_waits;
        }
    by_life Dialing e =
        let lived = subst (λ (x : Life). TiedLife l (book before).created x) e h.sound.tied.life in
        let asked : (l.asked && not (is_over l)) ≡ true = (λ i. lived.0 i && not (is_some (lived.2 i))) in
        bare Dialing e refl refl (left_if l.up (ending_alive (record l { heard = shut })) _ lived.1 ∙ taken_if (l.asked && not (is_over l)) (Some by_shutdown) None asked)
    by_life (Wanting link) e =
        let s = wanting_tied (book before) (inner c started) link e h.sound.tied in
        bare (Wanting link) e refl refl (ending_wanting (record l { heard = shut }) s.up s.lacks)
    by_life (SettingUp link greeting) e =
        let s = setting_tied (book before) (inner c started) link greeting e h.sound.tied in
        bare (SettingUp link greeting) e refl refl (setting_heard l shut link greeting s.up s.said)
    by_life (Ready link) e =
        let u = up_tied (book before) (inner c started) link e h.sound.tied in
        let must = ap ending begins.ledger ∙ ready_heard l shut u.up u.well in
        ended_applied (before ++ turn_of c word kind ∷ []) (turned c kind) (shut_at (record { conn = c.single.connection; acts = [] }) (Ready link)) error.Closed started (λ z. absurd (omega arith))
        (ended_moved (record { conn = c.single.connection; acts = [] }) (row_closed link.row ++ queue_closed link.queue) ∙ h.moved)
        (shutdown_ends (before ++ turn_of c word kind ∷ []) (turned c kind) (record { conn = c.single.connection; acts = [] }) link started begins.holds over e must)
