-- Credentials come for the setup of the connection's link, or there are none.
use Rattle.std.proofs.Common.{◌≡◌, ◌≢◌, inr, ℕ, false, List, [], ◌∷◌, ◌++◌, None, Some, refl, sym, ap, ◌∙◌, subst, arith, inl}
use Rattle.containers.proofs.Choices.{left_if}
use Rattle.redis_error.specs.declared.redis_error.RedisError.{RedisError}
use Rattle.redis_error.specs.declared.redis_error.RedisError.TheVariants as error
use Rattle.connection_info.specs.declared.address.RedisConnectionInfo.{RedisConnectionInfo}
use Rattle.credentials.specs.Credentials.{Credentials}
use Rattle.driver_model.specs.declared.action.Action.{Action}
use Rattle.driver_model.specs.declared.action.Owner.{Owner}
use Rattle.driver_model.specs.declared.action.Owner.TheVariants as owner
use Rattle.driver_model.specs.declared.action.WaitKind.{WaitKind}
use Rattle.driver_model.specs.declared.action.WaitKind.TheVariants as wait
use Rattle.driver_model.specs.declared.event.EventKind.{EventKind}
use Rattle.driver_model.specs.News.{News, authorized, denied, deserted, news_of}
use Rattle.link_core.specs.Link.{LinkState}
use Rattle.link_laws.proofs.TiedLink.{SameNames, TiedLink, authorized_tied, named_tied}
use Rattle.mux_conn.specs.declared.life.Life.{Life}
use Rattle.mux_conn.specs.declared.life.Life.TheVariants.{Resting, Dialing, Wanting, SettingUp, Ready, Ended}
use Rattle.mux_conn.specs.Connection.{is_ready, is_resting}
use Rattle.mux_conn.specs.Effects.{authorized_at, come_up, unauthorized_at, with_credentials}
use Rattle.mux_conn.specs.Turn.{early_wait}
use Rattle.single_session.specs.declared.core_state.Core.{Core}
use Rattle.single_session.specs.Turn.{with_work, is_bad}
use Rattle.legal_trace.specs.Ledger.{Ledger, authorized_by, by_opening, ending, lacks_credentials, setup_count}
use Rattle.legal_trace.specs.Book.{book, hearing_in}
use Rattle.conn_laws.proofs.Links.Server.{AreSetups, on_link}
use Rattle.conn_laws.proofs.Ties.Tied.{has_ended, link_in}
use Rattle.session_laws.proofs.Ties.Tied.{inner}
use Rattle.conn_laws.proofs.Links.Creds.{awaited_is, has_credentials, none_awaited, unawaited_is, wanting_awaits}
use Rattle.conn_laws.proofs.Links.Said.{PushesOf, ready_heard, setting_heard, renoticed}
use Rattle.session_laws.proofs.Ties.States.{Between, HasApplied, HasEffect}
use Rattle.session_laws.proofs.Turn.Announce.{IsNewsKind, turn_of, turned}
use Rattle.session_laws.proofs.Turn.Heard.{dialing_quiet, ended_quiet, heard_by, tame_between, resting_quiet}
use Rattle.conn_laws.proofs.Links.End.{Denies}
use Rattle.session_laws.proofs.Links.End.{denied_fails, setting_tied, up_tied, wanting_tied, notices_there}
use Rattle.conn_laws.proofs.Links.ComeUp.{IsEarly, IsUpNow}
use Rattle.session_laws.proofs.Links.ComeUp.{comes_up}
use Rattle.session_laws.proofs.Links.Connect.{passed_over}

-- they are said to the server
abbrev said_by : RedisConnectionInfo → Credentials → RedisConnectionInfo
said_by info a = record info { username = Some a.username; password = Some a.password }

-- the ledger of a link that waits for them
given_is : (before : List Action) (c : Core) (started : List ℕ) (a : Credentials) (link : LinkState) → Between before c started → c.single.connection.life ≡ Wanting link
    → heard_by (book before) c (authorized a) ≡ record (authorized_by ((book before).link c.single.link) a) { heard = authorized a }
given_is before c started a link h e =
    let l = (book before).link c.single.link in
    let s = wanting_tied (book before) (inner c started) link e h.sound.tied in
    awaited_is l c.turns a (wanting_awaits l link s.up s.sought)

-- it is up, as a link that is new
given_now : (before : List Action) (c : Core) (started : List ℕ) (a : Credentials) (link : LinkState) → Between before c started → c.single.connection.life ≡ Wanting link
    → IsUpNow (heard_by (book before) c (authorized a)) (book before).created c.single.connection (said_by c.single.connection.info a) started link
given_now before c started a link h e =
    let b = book before in
    let conn = c.single.connection in
    let l0 = b.link c.single.link in
    let l = heard_by b c (authorized a) in
    let t = h.sound.tied in
    let s = wanting_tied b (inner c started) link e t in
    let is = given_is before c started a link h e in
    let starts : l.starts ≡ [] = ap (λ (x : Ledger). x.starts) is ∙ s.starts in
    let name : ℕ → Owner = λ p. owner.Setup in
    let tied : TiedLink name l link = authorized_tied name l0 link c.turns a s.tied in
    record {
      asked = ap (λ (x : Ledger). x.asked) is ∙ s.asked;
      up = ap (λ (x : Ledger). x.up) is ∙ s.up;
      alive = ap (λ (x : Ledger). x.end) is ∙ s.alive;
      info_is = ap (λ (x : Ledger). x.info) is ∙ ap (λ (x : RedisConnectionInfo). said_by x a) (on_link conn.life (l0.info ≡ conn.info) (ap is_resting e) t.setup.info_is);
      wanted_is = ap (λ (x : Ledger). x.creds.wanted) is ∙ on_link conn.life (l0.creds.wanted ≡ conn.renewal.wanted) (ap is_resting e) t.creds.wanted_is;
      sent = none_sent l starts;
      starts = starts;
      none = s.none;
      tied = λ other. named_tied name other l link (subst (SameNames name other) (sym s.row) tt) tied;
      queue = s.queue;
      row = s.row;
      fit = h.fit.wanting link e;
    }
  where
    none_sent : (l : Ledger) → l.starts ≡ [] → AreSetups l
    none_sent l none k s less at = absurd (let count = ap setup_count none in omega arith)

-- what was waited for then
early_wanting : (life : Life) (after : WaitKind) (link : LinkState) → life ≡ Wanting link → wait.Creds ≢ after → IsEarly life after
early_wanting life after link e other = record { bare = ap link_in e; unready = ap is_ready e; alive = ap has_ended e; there = ap is_resting e; other = λ same. other (sym (ap early_wait e) ∙ same) }

-- the first that come: the link is set up by them
given_up : (before : List Action) (c : Core) (started : List ℕ) (word : ℕ) (kind : EventKind) (a : Credentials) (link : LinkState) → Between before c started → is_bad c kind ≡ false → IsNewsKind c.timers kind → news_of c.timers c.sources c.single.link kind ≡ authorized a
    → c.single.connection.life ≡ Wanting link
    → HasApplied (before ++ turn_of c word kind ∷ []) (with_work (record { core = turned c kind; acts = [] }) (come_up (with_credentials (record { conn = c.single.connection; acts = [] }) a) link)) started
given_up before c started word kind a link h good k is e =
    let b = book before in
    let conn = c.single.connection in
    let s = wanting_tied b (inner c started) link e h.sound.tied in
    let same = given_is before c started a link h e in
    comes_up before c started word kind (authorized a) (said_by conn.info a) link h good k is (λ x. x) (λ z. cc) (early_wanting conn.life wait.Permit link e (λ x. cc)) (early_wanting conn.life wait.Setup link e (λ x. cc)) (given_now before c started a link h e)
    (inr (ap (λ (x : Ledger). x.creds.asked) same ∙ s.sought.1, ap (λ (x : Ledger). x.creds.given) same))
    (subst (λ (x : Ledger). PushesOf (hearing_in b.config) conn.hears x) (sym same) (renoticed (tame_between before c started h) (notices_there b c started (ap is_resting e) h.sound.tied))) (λ more. refl, refl)

-- credentials come
pub authorized_applied : (before : List Action) (c : Core) (started : List ℕ) (word : ℕ) (kind : EventKind) (a : Credentials) → Between before c started → is_bad c kind ≡ false → IsNewsKind c.timers kind → news_of c.timers c.sources c.single.link kind ≡ authorized a
    → HasApplied (before ++ turn_of c word kind ∷ []) (with_work (record { core = turned c kind; acts = [] }) (authorized_at (record { conn = c.single.connection; acts = [] }) a c.single.connection.life)) started
authorized_applied before c started word kind a h good k is = by_life c.single.connection.life refl
  where
    l : Ledger
    l = (book before).link c.single.link

    late : lacks_credentials l ≡ false → ending (record l { heard = authorized a }) ≡ None
        → HasApplied (before ++ turn_of c word kind ∷ []) (with_work (record { core = turned c kind; acts = [] }) (record { conn = c.single.connection; acts = [] })) started
    late given none = passed_over before c started word kind (authorized a) h good k is (λ z. cc) (unawaited_is l c.turns a (none_awaited l given)) none

    by_life : (x : Life) → c.single.connection.life ≡ x → HasApplied (before ++ turn_of c word kind ∷ []) (with_work (record { core = turned c kind; acts = [] }) (authorized_at (record { conn = c.single.connection; acts = [] }) a x)) started
    by_life Resting e = resting_quiet before c started word kind (authorized a) (λ z. cc) h good k is e
    by_life Dialing e = dialing_quiet before c started word kind (authorized a) tt h good k is e
    by_life (Wanting link) e = given_up before c started word kind a link h good k is e
    by_life (SettingUp link greeting) e =
        let s = setting_tied (book before) (inner c started) link greeting e h.sound.tied in
        late (has_credentials l.creds s.has) (setting_heard l (authorized a) link greeting s.up s.said)
    by_life (Ready link) e =
        let u = up_tied (book before) (inner c started) link e h.sound.tied in
        late (has_credentials l.creds u.has) (ready_heard l (authorized a) u.up u.well)
    by_life (Ended x) e = ended_quiet before c started word kind (authorized a) x h good k is e

-- a source says why it has none
pub text_denies : (text : List ℕ) → Denies (denied text) (error.Credentials text)
text_denies text = record { stays = λ l turn. refl; apart = tt; ends = λ l. refl; calm = λ l. refl; open_still = λ z. cc }

-- or it has ended
pub end_denies : Denies deserted (error.AuthFailed [])
end_denies = record { stays = λ l turn. refl; apart = tt; ends = λ l. refl; calm = λ l. refl; open_still = λ z. cc }

-- there are none
pub denied_applied : (before : List Action) (c : Core) (started : List ℕ) (word : ℕ) (kind : EventKind) (n : News) (x : RedisError) → Denies n x → Between before c started → is_bad c kind ≡ false → IsNewsKind c.timers kind → news_of c.timers c.sources c.single.link kind ≡ n
    → HasEffect (before ++ turn_of c word kind ∷ []) (with_work (record { core = turned c kind; acts = [] }) (unauthorized_at (record { conn = c.single.connection; acts = [] }) x c.single.connection.life)) started
denied_applied before c started word kind n x d h good k is = by_life c.single.connection.life refl
  where
    l : Ledger
    l = (book before).link c.single.link

    told : Ledger
    told = record l { heard = n }

    late : ending told ≡ None → HasApplied (before ++ turn_of c word kind ∷ []) (with_work (record { core = turned c kind; acts = [] }) (record { conn = c.single.connection; acts = [] })) started
    late none = passed_over before c started word kind n h good k is d.open_still (d.stays l c.turns) none

    by_life : (y : Life) → c.single.connection.life ≡ y → HasEffect (before ++ turn_of c word kind ∷ []) (with_work (record { core = turned c kind; acts = [] }) (unauthorized_at (record { conn = c.single.connection; acts = [] }) x y)) started
    by_life Resting e = inl (resting_quiet before c started word kind n d.open_still h good k is e)
    by_life Dialing e = inl (dialing_quiet before c started word kind n d.apart h good k is e)
    by_life (Wanting link) e = denied_fails before c started word kind n x link d h good k is e
    by_life (SettingUp link greeting) e =
        let s = setting_tied (book before) (inner c started) link greeting e h.sound.tied in
        inl (late (setting_heard l n link greeting s.up s.said ∙ d.ends told ∙ left_if (lacks_credentials l) (Some (by_opening x)) None (has_credentials l.creds s.has)))
    by_life (Ready link) e =
        let u = up_tied (book before) (inner c started) link e h.sound.tied in
        inl (late (ready_heard l n u.up u.well ∙ d.calm told))
    by_life (Ended y) e = inl (ended_quiet before c started word kind n y h good k is e)
