-- A turn of an event: where it may stand, and what its link and the others hear.
use Rattle.std.proofs.Common.{◌≡◌, ◌≢◌, inl, inr, ℕ, ◌+◌, ◌-◌, ◌<◌, ◌≤◌, ◌==◌, nat_lt, nat_le, false, ◌&&◌, ◌||◌, not, is_some, List, [], ◌∷◌, ◌++◌, length, slice_get, Some, refl, sym, ap, ◌∙◌, subst, arith, None, Option, true, Bool}
use Rattle.std.proofs.lemmas.List.{append-nil}
use Rattle.containers.proofs.Choices.{or_left, by_test, chosen, left_if, eq_from, ne_from, ne_test, not_le_from, not_both}
use Rattle.driver_model.specs.declared.action.Action.{Action}
use Rattle.driver_model.specs.declared.action.Owner.TheVariants as owner
use Rattle.driver_model.specs.declared.action.Purpose.{Purpose}
use Rattle.driver_model.specs.declared.action.Purpose.TheVariants as purpose
use Rattle.driver_model.specs.declared.action.SourceUse.{SourceUse}
use Rattle.driver_model.specs.declared.action.SourceUse.TheVariants as source
use Rattle.connection_info.specs.declared.address.RedisConnectionInfo.{RedisConnectionInfo}
use Rattle.driver_model.specs.declared.action.Action.TheVariants as action
use Rattle.driver_model.specs.declared.action.Cause.TheVariants as cause
use Rattle.driver_model.specs.declared.event.EventKind.{EventKind}
use Rattle.driver_model.specs.declared.event.EventKind.TheVariants as event
use Rattle.driver_model.specs.declared.news.LinkFault.TheVariants as fault
use Rattle.driver_model.specs.News.{News, silence, connected, took, came, failed, authorized, denied, deserted, for_link, news_of, refused, overdue, of_timer, renewed, unrenewed, late, unrepeated, is_source_of, of_source, renews}
use Rattle.driver_model.specs.declared.outcome.Outcome.TheVariants as outcome
use Rattle.link_laws.proofs.TiedLink.{TiedLink}
use Rattle.mux_conn.specs.declared.again.Again.{Again}
use Rattle.mux_conn.specs.declared.connection.MultiplexedConnection.{MultiplexedConnection}
use Rattle.mux_conn.specs.declared.life.Life.{Life}
use Rattle.mux_conn.specs.declared.life.Life.TheVariants.{Resting, Dialing, Wanting, SettingUp, Ready, Ended}
use Rattle.mux_conn.specs.declared.request.Request.{Request}
use Rattle.single_session.specs.declared.core_state.Core.{Core}
use Rattle.single_session.specs.Turn.{is_shutdown, shut_by, exceeds_offer, is_bad}
use Rattle.legal_trace.specs.Ledger.{Ledger, hears, noted, is_over, Heard}
use Rattle.legal_trace.specs.Story.{fires, has_place}
use Rattle.legal_trace.specs.Book.{Book, book, entered, if_own, is_clock_of, placed_since, since_after, hearing_in, rest_after, timeout_after, kind_in, has_generations}
use Rattle.legal_trace.specs.Events.{is_bad_event}
use Rattle.legal_trace.specs.Legal.{MayTurn}
use Rattle.mux_conn.specs.Connection.{is_resting, is_outstanding}
use Rattle.session_laws.proofs.Managers.Comes.{course_later}
use Rattle.conn_laws.proofs.Links.Server.{TiedCreds, TiedSetup, TiedRenewal, hearing_at, on_link}
use Rattle.conn_laws.proofs.Ties.Tied.{TiedCreation, AreUses, link_in, carried, whole_link, AreAside, TiedLife, TiedLines, AreQueued, TiedWaits, has_ended, TiedNotices, is_reading, IsUse, TiedRounds, AreEarly}
use Rattle.session_laws.proofs.Ties.Tied.{AreAimed, IsAim, TurnState, inner, Tied, Sound, HasCourse}
use Rattle.conn_laws.proofs.Internal.Repeats.{TiedRepeat, serves}
use Rattle.session_laws.proofs.Ties.States.{Between}
use Rattle.session_laws.proofs.Ties.Entered.{book_more, sound_more}
use Rattle.conn_laws.proofs.Requests.Answer.{some_end}
use Rattle.conn_laws.proofs.Ties.Aside.{aside_heard}
use Rattle.session_laws.proofs.Ties.Kept.{tied_by}
use Rattle.session_laws.proofs.Requests.Settle.{seen, trace_of_acts, Holds}
use Rattle.conn_laws.proofs.Ties.Names.{get_more}
use Rattle.mux_conn.specs.declared.renewal.Renewal.{Renewal}
use Rattle.driver_model.specs.Hearing.{is_watching}
use Rattle.driver_model.specs.declared.kind.SessionKind.{SessionKind}
use Rattle.driver_model.specs.Request.{has_no_form}
use Rattle.driver_model.specs.declared.kind.SessionKind.TheVariants as session
use Rattle.conn_laws.proofs.Turn.Announce.{asked_hear, offered_length, tries_by, uses_hear}

-- bad events
--
-- the connection's link can't take so much
too_much : (l : Ledger) (created : ℕ) (life : Life) (requests : List Request) (count : ℕ) → TiedLife l created life → (has_ended life ≡ false → TiedLink (carried life requests) l (whole_link life)) → (not (is_over l) && nat_lt (length l.offer) count) ≡ exceeds_offer life count
too_much l created Resting requests count h link = (λ i. not (is_some (h.2 i)) && nat_lt (offered_length (carried Resting requests) l (whole_link Resting) (link refl) i) count)
too_much l created Dialing requests count h link = (λ i. not (is_some (h.2 i)) && nat_lt (offered_length (carried Dialing requests) l (whole_link Dialing) (link refl) i) count)
too_much l created (Wanting s) requests count h link = (λ i. not (is_some (h.2 i)) && nat_lt (offered_length (carried (Wanting s) requests) l s (link refl) i) count)
too_much l created (SettingUp s greeting) requests count h link = (λ i. not (is_some (h.2 i)) && nat_lt (offered_length (carried (SettingUp s greeting) requests) l s (link refl) i) count)
too_much l created (Ready s) requests count h link = (λ i. not (is_some (h.2 i)) && nat_lt (offered_length (carried (Ready s) requests) l s (link refl) i) count)
too_much l created (Ended e) requests count h link = ap (λ o. not o && nat_lt (length l.offer) count) (some_end l.end (outcome.Fault e) h.1)

-- an event is bad after a trace where it is bad for its session
pub same_badness : (b : Book) (c : Core) (started : List ℕ) (kind : EventKind) → Tied b (inner c started) → is_bad_event b kind ≡ is_bad c kind
unfolding is_bad_event is_bad
same_badness b c started (event.Submit what) h = ap (λ (kind : SessionKind). has_no_form kind what) h.numbers.kind_is
same_badness b c started (event.Cancel n) h = ap (λ k. nat_le k n) h.numbers.submissions
same_badness b c started (event.Connected l) h = ap (λ k. nat_le k l) h.numbers.links
same_badness b c started (event.Refused l f) h = ap (λ k. nat_le k l) h.numbers.links
same_badness b c started (event.Fired n) h = ap (λ (ts : List Purpose). nat_le (length ts) n) h.numbers.timers
same_badness b c started (event.Creds n auth) h = ap (λ (ss : List SourceUse). nat_le (length ss) n) h.numbers.sources
same_badness b c started (event.CredsError n text) h = ap (λ (ss : List SourceUse). nat_le (length ss) n) h.numbers.sources
same_badness b c started (event.CredsEnd n) h = ap (λ (ss : List SourceUse). nat_le (length ss) n) h.numbers.sources
same_badness b c started (event.Bytes l piece) h = ap (λ k. nat_le k l) h.numbers.links
same_badness b c started (event.Ended l) h = ap (λ k. nat_le k l) h.numbers.links
same_badness b c started (event.ReadFault l kind) h = ap (λ k. nat_le k l) h.numbers.links
same_badness b c started (event.WriteFault l kind) h = ap (λ k. nat_le k l) h.numbers.links
same_badness b c started (event.Timeout ms) h = refl
same_badness b c started event.DropStream h = refl
same_badness b c started event.Shutdown h = refl
same_badness b c started (event.Wrote l count) h =
    ap (λ k. nat_le k l || (not (is_over (b.link l)) && nat_lt (length (b.link l).offer) count)) h.numbers.links
    ∙ by_test (nat_le c.links l) _
    (λ t. (λ i. t i || (not (is_over (b.link l)) && nat_lt (length (b.link l).offer) count)) ∙ sym (λ i. t i || ((l == c.single.link) && exceeds_offer c.single.connection.life count)))
    (λ f. ap (λ x. nat_le c.links l || x) (by_test (l == c.single.link) _
    (λ same.
    ap (λ m. not (is_over (b.link m)) && nat_lt (length (b.link m).offer) count) (eq_from l c.single.link same)
    ∙ too_much (b.link c.single.link) b.created c.single.connection.life c.single.connection.requests count h.life h.link
    ∙ sym (ap (λ x. x && exceeds_offer c.single.connection.life count) same))
    (λ other.
    ap (λ x. not x && nat_lt (length (b.link l).offer) count) ((h.others l (ne_from l c.single.link other)).over (not_le_from c.links l f))
    ∙ sym (ap (λ x. x && exceeds_offer c.single.connection.life count) other))))

-- the turn may stand
abbrev pub turn_of : Core → ℕ → EventKind → Action
turn_of c word kind = action.Turn c.turns (cause.Event (record { word = word; kind = kind }))

-- a good event may have its turn after a settled one
pub may_turn : (before : List Action) (c : Core) (started : List ℕ) (word : ℕ) (kind : EventKind) → Between before c started → is_bad c kind ≡ false → MayTurn (book before) c.turns (cause.Event (record { word = word; kind = kind }))
may_turn before c started word kind h good =
    let k = h.sound.tied in
    record {
      next = sym k.numbers.turns;
      is_for = ((λ e. h.began (sym k.numbers.turns ∙ e)), h.settled, same_badness (book before) c started kind k ∙ good);
    }

-- what is heard
--
-- news that are no successful connect are none for one link alone
else_news : (mine : Bool) (n : News) → n ≢ connected → for_link mine n ≢ connected
else_news mine n other = chosen (λ (x : News). x ≢ connected) mine n silence (λ t. other) (λ f e. cc)

-- nor do a timer
timer_news : (m : ℕ) (x : Option Purpose) → of_timer m x ≢ connected
timer_news m None e = cc
timer_news m (Some (purpose.Connect l)) e = else_news (l == m) overdue (λ z. cc) e
timer_news m (Some (purpose.Response who)) e = cc
timer_news m (Some (purpose.Renewal l k)) e = else_news (l == m) (late k) (λ z. cc) e
timer_news m (Some (purpose.Backoff g)) e = cc
timer_news m (Some (purpose.Resubscription l)) e = else_news (l == m) unrepeated (λ z. cc) e

-- and a source of credentials bring one
source_news : (m : ℕ) (x : Option SourceUse) (first later : News) → first ≢ connected → later ≢ connected → of_source m x first later ≢ connected
source_news m x first later one other =
    chosen (λ (y : News). y ≢ connected) (is_source_of m x) first (for_link (renews m x) later) (λ t. one) (λ f. else_news (renews m x) later other)

-- a link that was never asked for hears of no successful connect
pub far_news : (c : Core) (m : ℕ) (kind : EventKind) → is_bad c kind ≡ false → c.links ≤ m → news_of c.timers c.sources m kind ≢ connected
unfolding is_bad
far_news c m (event.Submit what) good past e = cc
far_news c m (event.Cancel n) good past e = cc
far_news c m (event.Connected l) good past e =
    let here : l < c.links = not_le_from c.links l good in
    let none : for_link (l == m) connected ≡ silence = left_if (l == m) connected silence (ne_test l m (λ same. omega arith)) in
    let no : silence ≡ connected = sym none ∙ e in
    cc
far_news c m (event.Refused l f) good past e = else_news (l == m) (refused f) (λ z. cc) e
far_news c m (event.Fired n) good past e = timer_news m (slice_get c.timers n) e
far_news c m (event.Wrote l count) good past e = else_news (l == m) (took count) (λ z. cc) e
far_news c m (event.Bytes l piece) good past e = else_news (l == m) (came piece) (λ z. cc) e
far_news c m (event.Ended l) good past e = else_news (l == m) (failed fault.Ended) (λ z. cc) e
far_news c m (event.ReadFault l kind) good past e = else_news (l == m) (failed (fault.Io kind)) (λ z. cc) e
far_news c m (event.WriteFault l kind) good past e = else_news (l == m) (failed (fault.Io kind)) (λ z. cc) e
far_news c m (event.Creds n auth) good past e = source_news m (slice_get c.sources n) (authorized auth) (renewed auth) (λ z. cc) (λ z. cc) e
far_news c m (event.CredsError n text) good past e = source_news m (slice_get c.sources n) (denied text) silence (λ z. cc) (λ z. cc) e
far_news c m (event.CredsEnd n) good past e = source_news m (slice_get c.sources n) deserted unrenewed (λ z. cc) (λ z. cc) e
far_news c m (event.Timeout ms) good past e = cc
far_news c m event.DropStream good past e = cc
far_news c m event.Shutdown good past e = cc

-- so all other links stay aside, also where the creation is shown with it
pub others_heard : (b : Book) (c : Core) (started : List ℕ) (kind : EventKind) (next : ℕ) → Tied b (inner c started) → is_bad c kind ≡ false → (b.created ≢ 0 → next ≢ 0)
    → AreAside c.single.link c.links (λ m. noted (b.link m) (hears c.turns (news_of b.timers b.sources m kind))) c.single.connection.hears c.single.connection.renewal.within next
others_heard b c started kind next h good shown m other =
    let same : news_of b.timers b.sources m kind ≡ news_of c.timers c.sources m kind = λ i. news_of (h.numbers.timers i) (h.numbers.sources i) m kind in
    aside_heard (b.link m) c.turns next (news_of b.timers b.sources m kind) (λ past e. far_news c m kind good past (sym same ∙ e)) shown (h.others m other)

-- the turn of an event that is of no account for submissions
--
-- the event neither hands in nor cancels, sets no time, and no response timer fires, of these timers
abbrev pub IsNewsKind : List Purpose → EventKind → Type 0
IsNewsKind timers (event.Submit what) = ⊥
IsNewsKind timers (event.Cancel n) = ⊥
IsNewsKind timers (event.Connected l) = Unit {0}
IsNewsKind timers (event.Refused l f) = Unit {0}
IsNewsKind timers (event.Fired n) = (m : ℕ) → is_clock_of m (slice_get timers n) ≡ false
IsNewsKind timers (event.Wrote l count) = Unit {0}
IsNewsKind timers (event.Bytes l piece) = Unit {0}
IsNewsKind timers (event.Ended l) = Unit {0}
IsNewsKind timers (event.ReadFault l kind) = Unit {0}
IsNewsKind timers (event.WriteFault l kind) = Unit {0}
IsNewsKind timers (event.Timeout ms) = ⊥
IsNewsKind timers (event.Creds c auth) = Unit {0}
IsNewsKind timers (event.CredsError c text) = Unit {0}
IsNewsKind timers (event.CredsEnd c) = Unit {0}
IsNewsKind timers event.DropStream = Unit {0}
IsNewsKind timers event.Shutdown = Unit {0}

-- leaves the stories, and places
abbrev pub heard_book : Book → ℕ → ℕ → EventKind → Book
heard_book b number word kind = record b {
  turns = b.turns + 1;
  running = Some (cause.Event (record { word = word; kind = kind }));
  shut = b.shut || is_shutdown kind;
  rest = rest_after b.rest kind;
  errors = [];
  link = λ m. noted (b.link m) (hears number (news_of b.timers b.sources m kind));
  placed = λ m. placed_since (has_place (b.story m)) (b.placed m) (b.turns - 1);
  since = λ m. since_after b m (action.Turn number (cause.Event (record { word = word; kind = kind })));
}

-- an event sets no time for requests
abbrev pub SetsNoTime : EventKind → Type 0
SetsNoTime (event.Timeout ms) = ⊥
SetsNoTime (event.Submit what) = Unit {0}
SetsNoTime (event.Cancel n) = Unit {0}
SetsNoTime (event.Connected l) = Unit {0}
SetsNoTime (event.Refused l f) = Unit {0}
SetsNoTime (event.Fired n) = Unit {0}
SetsNoTime (event.Wrote l count) = Unit {0}
SetsNoTime (event.Bytes l piece) = Unit {0}
SetsNoTime (event.Ended l) = Unit {0}
SetsNoTime (event.ReadFault l f) = Unit {0}
SetsNoTime (event.WriteFault l f) = Unit {0}
SetsNoTime (event.Creds c auth) = Unit {0}
SetsNoTime (event.CredsError c text) = Unit {0}
SetsNoTime (event.CredsEnd c) = Unit {0}
SetsNoTime event.DropStream = Unit {0}
SetsNoTime event.Shutdown = Unit {0}

-- so that stays
pub time_still : (is : SessionKind) (old : Option ℕ) (kind : EventKind) → SetsNoTime kind → timeout_after is old kind ≡ old
time_still (session.Manager lazy) old kind k = refl
time_still session.PubSub old kind k = refl
time_still session.Monitor old kind k = refl
time_still session.Single old (event.Timeout ms) k = absurd k
time_still session.Single old (event.Submit what) k = refl
time_still session.Single old (event.Cancel n) k = refl
time_still session.Single old (event.Connected l) k = refl
time_still session.Single old (event.Refused l f) k = refl
time_still session.Single old (event.Fired n) k = refl
time_still session.Single old (event.Wrote l count) k = refl
time_still session.Single old (event.Bytes l piece) k = refl
time_still session.Single old (event.Ended l) k = refl
time_still session.Single old (event.ReadFault l f) k = refl
time_still session.Single old (event.WriteFault l f) k = refl
time_still session.Single old (event.Creds c auth) k = refl
time_still session.Single old (event.CredsError c text) k = refl
time_still session.Single old (event.CredsEnd c) k = refl
time_still session.Single old event.DropStream k = refl
time_still session.Single old event.Shutdown k = refl

-- with as many submissions as before, and the same time
still_as_many : (b : Book) (number word : ℕ) (kind : EventKind) → SetsNoTime kind
    → record (heard_book b number word kind) { submissions = b.submissions + 0; timeout = timeout_after (kind_in b.config) b.timeout kind } ≡ heard_book b number word kind
still_as_many b number word kind k =
    let e : b.submissions + 0 ≡ b.submissions = omega arith in
    let same = time_still (kind_in b.config) b.timeout kind k in
    λ i. record (heard_book b number word kind) { submissions = e i; timeout = same i }

-- the book with its turn is that book
pub heard_is : (b : Book) (number word : ℕ) (kind : EventKind) → IsNewsKind b.timers kind → entered b (action.Turn number (cause.Event (record { word = word; kind = kind }))) ≡ heard_book b number word kind
heard_is b number word (event.Submit what) k = absurd k
heard_is b number word (event.Cancel n) k = absurd k
heard_is b number word (event.Connected l) k = still_as_many b number word (event.Connected l) tt
heard_is b number word (event.Refused l f) k = still_as_many b number word (event.Refused l f) tt
heard_is b number word (event.Fired n) k =
    let e : b.submissions + 0 ≡ b.submissions = omega arith in
    let same = time_still (kind_in b.config) b.timeout (event.Fired n) tt in
    let still : (m : ℕ) → if_own (is_clock_of m (slice_get b.timers n)) (fires (b.story m)) (b.story m) ≡ b.story m = λ m. left_if (is_clock_of m (slice_get b.timers n)) (fires (b.story m)) (b.story m) (k m) in
    λ i. record (heard_book b number word (event.Fired n)) { submissions = e i; timeout = same i; story = λ m. still m i; placed = λ m. placed_since (has_place (still m i)) (b.placed m) (b.turns - 1) }
heard_is b number word (event.Wrote l count) k = still_as_many b number word (event.Wrote l count) tt
heard_is b number word (event.Bytes l piece) k = still_as_many b number word (event.Bytes l piece) tt
heard_is b number word (event.Ended l) k = still_as_many b number word (event.Ended l) tt
heard_is b number word (event.ReadFault l kind) k = still_as_many b number word (event.ReadFault l kind) tt
heard_is b number word (event.WriteFault l kind) k = still_as_many b number word (event.WriteFault l kind) tt
heard_is b number word (event.Timeout ms) k = absurd k
heard_is b number word (event.Creds c auth) k = still_as_many b number word (event.Creds c auth) tt
heard_is b number word (event.CredsError c text) k = still_as_many b number word (event.CredsError c text) tt
heard_is b number word (event.CredsEnd c) k = still_as_many b number word (event.CredsEnd c) tt
heard_is b number word event.DropStream k = still_as_many b number word event.DropStream tt
heard_is b number word event.Shutdown k = still_as_many b number word event.Shutdown tt

-- the core of the turn
abbrev pub turned : Core → EventKind → Core
turned c kind = shut_by (record c { turns = c.turns + 1 }) kind

-- what timers are for, with none more
pub aims_on : (timers : List Purpose) (link count : ℕ) → AreAimed timers link count → AreAimed (timers ++ []) link count
aims_on timers link count h = subst (λ (ts : List Purpose). AreAimed ts link count) (sym (append-nil timers)) h

-- what sources are for, with none more
pub uses_on : {asked renews : Bool} (sources : List SourceUse) (link : ℕ) → AreUses sources link asked renews → AreUses (sources ++ []) link asked renews
uses_on {asked = asked} {renews = renews} sources link h = subst (λ (ss : List SourceUse). AreUses ss link asked renews) (sym (append-nil sources)) h

-- with one more
pub uses_more : (sources : List SourceUse) (link : ℕ) (asked renews : Bool) (next : SourceUse) → IsUse next link asked renews → AreUses sources link asked renews → AreUses (sources ++ next ∷ []) link asked renews
uses_more sources link asked renews next new h k what e = elim (get_more sources next k what e) [
  | inl old ↦ h k what old
  | inr last ↦ subst (λ w. IsUse w link asked renews) last.1 new
]

-- where the link has no second one, and now has its first
pub uses_asked : (sources : List SourceUse) (link : ℕ) (asked renews next : Bool) → renews ≡ false → AreUses sources link asked renews → AreUses sources link true next
uses_asked sources link asked renews next once h k what e = by_use what (h k what e)
  where
    by_use : (x : SourceUse) → IsUse x link asked renews → IsUse x link true next
    by_use (source.Setup l) u = (u.0, λ same. refl)
    by_use (source.Renewal l) u = (u.0, λ same. absurd (not_both renews once (u.1 same)))

-- with more submissions
pub aims_longer : (timers : List Purpose) (link count more : ℕ) → count ≤ more → AreAimed timers link count → AreAimed timers link more
aims_longer timers link count more l h k what e = by_purpose what (h k what e)
  where
    by_purpose : (x : Purpose) → IsAim x link count → IsAim x link more
    by_purpose (purpose.Connect m) is = is
    by_purpose (purpose.Response owner.Setup) is = absurd is
    by_purpose (purpose.Response owner.Auth) is = absurd is
    by_purpose (purpose.Response owner.Resub) is = absurd is
    by_purpose (purpose.Response owner.Monitor) is = absurd is
    by_purpose (purpose.Renewal m k) is = is
    by_purpose (purpose.Backoff g) is = tt
    by_purpose (purpose.Resubscription m) is = is
    by_purpose (purpose.Response (owner.Try n round)) is = (let less = is.0 in omega arith, is.1)

-- what the session needs of the life, and of the new credentials, that the turn leads to, by the ledger that its link has come
-- to, and by what is said to its server then; the creation may be shown with it
pub record ComesAs (b : Book) (c : Core) (l : Ledger) (created : ℕ) (opened : Bool) (info : RedisConnectionInfo) (renewal : Renewal) (a : Again) (life : Life) (fresh pending : List ℕ) (untold : List Heard) (started : List ℕ) : Type 0 where
  pub starts : l.starts ≡ (b.link c.single.link).starts
  pub hearing_kept : l.hearing ≡ (b.link c.single.link).hearing
  pub spoken : info.protocol ≡ c.single.connection.info.protocol
  pub lived : TiedLife l created life
  pub course : HasCourse l.last l.end c.links c.single.link c.shut c.manager c.single.connection.last opened info c.single.connection.address life
  pub creds : TiedCreds l.creds renewal.wanted life
  pub renewal_is : TiedRenewal l renewal life
  pub repeat_is : TiedRepeat l b.tracked renewal.within a life
  pub said : TiedSetup l info started life
  pub linked : has_ended life ≡ false → TiedLink (carried life c.single.connection.requests) l (whole_link life)
  pub lines : TiedLines b.story c.single.connection.requests (link_in life) c.single.connection.waiting c.single.connection.admitted pending started
  pub told : has_ended life ≡ false → AreQueued b.story c.single.connection.requests c.single.link (link_in life)
  pub waits : TiedWaits b.story c.single.connection.requests a life fresh c.single.connection.moved
  pub rounds : TiedRounds (has_generations b) b.story c.single.connection.requests (serves life a) fresh c.single.connection.rounds
  pub early : AreEarly c.single.connection.requests a life
  pub notices : TiedNotices (hearing_in b.config) c.single.connection.hears (hearing_at life c.single.connection.hears l.hearing) l.notices l.told l.end l.parted l.strange (is_reading l) untold false

-- where its new credentials are as they were
abbrev pub ComesTo : Book → Core → Ledger → ℕ → Bool → RedisConnectionInfo → Life → List ℕ → List ℕ → List Heard → List ℕ → Type 0
ComesTo b c l created opened info life fresh pending untold started = ComesAs b c l created opened info c.single.connection.renewal c.single.connection.again life fresh pending untold started

-- the connection then
abbrev pub renews_as : Core → RedisConnectionInfo → Renewal → Again → Life → List ℕ → MultiplexedConnection
renews_as c info renewal a life fresh = record c.single.connection { info = info; renewal = renewal; again = a; life = life; fresh = fresh }

-- where its new credentials are as they were
abbrev pub comes_as : Core → RedisConnectionInfo → Life → List ℕ → MultiplexedConnection
comes_as c info life fresh = record c.single.connection { info = info; life = life; fresh = fresh }

-- where the server is put into monitor mode no credentials come of sources, none wait, and nothing is subscribed again
abbrev pub StaysQuiet : Core → Renewal → Again → Type 0
StaysQuiet c r a = is_watching c.single.connection.hears ≡ true → (r.wanted ≡ false) × (r.waiting ≡ []) × (is_outstanding a ≡ false)

-- so it is between turns
pub quiet_still : (b : Book) (c : Core) (started : List ℕ) → Tied b (inner c started) → StaysQuiet c c.single.connection.renewal c.single.connection.again
quiet_still b c started h w = let q = h.numbers.quiet w in (q.unwanted, q.unrenewed, q.unrepeated)

-- the session tied to a book with these ledgers, and with these sources of credentials, where new credentials came to this
pub heard_tied_as : (b : Book) (c : Core) (started : List ℕ) (word created : ℕ) (halted told opened : Bool) (kind : EventKind) (info : RedisConnectionInfo) (renewal : Renewal) (a : Again) (life : Life) (fresh pending : List ℕ) (untold : List Heard) (links : ℕ → Ledger) (l : Ledger) (asked uses : List SourceUse) → Tied b (inner c started) → TiedCreation created told
    → (b.created ≢ 0 → created ≢ 0) → renewal.within ≡ c.single.connection.renewal.within → renewal.wanted ≡ c.single.connection.renewal.wanted → StaysQuiet c renewal a
    → AreAside c.single.link c.links links c.single.connection.hears renewal.within created → links c.single.link ≡ l → asked ≡ uses → AreUses uses c.single.link l.creds.asked l.creds.renews → ComesAs b c l created opened info renewal a life fresh pending untold started
    → Tied (record (heard_book b c.turns word kind) { created = created; failed = halted; link = links; sources = asked }) (record (seen (turned c kind) [] (renews_as c info renewal a life fresh) pending started) { told = told; opened = opened; untold = untold; sources = uses })
heard_tied_as b c started word created halted told opened kind info renewal a life fresh pending untold links l asked uses h made shown within wanted quiet others is sourced used k =
    let after = record (heard_book b c.turns word kind) { created = created; failed = halted; link = links; sources = asked } in
    let t = record (seen (turned c kind) [] (renews_as c info renewal a life fresh) pending started) { told = told; opened = opened; untold = untold; sources = uses } in
    tied_by after t l is (record {
      numbers = record {
        turns = ap (λ n. n + 1) h.numbers.turns;
        links = h.numbers.links;
        timers = h.numbers.timers ∙ sym (append-nil c.timers);
        sources = sourced;
        aims = aims_on c.timers c.single.link (length c.table) h.numbers.aims;
        timed = h.numbers.timed;
        submissions = h.numbers.submissions;
        timeout = h.numbers.timeout;
        shut = ap (λ s. s || is_shutdown kind) h.numbers.shut;
        within = h.numbers.within ∙ sym within;
        few = h.numbers.few;
        settings = record { size_is = h.numbers.settings.size_is; bound_is = h.numbers.settings.bound_is; limit_is = h.numbers.settings.limit_is; some = h.numbers.settings.some; limited = h.numbers.settings.limited };
        kind_is = h.numbers.kind_is;
        quiet = λ w. record { none = (h.numbers.quiet w).none; unwanted = (quiet w).0; unrenewed = (quiet w).1; unrepeated = (quiet w).2 };
        comes_back = h.numbers.comes_back;
        lazy = λ is. shown (h.numbers.lazy is);
        current_is = h.numbers.current_is;
        speaks = h.numbers.speaks ∙ sym k.spoken;
        address_is = h.numbers.address_is;
        wants = h.numbers.wants ∙ sym wanted;
        alone = h.numbers.alone;
      };
      others = others;
      notices = k.notices;
      life = k.lived;
      course = course_later life l.last l.end c.links c.single.link c.shut (c.shut || is_shutdown kind) c.manager c.single.connection.last opened info c.single.connection.address (or_left c.shut (is_shutdown kind)) k.course;
      calm = λ up awake. refl;
      creds = k.creds;
      creation = made;
      uses = used;
      renewal = k.renewal_is;
      repeat = k.repeat_is;
      setup = k.said;
      link = k.linked;
      names = h.names;
      story = h.story;
      tries = tries_by (b.link c.single.link) l b.story c.single.connection.requests c.single.link started k.starts k.hearing_kept h.tries;
      lines = k.lines;
      told = k.told;
      waits = k.waits;
      permits = h.permits;
      rounds = k.rounds;
      early = k.early;
      late = λ p o late. absurd (h.late p o late);
    })

-- where they are as they were
pub heard_tied_by : (b : Book) (c : Core) (started : List ℕ) (word created : ℕ) (halted told opened : Bool) (kind : EventKind) (info : RedisConnectionInfo) (life : Life) (fresh pending : List ℕ) (untold : List Heard) (links : ℕ → Ledger) (l : Ledger) (asked uses : List SourceUse) → Tied b (inner c started) → TiedCreation created told → (b.created ≢ 0 → created ≢ 0)
    → AreAside c.single.link c.links links c.single.connection.hears c.single.connection.renewal.within created → links c.single.link ≡ l → asked ≡ uses → AreUses uses c.single.link l.creds.asked l.creds.renews → ComesTo b c l created opened info life fresh pending untold started
    → Tied (record (heard_book b c.turns word kind) { created = created; failed = halted; link = links; sources = asked }) (record (seen (turned c kind) [] (comes_as c info life fresh) pending started) { told = told; opened = opened; untold = untold; sources = uses })
heard_tied_by b c started word created halted told opened kind info life fresh pending untold links l asked uses h made shown others is sourced used k =
    heard_tied_as b c started word created halted told opened kind info c.single.connection.renewal c.single.connection.again life fresh pending untold links l asked uses h made shown refl refl (quiet_still b c started h) others is sourced used k

-- so the session says the same protocol to its server
pub protocol_still : (b : Book) (c : Core) (started : List ℕ) (kind : EventKind) (info : RedisConnectionInfo) (l : Ledger) → Tied b (inner c started) → is_resting c.single.connection.life ≡ false → noted (b.link c.single.link) (hears c.turns (news_of b.timers b.sources c.single.link kind)) ≡ l → l.info ≡ info
    → info.protocol ≡ c.single.connection.info.protocol
protocol_still b c started kind info l h there is told =
    let n = news_of b.timers b.sources c.single.link kind in
    sym (ap (λ (x : RedisConnectionInfo). x.protocol) told) ∙ sym (ap (λ (x : Ledger). x.info.protocol) is) ∙ (asked_hear (b.link c.single.link) c.turns n).protocol ∙ ap (λ (x : RedisConnectionInfo). x.protocol) (on_link c.single.connection.life ((b.link c.single.link).info ≡ c.single.connection.info) there h.setup.info_is)

-- by what its link hears, where new credentials came to this
pub heard_tied_new : (b : Book) (c : Core) (started : List ℕ) (word created : ℕ) (halted told opened : Bool) (kind : EventKind) (info : RedisConnectionInfo) (renewal : Renewal) (a : Again) (life : Life) (fresh pending : List ℕ) (untold : List Heard) (l : Ledger) → Tied b (inner c started) → TiedCreation created told → renewal.within ≡ c.single.connection.renewal.within → renewal.wanted ≡ c.single.connection.renewal.wanted → StaysQuiet c renewal a → is_bad c kind ≡ false → (b.created ≢ 0 → created ≢ 0)
    → noted (b.link c.single.link) (hears c.turns (news_of b.timers b.sources c.single.link kind)) ≡ l → ComesAs b c l created opened info renewal a life fresh pending untold started
    → Tied (record (heard_book b c.turns word kind) { created = created; failed = halted }) (record (seen (turned c kind) [] (renews_as c info renewal a life fresh) pending started) { told = told; opened = opened; untold = untold })
heard_tied_new b c started word created halted told opened kind info renewal a life fresh pending untold l h made within wanted quiet good shown is k =
    heard_tied_as b c started word created halted told opened kind info renewal a life fresh pending untold (heard_book b c.turns word kind).link l b.sources (c.sources ++ []) h made shown within wanted quiet
    (subst (λ o. AreAside c.single.link c.links (heard_book b c.turns word kind).link c.single.connection.hears o created) (sym within) (others_heard b c started kind created h good shown)) is
    (h.numbers.sources ∙ sym (append-nil c.sources))
    (uses_on c.sources c.single.link (subst (λ (x : Ledger). AreUses c.sources c.single.link x.creds.asked x.creds.renews) is (uses_hear c.sources c.single.link (b.link c.single.link) c.turns (news_of b.timers b.sources c.single.link kind) h.uses))) k

-- where they are as they were
pub heard_tied : (b : Book) (c : Core) (started : List ℕ) (word created : ℕ) (halted told opened : Bool) (kind : EventKind) (info : RedisConnectionInfo) (life : Life) (fresh pending : List ℕ) (untold : List Heard) (l : Ledger) → Tied b (inner c started) → TiedCreation created told → is_bad c kind ≡ false → (b.created ≢ 0 → created ≢ 0)
    → noted (b.link c.single.link) (hears c.turns (news_of b.timers b.sources c.single.link kind)) ≡ l → ComesTo b c l created opened info life fresh pending untold started
    → Tied (record (heard_book b c.turns word kind) { created = created; failed = halted }) (record (seen (turned c kind) [] (comes_as c info life fresh) pending started) { told = told; opened = opened; untold = untold })
heard_tied b c started word created halted told opened kind info life fresh pending untold l h made good shown is k = heard_tied_new b c started word created halted told opened kind info c.single.connection.renewal c.single.connection.again life fresh pending untold l h made refl refl (quiet_still b c started h) good shown is k

-- the trace begins
--
-- the turn stands, and the session is tied to its book
pub announced_sound : (before : List Action) (c : Core) (started : List ℕ) (word : ℕ) (kind : EventKind) (t : TurnState) → Between before c started → is_bad c kind ≡ false → Tied (entered (book before) (turn_of c word kind)) t → Sound (before ++ turn_of c word kind ∷ []) t
announced_sound before c started word kind t h good tied = sound_more before (turn_of c word kind) t h.sound.stands (may_turn before c started word kind h good) tied

-- no act is shown yet
pub holds_first : (before : List Action) (f : Core) (conn : MultiplexedConnection) (pending started : List ℕ) → Sound before (seen f [] conn pending started) → Holds before f (record { conn = conn; acts = [] }) pending started
holds_first before f conn pending started h = subst (λ (x : List Action). Sound x (seen f [] conn pending started)) (sym (append-nil before)) h

-- the book of a turn without acts
pub first_book : (before : List Action) (a : Action) (f : Core) → book (trace_of_acts (before ++ a ∷ []) f []) ≡ entered (book before) a
first_book before a f = ap book (append-nil (before ++ a ∷ [])) ∙ book_more before a
