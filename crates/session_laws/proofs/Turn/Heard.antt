-- The turn of an event with news: how it begins, and where no act follows.
use Rattle.std.proofs.Common.{◌≡◌, ◌≢◌, ℕ, ◌==◌, false, ◌&&◌, not, List, [], ◌∷◌, ◌++◌, None, refl, sym, ap, ◌∙◌, subst, arith, Bool, true, ◌⊎◌, inr, ◌||◌}
use Rattle.containers.proofs.Choices.{by_test, eq_from, ne_from, not_both}
use Rattle.redis_error.specs.declared.redis_error.RedisError.{RedisError}
use Rattle.driver_model.specs.declared.action.Action.{Action}
use Rattle.connection_info.specs.declared.address.RedisConnectionInfo.{RedisConnectionInfo}
use Rattle.driver_model.specs.declared.action.Purpose.{Purpose}
use Rattle.driver_model.specs.declared.event.EventKind.{EventKind}
use Rattle.driver_model.specs.declared.event.EventKind.TheVariants as event
use Rattle.driver_model.specs.News.{News, silence, connected, took, came, failed, authorized, denied, deserted, shut, news_of, refused, overdue, renewed, unrenewed, late, unrepeated, dropped}
use Rattle.link_laws.proofs.TiedLink.{TiedLink, told_tied, unheard_tied}
use Rattle.mux_conn.specs.declared.connection.MultiplexedConnection.{MultiplexedConnection}
use Rattle.mux_conn.specs.declared.life.Life.{Life}
use Rattle.mux_conn.specs.declared.life.Life.TheVariants.{Resting, Dialing, Wanting, SettingUp, Ready, Ended}
use Rattle.single_session.specs.declared.core_state.Core.{Core}
use Rattle.single_session.specs.Turn.{with_work, is_bad, is_shutdown}
use Rattle.legal_trace.specs.Ledger.{Ledger, hears, noted, ending, is_over}
use Rattle.legal_trace.specs.Book.{Book, book, entered, hearing_in, has_generations}
use Rattle.legal_trace.specs.Story.{Story}
use Rattle.legal_trace.specs.Legal.{NoneEnds}
use Rattle.conn_laws.proofs.Links.Said.{setup_on, setup_unheard, BringsNothing, pushes_hear, IsTame, renoticed, PushesAt}
use Rattle.session_laws.proofs.Links.Said.{is_tame}
use Rattle.conn_laws.proofs.Links.Server.{TiedCreds, TiedSetup, TiedRenewal}
use Rattle.conn_laws.proofs.Ties.Tied.{link_in, carried, whole_link, TiedLife, TiedLines, AreQueued, TiedWaits, has_ended, TiedRounds, AreEarly}
use Rattle.session_laws.proofs.Ties.Tied.{TurnState, inner, Tied, HasCourse}
use Rattle.session_laws.proofs.Managers.Comes.{course_alike}
use Rattle.conn_laws.proofs.Ties.States.{IsFitIn, IsStopped}
use Rattle.session_laws.proofs.Ties.States.{IsHushed, Between, HasApplied}
use Rattle.conn_laws.proofs.Requests.Answer.{ended_over}
use Rattle.conn_laws.proofs.Ties.Aside.{aside_ends, not_up_ends}
use Rattle.session_laws.proofs.Requests.Settle.{seen, trace_of_acts, Holds}
use Rattle.conn_laws.proofs.Turn.Announce.{heard_starts, heard_hearing, asked_hear}
use Rattle.session_laws.proofs.Turn.Announce.{ComesTo, comes_as, turn_of, turned, IsNewsKind, heard_book, heard_is, heard_tied, announced_sound, holds_first, first_book, far_news}
use Rattle.conn_laws.proofs.Internal.Renewals.{renewal_alike}
use Rattle.mux_conn.specs.Connection.{is_resting}
use Rattle.driver_model.specs.declared.action.SourceUse.{SourceUse}
use Rattle.conn_laws.proofs.Internal.Repeats.{TiedRepeat, again_hear, repeat_alike, serves}
use Rattle.conn_laws.proofs.Turn.Heard.{IsOfAnother, again_quiet, dealt_still, dialing_hears, dialing_no_end, down_creds, end_hear, ended_hears, not_stopped, over_no_end, renewal_still, resting_is, told_life}

-- what a turn of news does to the ledger of the connection's link
abbrev pub heard_by : Book → Core → News → Ledger
heard_by b c n = noted (b.link c.single.link) (hears c.turns n)

-- the session with its link in that life
abbrev pub lives_as : Core → Life → MultiplexedConnection
lives_as c life = record c.single.connection { life = life }

-- no link must end where the connection's need not
pub none_ends : (b : Book) (t : TurnState) → Tied b t → ending (b.link t.link) ≡ None → NoneEnds b
none_ends b t h e m = by_test (m == t.link) _
    (λ same. subst (λ n. ending (b.link n) ≡ None) (sym (eq_from m t.link same)) e)
    (λ other. aside_ends (b.link m) (h.others m (ne_from m t.link other)))

-- the turn is announced, the link lives so, the stories are these, and these are to be answered
pub record Begins (before : List Action) (f : Core) (conn : MultiplexedConnection) (l : Ledger) (story : ℕ → Story) (pending started : List ℕ) : Type 0 where
  pub holds : Holds before f (record { conn = conn; acts = [] }) pending started
  pub ledger : (book (trace_of_acts before f [])).link f.single.link ≡ l
  pub stories : (n : ℕ) → (book (trace_of_acts before f [])).story n ≡ story n

-- what the turn of news needs of the life that it leads to
pub record Leads (b : Book) (c : Core) (n : News) (life : Life) (pending started : List ℕ) : Type 0 where
  pub lived : TiedLife (heard_by b c n) b.created life
  pub course : HasCourse (heard_by b c n).last (heard_by b c n).end c.links c.single.link c.shut c.manager c.single.connection.last c.single.connection.opened c.single.connection.info c.single.connection.address life
  pub creds : TiedCreds (heard_by b c n).creds c.single.connection.renewal.wanted life
  pub renewal_is : TiedRenewal (heard_by b c n) c.single.connection.renewal life
  pub repeat_is : TiedRepeat (heard_by b c n) b.tracked c.single.connection.renewal.within c.single.connection.again life
  pub said : TiedSetup (heard_by b c n) c.single.connection.info started life
  pub linked : has_ended life ≡ false → TiedLink (carried life c.single.connection.requests) (heard_by b c n) (whole_link life)
  pub lines : TiedLines b.story c.single.connection.requests (link_in life) c.single.connection.waiting c.single.connection.admitted pending started
  pub told : has_ended life ≡ false → AreQueued b.story c.single.connection.requests c.single.link (link_in life)
  pub waits : TiedWaits b.story c.single.connection.requests c.single.connection.again life c.single.connection.fresh c.single.connection.moved
  pub rounds : TiedRounds (has_generations b) b.story c.single.connection.requests (serves life c.single.connection.again) c.single.connection.fresh c.single.connection.rounds
  pub early : AreEarly c.single.connection.requests c.single.connection.again life
  pub notices : PushesAt life (hearing_in b.config) c.single.connection.hears (heard_by b c n)

-- the news by the timers and the sources of the book
pub book_news : (b : Book) (c : Core) (started : List ℕ) (kind : EventKind) (n : News) → Tied b (inner c started) → news_of c.timers c.sources c.single.link kind ≡ n → news_of b.timers b.sources c.single.link kind ≡ n
book_news b c started kind n h is = (λ i. news_of (h.numbers.timers i) (h.numbers.sources i) c.single.link kind) ∙ is

-- so it is of no account for submissions
pub book_kind : (b : Book) (c : Core) (kind : EventKind) → b.timers ≡ c.timers → IsNewsKind c.timers kind → IsNewsKind b.timers kind
book_kind b c kind same k = subst (λ (ts : List Purpose). IsNewsKind ts kind) (sym same) k

-- the turn begins so, also with other waits to be shown, and where something else is said to the server
pub fresh_begins : (before : List Action) (c : Core) (started : List ℕ) (word : ℕ) (kind : EventKind) (n : News) (info : RedisConnectionInfo) (life : Life) (fresh pending : List ℕ) → Between before c started → is_bad c kind ≡ false → IsNewsKind c.timers kind
    → news_of c.timers c.sources c.single.link kind ≡ n → ComesTo (book before) c (heard_by (book before) c n) (book before).created c.single.connection.opened info life fresh pending [] started
    → Begins (before ++ turn_of c word kind ∷ []) (turned c kind) (comes_as c info life fresh) (heard_by (book before) c n) (book before).story pending started
fresh_begins before c started word kind n info life fresh pending h good k is g =
    let b = book before in
    let l = heard_by b c n in
    let t = seen (turned c kind) [] (comes_as c info life fresh) pending started in
    let same : noted (b.link c.single.link) (hears c.turns (news_of b.timers b.sources c.single.link kind)) ≡ l = ap (λ (x : News). heard_by b c x) (book_news b c started kind n h.sound.tied is) in
    let tied : Tied (heard_book b c.turns word kind) t = heard_tied b c started word b.created b.failed c.single.connection.told c.single.connection.opened kind info life fresh pending [] l h.sound.tied h.sound.tied.creation good (λ some. some) same g in
    let book_is : entered b (turn_of c word kind) ≡ heard_book b c.turns word kind = heard_is b c.turns word kind (book_kind b c kind h.sound.tied.numbers.timers k) in
    record {
      holds = holds_first (before ++ turn_of c word kind ∷ []) (turned c kind) (comes_as c info life fresh) pending started (announced_sound before c started word kind t h good (subst (λ (x : Book). Tied x t) (sym book_is) tied));
      ledger = ap (λ (x : Book). x.link c.single.link) (first_book before (turn_of c word kind) (turned c kind) ∙ book_is) ∙ same;
      stories = λ m. ap (λ (x : Book). x.story m) (first_book before (turn_of c word kind) (turned c kind) ∙ book_is);
    }

-- where the same are
pub heard_begins : (before : List Action) (c : Core) (started : List ℕ) (word : ℕ) (kind : EventKind) (n : News) (life : Life) (pending : List ℕ) → Between before c started → is_bad c kind ≡ false → IsNewsKind c.timers kind → news_of c.timers c.sources c.single.link kind ≡ n
    → Leads (book before) c n life pending started → Begins (before ++ turn_of c word kind ∷ []) (turned c kind) (lives_as c life) (heard_by (book before) c n) (book before).story pending started
heard_begins before c started word kind n life pending h good k is g =
    let s = fresh_begins before c started word kind n c.single.connection.info life c.single.connection.fresh pending h good k is
    (record { starts = heard_starts ((book before).link c.single.link) c.turns n; hearing_kept = heard_hearing ((book before).link c.single.link) c.turns n; spoken = refl; lived = g.lived; course = g.course; creds = g.creds; renewal_is = g.renewal_is; repeat_is = g.repeat_is; said = g.said; linked = g.linked; lines = g.lines; told = g.told; waits = g.waits; rounds = g.rounds; early = g.early; notices = g.notices }) in
    record { holds = s.holds; ledger = s.ledger; stories = s.stories }

-- where everything is shut down, no link goes on, and without one nobody waits
abbrev pub ClosedAfterShutdown : Core → EventKind → Life → Type 0
ClosedAfterShutdown c kind life = (c.shut || is_shutdown kind) ≡ true → IsStopped life c.single.connection.waiting

-- it was so, and the event doesn't shut it down
pub hushed_still : (c : Core) (kind : EventKind) → is_shutdown kind ≡ false → IsHushed c → ClosedAfterShutdown c kind c.single.connection.life
hushed_still c kind awake h over = h (or_true c.shut (is_shutdown kind) awake over)
  where
    or_true : (x y : Bool) → y ≡ false → (x || y) ≡ true → x ≡ true
    or_true true y e f = refl
    or_true false y e f = sym (sym f ∙ e)

-- nothing else than the shutdown is heard as one
shut_down : (timers : List Purpose) (sources : List SourceUse) (l : ℕ) (kind : EventKind) (n : News) → news_of timers sources l kind ≡ n → n ≢ shut → is_shutdown kind ≡ false
shut_down timers sources l (event.Submit what) n is other = refl
shut_down timers sources l (event.Cancel m) n is other = refl
shut_down timers sources l (event.Connected m) n is other = refl
shut_down timers sources l (event.Refused m f) n is other = refl
shut_down timers sources l (event.Fired m) n is other = refl
shut_down timers sources l (event.Creds m auth) n is other = refl
shut_down timers sources l (event.CredsError m text) n is other = refl
shut_down timers sources l (event.CredsEnd m) n is other = refl
shut_down timers sources l (event.Timeout ms) n is other = refl
shut_down timers sources l (event.Wrote m count) n is other = refl
shut_down timers sources l (event.Bytes m piece) n is other = refl
shut_down timers sources l (event.Ended m) n is other = refl
shut_down timers sources l (event.ReadFault m f) n is other = refl
shut_down timers sources l (event.WriteFault m f) n is other = refl
shut_down timers sources l event.DropStream n is other = refl
shut_down timers sources l event.Shutdown n is other = absurd (other (sym is))

-- so it is in a turn of other news
pub hushed_news : (c : Core) (kind : EventKind) (n : News) → news_of c.timers c.sources c.single.link kind ≡ n → n ≢ shut → IsHushed c → ClosedAfterShutdown c kind c.single.connection.life
hushed_news c kind n is other h = hushed_still c kind (shut_down c.timers c.sources c.single.link kind n is other) h

-- a link that has ended is over
pub hushed_over : (c : Core) (kind : EventKind) (life : Life) → has_ended life ≡ true → ClosedAfterShutdown c kind life
hushed_over c kind Resting ended over = cc
hushed_over c kind Dialing ended over = cc
hushed_over c kind (Wanting link) ended over = cc
hushed_over c kind (SettingUp link greeting) ended over = cc
hushed_over c kind (Ready link) ended over = cc
hushed_over c kind (Ended e) ended over = tt

-- a link that goes on was not shut down, so it may go on otherwise
pub hushed_there : (c : Core) (kind : EventKind) (n : News) (life : Life) → news_of c.timers c.sources c.single.link kind ≡ n → n ≢ shut → is_resting c.single.connection.life ≡ false → has_ended c.single.connection.life ≡ false → IsHushed c → ClosedAfterShutdown c kind life
hushed_there c kind n life is other there alive h over = absurd (not_stopped c.single.connection.life c.single.connection.waiting there alive (hushed_news c kind n is other h over))

-- nor is it
pub going_awake : (c : Core) (kind : EventKind) (n : News) → news_of c.timers c.sources c.single.link kind ≡ n → n ≢ shut → is_resting c.single.connection.life ≡ false → has_ended c.single.connection.life ≡ false → IsHushed c → (c.shut || is_shutdown kind) ≡ false
going_awake c kind n is other there alive h = by_test (c.shut || is_shutdown kind) _ (λ over. absurd (not_stopped c.single.connection.life c.single.connection.waiting there alive (hushed_news c kind n is other h over))) (λ awake. awake)

-- where the link need not end then, and no act follows, the event has had its effect
pub fresh_applied : (before : List Action) (c : Core) (started : List ℕ) (word : ℕ) (kind : EventKind) (n : News) (info : RedisConnectionInfo) (life : Life) (fresh : List ℕ) → Between before c started → is_bad c kind ≡ false → IsNewsKind c.timers kind
    → news_of c.timers c.sources c.single.link kind ≡ n → ComesTo (book before) c (heard_by (book before) c n) (book before).created c.single.connection.opened info life fresh [] [] started → ending (heard_by (book before) c n) ≡ None → IsFitIn (comes_as c info life fresh) → ClosedAfterShutdown c kind life
    → HasApplied (before ++ turn_of c word kind ∷ []) (with_work (record { core = turned c kind; acts = [] }) (record { conn = comes_as c info life fresh; acts = [] })) started
fresh_applied before c started word kind n info life fresh h good k is g no_end fit hushed =
    let s = fresh_begins before c started word kind n info life fresh [] h good k is g in
    record {
      sound = s.holds;
      ended = none_ends (book (trace_of_acts (before ++ turn_of c word kind ∷ []) (turned c kind) [])) (seen (turned c kind) [] (comes_as c info life fresh) [] started) s.holds.tied (ap ending s.ledger ∙ no_end);
      began = λ e. omega arith;
      moved = h.moved;
      fit = fit;
      hushed = hushed;
    }

-- where the same waits are to be shown
pub quiet_applied : (before : List Action) (c : Core) (started : List ℕ) (word : ℕ) (kind : EventKind) (n : News) (life : Life) → Between before c started → is_bad c kind ≡ false → IsNewsKind c.timers kind → news_of c.timers c.sources c.single.link kind ≡ n
    → Leads (book before) c n life [] started → ending (heard_by (book before) c n) ≡ None → IsFitIn (lives_as c life) → ClosedAfterShutdown c kind life
    → HasApplied (before ++ turn_of c word kind ∷ []) (with_work (record { core = turned c kind; acts = [] }) (record { conn = lives_as c life; acts = [] })) started
quiet_applied before c started word kind n life h good k is g no_end fit hushed =
    let s = heard_begins before c started word kind n life [] h good k is g in
    record {
      sound = s.holds;
      ended = none_ends (book (trace_of_acts (before ++ turn_of c word kind ∷ []) (turned c kind) [])) (seen (turned c kind) [] (lives_as c life) [] started) s.holds.tied (ap ending s.ledger ∙ no_end);
      began = λ e. omega arith;
      moved = h.moved;
      fit = fit;
      hushed = hushed;
    }

-- between two turns no link must end
pub still_none : (before : List Action) (c : Core) (started : List ℕ) → Between before c started → NoneEnds (book before)
still_none before c started h = h.settled.written.moved.begun.applied.shown.ended

-- no value came that ends the link
pub tame_between : (before : List Action) (c : Core) (started : List ℕ) → Between before c started → IsTame ((book before).link c.single.link)
tame_between before c started h = is_tame (book before) (inner c started) h.sound.tied (still_none before c started h c.single.link)

-- what is still to be told of the notices
pub pushes_still : (before : List Action) (c : Core) (started : List ℕ) (n : News) → Between before c started → BringsNothing n ⊎ (((book before).link c.single.link).up ≡ false) → PushesAt c.single.connection.life (hearing_in (book before).config) c.single.connection.hears (heard_by (book before) c n)
pushes_still before c started n h k = pushes_hear c.single.connection.life ((book before).link c.single.link) c.turns n (hearing_in (book before).config) c.single.connection.hears (tame_between before c started h) k h.sound.tied.notices

-- such news bring no new credentials, and deal nothing
--
-- so the connection has come as far as it had, where its life is the same
pub course_hears : (b : Book) (c : Core) (started : List ℕ) (n : News) → Tied b (inner c started)
    → (let l = heard_by b c n in let conn = c.single.connection in HasCourse l.last l.end c.links c.single.link c.shut c.manager conn.last conn.opened conn.info conn.address conn.life)
course_hears b c started n h =
    let l = b.link c.single.link in
    let conn = c.single.connection in
    course_alike conn.life l.last (heard_by b c n).last l.end (heard_by b c n).end c.links c.single.link c.shut c.manager conn.last conn.opened conn.info conn.address (asked_hear l c.turns n).last
    (λ over. end_hear l c.turns n (ended_over l b.created conn.life over h.life)) h.course

-- so they leave that
pub repeat_still : (b : Book) (c : Core) (started : List ℕ) (n : News) → Tied b (inner c started) → BringsNothing n ⊎ ((b.link c.single.link).up ≡ false) → (let conn = c.single.connection in TiedRepeat (heard_by b c n) b.tracked conn.renewal.within conn.again conn.life)
repeat_still b c started n h k =
    let l = b.link c.single.link in
    let conn = c.single.connection in
    repeat_alike l (heard_by b c n) b.tracked conn.renewal.within conn.again conn.life (again_hear l c.turns n (again_quiet l n k)) (heard_starts l c.turns n) (dealt_still l c.turns n k) (λ e over. end_hear l c.turns n (ended_over l b.created conn.life (ap has_ended over) h.life)) h.repeat

-- what is alike of any life
pub leads_on : (before : List Action) (c : Core) (started : List ℕ) (n : News) → Between before c started → BringsNothing n ⊎ (((book before).link c.single.link).up ≡ false) → (let l = heard_by (book before) c n in let life = c.single.connection.life in
    TiedLife l (book before).created life × TiedCreds l.creds c.single.connection.renewal.wanted life × TiedSetup l c.single.connection.info started life × (has_ended life ≡ false → TiedLink (carried life c.single.connection.requests) l (whole_link life)))
    → Leads (book before) c n c.single.connection.life [] started
leads_on before c started n h k g = record { lived = g.0; course = course_hears (book before) c started n h.sound.tied; creds = g.1; renewal_is = renewal_still ((book before).link c.single.link) c.turns n c.single.connection.renewal c.single.connection.life k h.sound.tied.renewal; repeat_is = repeat_still (book before) c started n h.sound.tied k; said = g.2; linked = g.3; lines = h.sound.tied.lines; told = h.sound.tied.told; waits = h.sound.tied.waits; rounds = h.sound.tied.rounds; early = h.sound.tied.early; notices = pushes_still before c started n h k }

-- news that leave what is told of it lead nowhere else
pub leads_still : (before : List Action) (c : Core) (started : List ℕ) (n : News) → Between before c started → heard_by (book before) c n ≡ record ((book before).link c.single.link) { heard = n } → Leads (book before) c n c.single.connection.life [] started
leads_still before c started n h stays =
    let b = book before in
    let l = b.link c.single.link in
    let conn = c.single.connection in
    let t = h.sound.tied in
    let name = carried conn.life conn.requests in
    record {
      lived = subst (λ (x : Ledger). TiedLife x b.created conn.life) (sym stays) (told_life l b.created conn.life n t.life);
      course = course_hears b c started n t;
      creds = subst (λ (x : Ledger). TiedCreds x.creds conn.renewal.wanted conn.life) (sym stays) t.creds;
      renewal_is = subst (λ (x : Ledger). TiedRenewal x conn.renewal conn.life) (sym stays) (renewal_alike l (record l { heard = n }) conn.renewal conn.life refl refl refl t.renewal);
      repeat_is = subst (λ (x : Ledger). TiedRepeat x b.tracked conn.renewal.within conn.again conn.life) (sym stays) (repeat_alike l (record l { heard = n }) b.tracked conn.renewal.within conn.again conn.life refl refl refl (λ e over. refl) t.repeat);
      said = subst (λ (x : Ledger). TiedSetup x conn.info started conn.life) (sym stays) (setup_on l l.asked l.up l.end l.taken l.offer l.rest n conn.info started conn.life t.setup);
      linked = λ alive. subst (λ (x : Ledger). TiedLink name x (whole_link conn.life)) (sym stays) (told_tied name l (whole_link conn.life) l.asked l.up n (t.link alive));
      lines = t.lines;
      told = t.told;
      waits = t.waits;
      rounds = t.rounds;
      early = t.early;
      notices = subst (λ (x : Ledger). PushesAt conn.life (hearing_in b.config) conn.hears x) (sym stays) (renoticed (tame_between before c started h) t.notices);
    }

-- a link that has ended hears nothing
--
-- an event that names a link that has ended has no effect
pub ended_quiet : (before : List Action) (c : Core) (started : List ℕ) (word : ℕ) (kind : EventKind) (n : News) (error : RedisError) → Between before c started → is_bad c kind ≡ false → IsNewsKind c.timers kind → news_of c.timers c.sources c.single.link kind ≡ n → c.single.connection.life ≡ Ended error
    → HasApplied (before ++ turn_of c word kind ∷ []) (with_work (record { core = turned c kind; acts = [] }) (record { conn = c.single.connection; acts = [] })) started
ended_quiet before c started word kind n error h good k is over =
    let b = book before in
    let l = b.link c.single.link in
    let life = subst (λ (x : Life). TiedLife l b.created x) over h.sound.tied.life in
    let after = ended_hears l b.created error c.turns n life in
    quiet_applied before c started word kind n c.single.connection.life h good k is
    (leads_on before c started n h (inr life.0) (
      subst (λ (x : Life). TiedLife (noted l (hears c.turns n)) b.created x) (sym over) after,
      down_creds l c.turns n c.single.connection.renewal.wanted c.single.connection.life life.0 h.sound.tied.creds,
      setup_unheard l c.turns n c.single.connection.info started c.single.connection.life life.0 h.sound.tied.setup,
      λ alive. absurd (not_both (has_ended c.single.connection.life) alive (ap has_ended over)),
    ))
    (over_no_end (noted l (hears c.turns n)) b.created error after) h.fit (hushed_over c kind c.single.connection.life (ap has_ended over))

-- a link whose connect isn't answered hears but of that, of the end of its time, and of the shutdown
--
-- such news aren't the shutdown
another_open : (n : News) → IsOfAnother n → n ≢ shut
another_open silence k e = cc
another_open (refused f) k e = cc
another_open overdue k e = cc
another_open connected k e = cc
another_open (took count) k e = cc
another_open (came piece) k e = cc
another_open (failed f) k e = cc
another_open (authorized c) k e = cc
another_open (renewed c) k e = cc
another_open unrenewed k e = cc
another_open (late m) k e = cc
another_open unrepeated k e = cc
another_open (denied text) k e = cc
another_open deserted k e = cc
another_open dropped k e = cc
another_open shut k e = absurd k

-- and the event has no effect
pub dialing_quiet : (before : List Action) (c : Core) (started : List ℕ) (word : ℕ) (kind : EventKind) (n : News) → IsOfAnother n → Between before c started → is_bad c kind ≡ false → IsNewsKind c.timers kind → news_of c.timers c.sources c.single.link kind ≡ n → c.single.connection.life ≡ Dialing
    → HasApplied (before ++ turn_of c word kind ∷ []) (with_work (record { core = turned c kind; acts = [] }) (record { conn = c.single.connection; acts = [] })) started
dialing_quiet before c started word kind n o h good k is dialing =
    let b = book before in
    let l = b.link c.single.link in
    let life = subst (λ (x : Life). TiedLife l b.created x) dialing h.sound.tied.life in
    quiet_applied before c started word kind n c.single.connection.life h good k is
    (leads_on before c started n h (inr life.1) (
      subst (λ (x : Life). TiedLife (noted l (hears c.turns n)) b.created x) (sym dialing) (dialing_hears l b.created c.turns n o life),
      down_creds l c.turns n c.single.connection.renewal.wanted c.single.connection.life life.1 h.sound.tied.creds,
      setup_unheard l c.turns n c.single.connection.info started c.single.connection.life life.1 h.sound.tied.setup,
      λ alive. unheard_tied (carried c.single.connection.life c.single.connection.requests) l (whole_link c.single.connection.life) c.turns n life.1 (h.sound.tied.link alive),
    ))
    (dialing_no_end l b.created c.turns n o life) h.fit (hushed_news c kind n is (another_open n o) h.hushed)

-- without a link
--
-- nothing was heard of its connect
resting_unconnected : (c : Core) (kind : EventKind) (n : News) → is_bad c kind ≡ false → news_of c.timers c.sources c.single.link kind ≡ n → c.links ≡ c.single.link → n ≢ connected
resting_unconnected c kind n good is none same = far_news c c.single.link kind good (omega arith) (is ∙ same)

-- so where the connection has none, the turn leads nowhere
pub resting_leads : (before : List Action) (c : Core) (started : List ℕ) (kind : EventKind) (n : News) → Between before c started → is_bad c kind ≡ false → news_of c.timers c.sources c.single.link kind ≡ n → c.single.connection.life ≡ Resting
    → Leads (book before) c n c.single.connection.life [] started × (ending (heard_by (book before) c n) ≡ None)
resting_leads before c started kind n h good is rests =
    let b = book before in
    let l = b.link c.single.link in
    let life = subst (λ (x : Life). TiedLife l b.created x) rests h.sound.tied.life in
    let conn = c.single.connection in
    let none : c.links ≡ c.single.link = (subst (λ (x : Life). HasCourse l.last l.end c.links c.single.link c.shut c.manager conn.last conn.opened conn.info conn.address x) rests h.sound.tied.course).0 in
    let stays = resting_is l c.turns n life.0 life.1 (resting_unconnected c kind n good is none) in
    (leads_still before c started n h stays, ap ending stays ∙ not_up_ends (record l { heard = n }) life.1 (ap (λ a. a && not (is_over l)) life.0))

-- and the event has no effect
pub resting_quiet : (before : List Action) (c : Core) (started : List ℕ) (word : ℕ) (kind : EventKind) (n : News) → n ≢ shut → Between before c started → is_bad c kind ≡ false → IsNewsKind c.timers kind → news_of c.timers c.sources c.single.link kind ≡ n → c.single.connection.life ≡ Resting
    → HasApplied (before ++ turn_of c word kind ∷ []) (with_work (record { core = turned c kind; acts = [] }) (record { conn = c.single.connection; acts = [] })) started
resting_quiet before c started word kind n other h good k is rests =
    let g = resting_leads before c started kind n h good is rests in
    quiet_applied before c started word kind n c.single.connection.life h good k is g.0 g.1 h.fit (hushed_news c kind n is other h.hushed)

-- a turn in which nothing is heard, and no act follows
pub silent_applied : (before : List Action) (c : Core) (started : List ℕ) (word : ℕ) (kind : EventKind) (f : Core) (conn : MultiplexedConnection) → Between before c started → is_bad c kind ≡ false → ((m : ℕ) → ending ((entered (book before) (turn_of c word kind)).link m) ≡ None)
    → f.turns ≢ 0 → conn.moved ≡ [] → IsFitIn conn → (f.shut ≡ true → IsStopped conn.life conn.waiting) → Tied (entered (book before) (turn_of c word kind)) (seen f [] conn [] started)
    → HasApplied (before ++ turn_of c word kind ∷ []) (with_work (record { core = f; acts = [] }) (record { conn = conn; acts = [] })) started
silent_applied before c started word kind f conn h good no_end began none_moved fit hushed tied =
    let front = before ++ turn_of c word kind ∷ [] in
    record {
      sound = holds_first front f conn [] started (announced_sound before c started word kind (seen f [] conn [] started) h good tied);
      ended = subst NoneEnds (sym (first_book before (turn_of c word kind) f)) no_end;
      began = began;
      moved = none_moved;
      fit = fit;
      hushed = hushed;
    }
