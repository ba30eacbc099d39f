-- What ties a session to the book of its trace.
use Rattle.std.proofs.Common.{◌≡◌, ◌≢◌, ℕ, ◌+◌, ◌^◌, ◌<◌, ◌≤◌, ◌==◌, Bool, true, false, List, [], length, Option, Some, None, slice_get, is_some, unwrap_or, not}
use Rattle.std.specs.List.{list_any}
use Rattle.redis_error.specs.declared.redis_error.RedisError.{RedisError}
use Rattle.connection_info.specs.declared.address.RedisConnectionInfo.{RedisConnectionInfo}
use Rattle.driver_model.specs.declared.action.Action.{Action}
use Rattle.driver_model.specs.declared.action.Purpose.{Purpose}
use Rattle.driver_model.specs.declared.action.SourceUse.{SourceUse}
use Rattle.driver_model.specs.declared.action.Owner.TheVariants as owner
use Rattle.driver_model.specs.declared.config.Config.{Config}
use Rattle.driver_model.specs.Config.{address, boundary, connect_timeout, first_fault}
use Rattle.driver_model.specs.declared.action.Purpose.TheVariants as purpose
use Rattle.driver_model.specs.declared.kind.SessionKind.{SessionKind}
use Rattle.driver_model.specs.declared.hearing.Hearing.{Hearing}
use Rattle.driver_model.specs.Hearing.{is_watching}
use Rattle.link_laws.proofs.TiedLink.{TiedLink}
use Rattle.mux_conn.specs.declared.life.Life.{Life}
use Rattle.mux_conn.specs.declared.life.Life.TheVariants.{Resting, Dialing, Wanting, SettingUp, Ready, Ended}
use Rattle.mux_conn.specs.declared.renewal.Renewal.{Renewal}
use Rattle.mux_conn.specs.declared.again.Again.{Again}
use Rattle.mux_conn.specs.declared.again.Again.TheVariants as again
use Rattle.mux_conn.specs.declared.request.Pending.{Pending}
use Rattle.mux_conn.specs.declared.request.Request.{Request}
use Rattle.mux_conn.specs.declared.request.Waiting.{Waiting}
use Rattle.mux_conn.specs.Requests.{name_at, permits_at, is_open_at, is_unbegun_at}
use Rattle.single_session.specs.declared.core_state.Core.{Core}
use Rattle.single_session.specs.declared.generations.Generations.{Generations}
use Rattle.sub_tracker.specs.Subscribed.{Request as Call}
use Rattle.legal_trace.specs.Ledger.{Ledger, Heard, End, blank_ledger}
use Rattle.legal_trace.specs.Story.{Story}
use Rattle.legal_trace.specs.Book.{Book, blank_book, book, has_generations, hearing_in, info_in, kind_in, wanted_in}
use Rattle.legal_trace.specs.Managers.{is_lazy, settings_in}
use Rattle.legal_trace.specs.Steps.{configured, queue_size, permits_in}
use Rattle.legal_trace.specs.Legal.{AllStand, IsTimed, answer_time, is_attempt, is_cause}
use Rattle.conn_laws.proofs.Internal.Repeats.{TiedRepeat, serves}
use Rattle.conn_laws.proofs.Links.Server.{hearing_at, TiedCreds, NoneRenewed, TiedRenewal, TiedSetup}
use Rattle.conn_laws.proofs.Ties.Tied.{AreAside, AreEarly, AreLate, AreQueued, AreUses, IsAside, IsBare, IsOver, TiedCreation, TiedLife, TiedLines, TiedNames, TiedNotices, TiedPermits, TiedRounds, TiedStory, TiedTries, TiedWaits, carried, has_ended, is_reading, link_in, no_link, waiting_ids, whole_link}

-- what counts of a session in the middle of a turn: its generations, where it comes back, how many turns it has begun, how many links it
-- has asked for and which of them is its connection's, or, where that has none, is to be its next, what each timer, and each source of credentials, was asked for, whether everything was
-- shut down, the request of each submission, and within how many milliseconds one that comes now is to be answered; how many
-- messages the queue of its connection's link holds, at how many unwritten bytes none starts, how many permits there are, if
-- they are counted, and how many are free; what is heard beside replies, what of that which came is still to be told, and whether
-- the end of the link is; what the session is; what is said to the server before the first request, what is said to that of
-- each new link, and its credentials that come of sources; what is subscribed again on the link; its connection's life, whether no other attempt follows where its opening
-- fails, whether it was told that it is ready, or that its opening failed, and whether its link was set up; its requests,
-- those that wait for the connection, those that wait for a place, those that came in this turn and those that were moved in it,
-- whose waits aren't shown yet; whether rounds are shown; the one that is being let in; the requests that are settled and not answered yet; and the numbers
-- of the messages that started behind the setups, in order: a request's, or the driver's own
pub record TurnState : Type 0 where
  pub manager : Option Generations
  pub turns : ℕ
  pub links : ℕ
  pub link : ℕ
  pub timers : List Purpose
  pub sources : List SourceUse
  pub shut : Bool
  pub table : List (Option Pending)
  pub timeout : Option ℕ
  pub size : ℕ
  pub bound : ℕ
  pub limit : Option ℕ
  pub free : ℕ
  pub kind : SessionKind
  pub hears : Hearing
  pub untold : List Heard
  pub parting : Bool
  pub info : RedisConnectionInfo
  pub address : RedisConnectionInfo
  pub renewal : Renewal
  pub again : Again
  pub life : Life
  pub last : Bool
  pub told : Bool
  pub opened : Bool
  pub requests : List Request
  pub waiting : List Waiting
  pub admitted : List Waiting
  pub fresh : List ℕ
  pub moved : List ℕ
  pub rounds : Bool
  pub being_admitted : List ℕ
  pub pending : List ℕ
  pub started : List ℕ

-- a timer is for this link or one before it, for one of so many submissions, or for the wait behind a failed attempt
abbrev pub IsAim : Purpose → ℕ → ℕ → Type 0
IsAim (purpose.Connect l) link count = l ≤ link
IsAim (purpose.Response owner.Setup) link count = ⊥
IsAim (purpose.Response owner.Auth) link count = ⊥
IsAim (purpose.Response owner.Resub) link count = ⊥
IsAim (purpose.Response owner.Monitor) link count = ⊥
IsAim (purpose.Renewal l k) link count = l ≤ link
IsAim (purpose.Backoff g) link count = Unit {0}
IsAim (purpose.Resubscription l) link count = l ≤ link
IsAim (purpose.Response (owner.Try n round)) link count = (n < count) × (round ≡ 0)

-- all timers are
abbrev pub AreAimed : List Purpose → ℕ → ℕ → Type 0
AreAimed timers link count = (k : ℕ) (what : Purpose) → slice_get timers k ≡ Some what → IsAim what link count

-- the configuration that the book tells has a queue of this size, which is not none, this boundary, and so many permits,
-- which are not none, if they are counted
pub record IsConfigured (b : Book) (size bound : ℕ) (limit : Option ℕ) : Type 0 where
  pub size_is : queue_size b ≡ size
  pub bound_is : configured boundary b.config ≡ bound
  pub limit_is : permits_in b.config ≡ limit
  pub some : 0 < size
  pub limited : limit ≢ Some 0

-- a session that comes back so: nothing of its configuration is refused, which says how it does, where its links are asked for, and how
-- long a connect may take; so many generations began, and so many attempts of the current one failed; and it is without a first one
-- where it waits for its first submission alone
pub record ComesBack (config : Option Config) (generation attempts : ℕ) (g : Generations) : Type 0 where
  pub whole : Config
  pub told : config ≡ Some whole
  pub sound : first_fault whole ≡ None
  pub settings_are : settings_in config ≡ Some g.settings
  pub at : address whole ≡ Some g.info
  pub bounded : connect_timeout whole ≡ g.settings.connection.connection_timeout
  pub number_is : generation ≡ g.number
  pub attempt_is : attempts ≡ g.attempt
  pub first : g.number ≡ 0 → is_lazy config ≡ true

-- the generations of a session are those of the book, where it has any. When the wait behind a failed attempt is over, and whether the
-- creation failed, the session heeds at the end of a turn: that these are those of the book too is said between turns (`IsHeeded`)
abbrev pub TiedManager : Option Config → ℕ → ℕ → Option Generations → Type 0
TiedManager config generation attempts None = (settings_in config ≡ None) × (is_lazy config ≡ false)
TiedManager config generation attempts (Some g) = ComesBack config generation attempts g

-- the wait behind a failed attempt has the timer of the book, and the creation failed where the book says so; there is such a wait only
-- of a generation whose next link isn't asked for
pub record HasHeeded (rest : Option ℕ) (failed : Bool) (life : Life) (g : Generations) : Type 0 where
  pub rest_is : rest ≡ g.rest
  pub failed_is : failed ≡ g.halted
  pub rests : g.rest ≢ None → (life ≡ Resting) × (g.number ≢ 0)

-- so it is between turns, where there are generations
abbrev pub IsHeeded : Option ℕ → Bool → Life → Option Generations → Type 0
IsHeeded rest failed life None = Unit {0}
IsHeeded rest failed life (Some g) = HasHeeded rest failed life g

-- the numbers that the session gives are those of the book, and so are its generations, what it is, and what its servers are
-- told; its connection's link is the one that submissions go to; all timers are for it, for one
-- before it, for a submission, or for the wait behind a failed attempt, and one was asked for each bounded connect; where it waits for
-- its first submission it was created; what doesn't come back opens its link once; what is told to its server is to be answered within the
-- configured time; and no more numbers were given to submissions than there are
pub record TiedNumbers (b : Book) (t : TurnState) : Type 0 where
  pub turns : b.turns ≡ t.turns
  pub links : b.links ≡ t.links
  pub submissions : b.submissions ≡ length t.table
  pub timers : b.timers ≡ t.timers
  pub sources : b.sources ≡ t.sources
  pub aims : AreAimed t.timers t.link (length t.table)
  pub timed : IsTimed b
  pub timeout : b.timeout ≡ t.timeout
  pub shut : b.shut ≡ t.shut
  pub within : answer_time b.config ≡ t.renewal.within
  pub few : length t.table ≤ 2 ^ 32
  pub settings : IsConfigured b t.size t.bound t.limit
  pub kind_is : kind_in b.config ≡ t.kind
  pub quiet : is_watching t.hears ≡ true → IsBare t.table t.renewal t.again
  pub comes_back : TiedManager b.config b.generation b.attempt t.manager
  pub lazy : is_lazy b.config ≡ true → b.created ≢ 0
  pub current_is : b.current ≡ t.link
  pub speaks : (info_in b.config).protocol ≡ t.info.protocol
  pub address_is : info_in b.config ≡ t.address
  pub wants : wanted_in b.config ≡ t.renewal.wanted
  pub alone : is_some t.manager ≡ false → t.last ≡ true

-- a generation began, or there are none
abbrev pub is_begun : Option Generations → Bool
is_begun None = true
is_begun (Some g) = not (g.number == 0)

-- so far a connection has come whose link is the last of so many that were asked for, in a generation, where there are any; it has no
-- link only where the session comes back: then the next one is to be asked for, whose server is told what all are. Whether another
-- attempt follows where its opening fails, and whether it was set up, is the same for the link and the connection
abbrev pub HasCourse : Bool → Option End → ℕ → ℕ → Bool → Option Generations → Bool → Bool → RedisConnectionInfo → RedisConnectionInfo → Life → Type 0
HasCourse is_last end links link shut manager last opened info address Resting = (links ≡ link) × (is_some manager ≡ true) × (opened ≡ false) × (info ≡ address)
HasCourse is_last end links link shut manager last opened info address Dialing = (links ≡ link + 1) × (is_begun manager ≡ true) × (opened ≡ false) × (is_last ≡ last) × (info ≡ address)
HasCourse is_last end links link shut manager last opened info address (Wanting state) = (links ≡ link + 1) × (is_begun manager ≡ true) × (opened ≡ false) × (is_last ≡ last)
HasCourse is_last end links link shut manager last opened info address (SettingUp state greeting) = (links ≡ link + 1) × (is_begun manager ≡ true) × (opened ≡ false) × (is_last ≡ last)
HasCourse is_last end links link shut manager last opened info address (Ready state) = (links ≡ link + 1) × (is_begun manager ≡ true) × (opened ≡ true) × (is_last ≡ last)
HasCourse is_last end links link shut manager last opened info address (Ended e) = (links ≡ link + 1) × (is_begun manager ≡ true) × IsOver end shut opened

-- of a session, by whether the ledger of its link says that no other attempt follows, and by its end
abbrev pub TiedCourse : Bool → Option End → TurnState → Type 0
TiedCourse is_last end t = HasCourse is_last end t.links t.link t.shut t.manager t.last t.opened t.info t.address t.life

-- none of these errors is a cause for the next generation, where the opening of a link has not failed
abbrev pub NoReconnectCause : List RedisError → Type 0
NoReconnectCause errors = list_any (is_cause None) errors ≡ false

-- so it is of all with which submissions were answered in the turn that runs, until the link ends or everything is shut down
abbrev pub StaysCalm : List RedisError → Bool → Life → Type 0
StaysCalm errors shut life = has_ended life ≡ false → shut ≡ false → NoReconnectCause errors

-- the session is tied to the book
pub record Tied (b : Book) (t : TurnState) : Type 0 where
  pub numbers : TiedNumbers b t
  pub others : AreAside t.link t.links b.link t.hears t.renewal.within b.created
  pub notices : TiedNotices (hearing_in b.config) t.hears (hearing_at t.life t.hears (b.link t.link).hearing) (b.link t.link).notices (b.link t.link).told (b.link t.link).end (b.link t.link).parted (b.link t.link).strange (is_reading (b.link t.link)) t.untold t.parting
  pub life : TiedLife (b.link t.link) b.created t.life
  pub course : TiedCourse (b.link t.link).last (b.link t.link).end t
  pub calm : StaysCalm b.errors t.shut t.life
  pub creation : TiedCreation b.created t.told
  pub creds : TiedCreds (b.link t.link).creds t.renewal.wanted t.life
  pub uses : AreUses t.sources t.link (b.link t.link).creds.asked (b.link t.link).creds.renews
  pub renewal : TiedRenewal (b.link t.link) t.renewal t.life
  pub repeat : TiedRepeat (b.link t.link) b.tracked t.renewal.within t.again t.life
  pub setup : TiedSetup (b.link t.link) t.info t.started t.life
  pub link : has_ended t.life ≡ false → TiedLink (carried t.life t.requests) (b.link t.link) (whole_link t.life)
  pub names : TiedNames t.table t.requests
  pub story : (n : ℕ) → TiedStory (b.story n) t.requests t.link (slice_get t.table n)
  pub tries : TiedTries (b.link t.link) b.story t.requests t.link t.started
  pub lines : TiedLines b.story t.requests (link_in t.life) t.waiting t.admitted t.pending t.started
  pub told : has_ended t.life ≡ false → AreQueued b.story t.requests t.link (link_in t.life)
  pub waits : TiedWaits b.story t.requests t.again t.life t.fresh t.moved
  pub permits : TiedPermits b.story b.submissions t.requests t.link t.limit t.free t.being_admitted
  pub rounds : TiedRounds (has_generations b) b.story t.requests (serves t.life t.again) t.fresh t.rounds
  pub early : AreEarly t.requests t.again t.life
  pub late : AreLate b.story t.requests t.pending

-- the opening of the connection's link has failed in the turn that runs, and another attempt follows: the connection has no link any more
-- (`Resting`), and the ledger of its link says that it ended as an attempt; the next one isn't asked for. Nothing was ever told there but
-- what is said before requests, nothing of it is still to be told, and all that are open wait, and are to show that anew. This is no `Tied`
-- session: it is one again with the timer of the wait, with which they go to the next link
pub record AfterFailedAttempt (b : Book) (t : TurnState) : Type 0 where
  pub numbers : TiedNumbers b t
  pub rests : t.life ≡ Resting
  pub comes : is_some t.manager ≡ true
  pub placed : t.links ≡ t.link + 1
  pub unopened : t.opened ≡ false
  pub unshut : t.shut ≡ false
  pub info_is : t.info ≡ t.address
  pub attempted : is_attempt (b.link t.link).end ≡ true
  pub others : AreAside t.link t.links b.link t.hears t.renewal.within b.created
  pub own : IsAside t.links t.link (b.link t.link) t.hears t.renewal.within b.created
  pub heard_is : hearing_in b.config ≡ t.hears
  pub calm : NoReconnectCause b.errors
  pub creation : TiedCreation b.created t.told
  pub uses : AreUses t.sources t.link (b.link t.link).creds.asked (b.link t.link).creds.renews
  pub renewal : NoneRenewed blank_ledger t.renewal
  pub repeat : t.again ≡ again.Nothing
  pub names : TiedNames t.table t.requests
  pub story : (n : ℕ) → TiedStory (b.story n) t.requests t.link (slice_get t.table n)
  pub untried : (p : ℕ) (r : Request) → slice_get t.requests p ≡ Some r → (b.story r.name).link ≡ t.link → (b.story r.name).tries ≡ []
  pub lines : TiedLines b.story t.requests no_link t.waiting [] [] []
  pub admitted : t.admitted ≡ []
  pub moved : t.moved ≡ []
  pub pending : t.pending ≡ []
  pub started : t.started ≡ []
  pub fresh : t.fresh ≡ waiting_ids t.waiting
  pub free : t.free ≡ unwrap_or t.limit 0
  pub being_admitted : t.being_admitted ≡ []
  pub rounds_is : has_generations b ≡ t.rounds
  pub waiting : (p : ℕ) → is_open_at t.requests p ≡ true → is_unbegun_at t.requests p ≡ true
  pub holds : (p : ℕ) → is_open_at t.requests p ≡ true → (permits_at t.requests p ≡ 0) × ((b.story (name_at t.requests p)).clock ≡ None)
  pub late : AreLate b.story t.requests []

-- all that came is told, and so is the end of the link
abbrev pub IsToldIn : TurnState → Type 0
IsToldIn t = (t.untold ≡ []) × (t.parting ≡ false)

-- each action of the trace stands where it may, and the session is tied to its book
pub record Sound (trace : List Action) (t : TurnState) : Type 0 where
  pub stands : AllStand blank_book trace
  pub tied : Tied (book trace) t

-- the session between turns
abbrev pub inner : Core → List ℕ → TurnState
inner c started = record {
  manager = c.manager;
  turns = c.turns;
  links = c.links;
  link = c.single.link;
  timers = c.timers;
  sources = c.sources;
  shut = c.shut;
  table = c.table;
  timeout = c.timeout;
  size = c.single.connection.size;
  bound = c.single.connection.boundary;
  limit = c.single.connection.limit;
  free = c.single.connection.free;
  kind = c.kind;
  hears = c.single.connection.hears;
  untold = [];
  parting = false;
  info = c.single.connection.info;
  address = c.single.connection.address;
  renewal = c.single.connection.renewal;
  again = c.single.connection.again;
  life = c.single.connection.life;
  last = c.single.connection.last;
  told = c.single.connection.told;
  opened = c.single.connection.opened;
  requests = c.single.connection.requests;
  waiting = c.single.connection.waiting;
  admitted = c.single.connection.admitted;
  fresh = c.single.connection.fresh;
  moved = c.single.connection.moved;
  rounds = c.single.connection.rounds;
  being_admitted = [];
  pending = [];
  started = started;
}

-- the numbers, where only links, stories, what is subscribed, errors, since when places are had and new credentials are due, and the connection change
pub numbers_kept : (b : Book) (link : ℕ → Ledger) (story : ℕ → Story) (tracked : List Call) (errors : List RedisError) (placed : ℕ → Option ℕ) (since : ℕ → ℕ) (t : TurnState) (life : Life) (free : ℕ) (requests : List Request) (waiting admitted : List Waiting) (fresh moved being_admitted pending started : List ℕ) → TiedNumbers b t
    → TiedNumbers (record b { link = link; story = story; tracked = tracked; errors = errors; placed = placed; since = since }) (record t { life = life; free = free; requests = requests; waiting = waiting; admitted = admitted; fresh = fresh; moved = moved; being_admitted = being_admitted; pending = pending; started = started })
numbers_kept b link story tracked errors placed since t life free requests waiting admitted fresh moved being_admitted pending started h = record {
  turns = h.turns;
  links = h.links;
  timers = h.timers;
  sources = h.sources;
  aims = h.aims;
  timed = h.timed;
  submissions = h.submissions;
  timeout = h.timeout;
  shut = h.shut;
  within = h.within;
  few = h.few;
  settings = record { size_is = h.settings.size_is; bound_is = h.settings.bound_is; limit_is = h.settings.limit_is; some = h.settings.some; limited = h.settings.limited };
  kind_is = h.kind_is;
  quiet = h.quiet;
  comes_back = h.comes_back;
  lazy = h.lazy;
  current_is = h.current_is;
  speaks = h.speaks;
  address_is = h.address_is;
  wants = h.wants;
  alone = h.alone;
}

-- requests move between those that wait for the connection, those that wait for a place, those whose wait isn't shown yet,
-- and those that are to be answered: the session stays tied where its lines and its waits are, and who is late is to be
-- answered
pub relined : (b : Book) (t : TurnState) (waiting admitted : List Waiting) (fresh moved pending : List ℕ) → Tied b t
    → TiedLines b.story t.requests (link_in t.life) waiting admitted pending t.started → TiedWaits b.story t.requests t.again t.life fresh moved
    → TiedRounds (has_generations b) b.story t.requests (serves t.life t.again) fresh t.rounds → AreLate b.story t.requests pending
    → Tied b (record t { waiting = waiting; admitted = admitted; fresh = fresh; moved = moved; pending = pending })
relined b t waiting admitted fresh moved pending h lines waits rounds late = record {
  numbers = numbers_kept b b.link b.story b.tracked b.errors b.placed b.since t t.life t.free t.requests waiting admitted fresh moved t.being_admitted pending t.started h.numbers;
  others = h.others;
  notices = h.notices;
  life = h.life;
  course = h.course;
  calm = h.calm;
  creds = h.creds;
  creation = h.creation;
  uses = h.uses;
  renewal = h.renewal;
  repeat = h.repeat;
  setup = h.setup;
  link = h.link;
  names = h.names;
  story = h.story;
  tries = h.tries;
  lines = lines;
  told = h.told;
  waits = waits;
  permits = h.permits;
  rounds = rounds;
  early = h.early;
  late = late;
}
