-- When a trace can be relied on: said of its book alone, apart from any machine. A turn has five segments: the event's own
-- effect, the passes, the writes, the waits, and the closes of links that nothing uses any more, of which there are none on
-- one connection. An action stands where it is the next that is due, once all before it are done.
use Rattle.std.specs.Prelude.{◌≡◌, ◌≢◌, ◌⊎◌, ℕ, ◌+◌, ◌-◌, ◌<◌, ◌≤◌, ◌==◌, nat_lt, Bool, true, false, ◌&&◌, ◌||◌, not, List, [], ◌∷◌, length, Option, Some, None, is_none, is_some, if◌then◌else◌}
use Rattle.std.specs.List.{list_any}
use Rattle.redis_error.specs.declared.redis_error.RedisError.{RedisError}
use Rattle.resp_value.specs.declared.value.Value.TheVariants.{Nil}
use Rattle.resp_value.specs.ErrorTable.{needs_new_link}
use Rattle.redis_error.specs.Errors.{error_method, is_io}
use Rattle.connection_info.specs.declared.address.ConnectionInfo.{ConnectionInfo}
use Rattle.connection_info.specs.Protocol.{is_resp3}
use Rattle.manager_config.specs.declared.config.ConnectionManagerConfig.{ConnectionManagerConfig}
use Rattle.manager_config.specs.Backoff.{backoff}
use Rattle.driver_model.specs.declared.action.Action.{Action}
use Rattle.driver_model.specs.declared.action.Action.TheVariants as action
use Rattle.driver_model.specs.declared.action.Cause.{Cause}
use Rattle.driver_model.specs.declared.action.Cause.TheVariants as cause
use Rattle.driver_model.specs.declared.action.Owner.TheVariants as owner
use Rattle.driver_model.specs.declared.action.Purpose.{Purpose}
use Rattle.driver_model.specs.declared.action.Purpose.TheVariants as purpose
use Rattle.driver_model.specs.declared.action.WaitKind.{WaitKind}
use Rattle.driver_model.specs.declared.config.Config.{Config}
use Rattle.driver_model.specs.declared.event.Event.{Event}
use Rattle.driver_model.specs.declared.outcome.Outcome.{Outcome}
use Rattle.driver_model.specs.declared.outcome.Outcome.TheVariants as outcome
use Rattle.driver_model.specs.Push.{is_disconnection}
use Rattle.driver_model.specs.declared.push_info.PushInfo.{PushInfo}
use Rattle.driver_model.specs.Config.{address, connect_timeout, first_fault, response_timeout}
use Rattle.driver_model.specs.declared.hearing.Notice.{Notice}
use Rattle.driver_model.specs.declared.hearing.Notice.TheVariants as notice
use Rattle.driver_model.specs.Hearing.{hears_pushes, hears_something}
use Rattle.credentials.specs.Credentials.{Credentials}
use Rattle.driver_model.specs.Shape.{need_of}
use Rattle.legal_trace.specs.Ledger.{Ledger, Heard, End, Ending, by_shutdown, by_fault, by_opening, by_attempt, is_fault, IsOffered, is_full, again_due, is_full_by, is_over, is_ready, is_cut, ending, failure_in, monitor_due, monitor_message, next_notice, renewal_due, renewal_message, renewals_asked, setup_due, setup_message, source_due, unwritten}
use Rattle.legal_trace.specs.Story.{Try, last_of, is_open, is_unstarted, bytes_of, shape}
use Rattle.legal_trace.specs.Managers.{settings_in, is_lazy}
use Rattle.legal_trace.specs.Again.{again_message}
use Rattle.legal_trace.specs.Book.{Book, blank_book, book, entered, has_generations, hearing_in, info_in}
use Rattle.legal_trace.specs.Owed.{owed}
use Rattle.legal_trace.specs.Steps.{waits, rounds, takes, asks, tells, starts, is_due, is_held_back, is_renewal_held, next_step}
use Rattle.legal_trace.specs.Events.{is_bad_event}

-- submission n is handed in, and neither answered nor cancelled
abbrev pub IsOpen : Book → ℕ → Type 0
IsOpen b n = is_open (b.story n) ≡ true

-- the link that it goes to
abbrev pub link_of : Book → ℕ → Ledger
link_of b n = b.link (b.story n).link

-- no open submission is owed an outcome
abbrev pub NoneIsOwed : Book → Type 0
NoneIsOwed b = (n : ℕ) → IsOpen b n → owed b n ≡ None

-- the same of those whose link has not ended: its values have given their outcomes
abbrev pub VerdictsAreShown : Book → Type 0
VerdictsAreShown b = (n : ℕ) → IsOpen b n → is_over (link_of b n) ≡ false → owed b n ≡ None

-- no link must end
abbrev pub NoneEnds : Book → Type 0
NoneEnds b = (l : ℕ) → ending (b.link l) ≡ None

-- where the opening of a link failed, this was shown
abbrev pub FailuresAreShown : Book → Type 0
FailuresAreShown b = (l : ℕ) (e : RedisError) → failure_in (b.link l).end ≡ Some e → b.created ≢ 0

-- where a link is ready, the creation was shown
abbrev pub ReadyIsShown : Book → Type 0
ReadyIsShown b = (l : ℕ) → is_ready (b.link l) ≡ true → b.created ≢ 0

-- somebody hears what comes beside replies
abbrev pub is_heard : Book → Bool
is_heard b = hears_something (hearing_in b.config)

-- somebody hears pushes
abbrev pub are_pushes_heard : Book → Bool
are_pushes_heard b = hears_pushes (hearing_in b.config)

-- all that came was told, where somebody hears it
abbrev pub NoticesAreTold : Book → Type 0
NoticesAreTold b = (l : ℕ) → is_heard b ≡ true → next_notice (b.link l) ≡ None

-- the end of each link that a fault ended, once it was set up, was told as a push, where somebody hears pushes
abbrev pub EndsAreTold : Book → Type 0
EndsAreTold b = (l : ℕ) → are_pushes_heard b ≡ true → is_cut (b.link l).end ≡ true → (b.link l).parted ≡ true

-- where a link is ready, or its opening failed, the creation was shown, and of a session that waits for its first submission it is
-- shown at once
pub record IsCreated (b : Book) : Type 0 where
  pub lazy : is_lazy b.config ≡ true → b.created ≢ 0
  pub shown : ReadyIsShown b
  pub failed : FailuresAreShown b

-- every source of credentials was asked for that is to be
abbrev pub SourcesAreAsked : Book → Type 0
SourcesAreAsked b = (l : ℕ) → source_due (b.link l) ≡ false

-- what the event does to the links and the submissions that there are is shown
pub record IsShown (b : Book) : Type 0 where
  pub answered : NoneIsOwed b
  pub ended : NoneEnds b
  pub created : IsCreated b
  pub pushed : NoticesAreTold b
  pub parted : EndsAreTold b
  pub sourced : SourcesAreAsked b

-- the link that submissions go to
abbrev pub current_link : Book → Ledger
current_link b = b.link b.current

-- it ended as an attempt that another one follows
abbrev pub is_by_attempt : Ending → Bool
is_by_attempt by_shutdown = false
is_by_attempt (by_fault f) = false
is_by_attempt (by_opening e) = false
is_by_attempt (by_attempt e) = true

abbrev pub is_attempt : Option End → Bool
is_attempt None = false
is_attempt (Some end) = is_by_attempt end.why

-- an attempt failed, and another one follows, behind a wait
abbrev pub rest_due : Book → Bool
rest_due b = has_generations b && is_attempt (current_link b).end

-- the error of a submission is a cause for the next generation: where the opening of its link failed, an error of input and output,
-- and else one that only a new link helps
abbrev pub is_cause : Option End → RedisError → Bool
is_cause end e = if is_some (failure_in end) then is_io e else needs_new_link (error_method e)

-- a link has ended in that turn, by a fault, while it took requests
abbrev pub is_lost_in : ℕ → Option End → Bool
is_lost_in turn None = false
is_lost_in turn (Some end) = (end.turn == turn) && (is_fault end.why && end.served)

-- the link that submissions go to has ended so in the turn that runs, on RESP3
abbrev pub is_lost : Book → Bool
is_lost b = is_resp3 (info_in b.config).protocol && is_lost_in (b.turns - 1) (current_link b).end

-- there is a cause for the next generation: that the link was lost, or an error of a submission
abbrev pub is_caused : Book → Bool
is_caused b = is_lost b || list_any (is_cause (current_link b).end) b.errors

-- the first generation is to begin: at once, or, where the session waits for it, with the first submission that is open
abbrev pub begins_first : Book → Bool
begins_first b = not (is_lazy b.config) || is_open (b.story (b.submissions - 1))

-- a generation is to begin: the first one, or the next one, as there is a cause; none once the creation has failed, or everything
-- was shut down
abbrev pub generation_due : Book → Bool
generation_due b = has_generations b && (not b.failed && (not b.shut && (if b.generation == 0 then begins_first b else is_caused b)))

-- a link is to be asked for: the only one, or that of an attempt, at once or once its wait is over; none once everything was shut
-- down
abbrev pub link_due : Book → Bool
link_due b =
    if has_generations b then nat_lt 0 b.generation && (not (current_link b).asked && (is_none b.rest && not b.shut))
    else b.links == 0

-- a timer was asked for each connect, where these are bounded
abbrev pub IsTimed : Book → Type 0
IsTimed b = (config : Config) → b.config ≡ Some config → connect_timeout config ≢ None → b.timed ≡ b.links

-- the event has had its own effect: what it does is shown, and no wait behind an attempt, generation, link or timer of a connect is
-- to be asked for
pub record IsApplied (b : Book) : Type 0 where
  pub shown : IsShown b
  pub rested : rest_due b ≡ false
  pub generated : generation_due b ≡ false
  pub linked : link_due b ≡ false
  pub timed : IsTimed b

-- the setup of each link has started that is to start, but where the link is held back
abbrev pub SetupsAreStarted : Book → Type 0
SetupsAreStarted b = (l k : ℕ) → setup_due (b.link l) ≡ Some k → is_held_back b (b.link l) ≡ true

-- MONITOR has started where it is to, but where the link is held back
abbrev pub MonitorsAreStarted : Book → Type 0
MonitorsAreStarted b = (l : ℕ) → monitor_due (b.link l) ≡ true → is_held_back b (b.link l) ≡ true

-- within how many milliseconds what the driver says itself is to be answered, if within any
abbrev pub answer_time : Option Config → Option ℕ
answer_time None = None
answer_time (Some config) = response_timeout config

-- where such a time is set, a timer was asked for all that is to be subscribed again
abbrev pub RepeatsAreTimed : Book → Type 0
RepeatsAreTimed b = (l : ℕ) → answer_time b.config ≢ None → again_due (b.link l) ≡ true → (b.link l).again.timed ≡ true

-- what is to be subscribed again has started, but where the link is held back
abbrev pub RepeatsAreStarted : Book → Type 0
RepeatsAreStarted b = (l : ℕ) → again_due (b.link l) ≡ true → is_held_back b (b.link l) ≡ true

-- where such a time is set, a timer was asked for all new credentials that were to be told so far
abbrev pub RenewalsAreTimed : Book → Type 0
RenewalsAreTimed b = (l : ℕ) → answer_time b.config ≢ None → renewals_asked (b.link l) ≤ (b.link l).creds.timed

-- new credentials that are to be told have started, but where the link is held back, or somebody is ahead of them
abbrev pub RenewalsAreStarted : Book → Type 0
RenewalsAreStarted b = (l : ℕ) (c : Credentials) → renewal_due (b.link l) ≡ Some c → is_renewal_held b l ≡ true

-- the event has had its own effect, setups have started, and so have MONITOR, what is subscribed again and new credentials, which
-- have their timers
pub record IsBegun (b : Book) : Type 0 where
  pub applied : IsApplied b
  pub setups : SetupsAreStarted b
  pub monitors : MonitorsAreStarted b
  pub repeats_timed : RepeatsAreTimed b
  pub repeated : RepeatsAreStarted b
  pub timed : RenewalsAreTimed b
  pub renewed : RenewalsAreStarted b

-- a submission whose message has not started, and which makes a step next
pub record CanMove (b : Book) (n : ℕ) : Type 0 where
  pub unstarted : is_unstarted (b.story n) ≡ true
  pub due : is_due (next_step b n) ≡ true

-- every step that may be made was made
pub record IsMoved (b : Book) : Type 0 where
  pub begun : IsBegun b
  pub moved : (n : ℕ) → CanMove b n → ⊥

-- every link that is up is offered its bytes
pub record IsWritten (b : Book) : Type 0 where
  pub moved : IsMoved b
  pub offered : (l : ℕ) → (b.link l).up ≡ true → IsOffered (b.link l)

-- the wait that is true of a submission without a message: its link's connect isn't asked for, or isn't answered, or the
-- credentials for its setup have not come, or the setup isn't answered, or what is subscribed again isn't; all permits are held; the
-- queue of its link has no place for it; or it has its place, and its link is held back
abbrev pub WaitHolds : Book → ℕ → WaitKind → Type 0
WaitHolds b n kind = next_step b n ≡ waits kind

-- its message is started on a link that is up, takes more items, and is offered with all bytes of the link
pub record IsStarted (b : Book) (n : ℕ) : Type 0 where
  pub try : Try
  pub last : last_of (b.story n).tries ≡ Some try
  pub up : (b.link try.link).up ≡ true
  pub takes_more : is_full (b.link try.link) try.message ≡ false
  pub offered : IsOffered (b.link try.link)

-- it has no message, and the wait that was shown is true
pub record IsWaiting (b : Book) (n : ℕ) : Type 0 where
  pub unstarted : (b.story n).tries ≡ []
  pub kind : WaitKind
  pub shown : (b.story n).waiting ≡ Some kind
  pub holds : WaitHolds b n kind

-- what holds after each turn: the event has had its effect, all steps that may be made were made, all bytes are offered, and
-- every open submission is started and offered, or truly in the wait that was shown
pub record IsSettled (b : Book) : Type 0 where
  pub written : IsWritten b
  pub goes : (n : ℕ) → IsOpen b n → IsStarted b n ⊎ IsWaiting b n

-- a turn is announced by its number, after a turn that is settled; the opening is the first, and an event isn't bad
abbrev pub IsFor : Book → Cause → Type 0
IsFor b (cause.Opening config word) = b.turns ≡ 0
IsFor b (cause.Event e) = (b.turns ≢ 0) × IsSettled b × (is_bad_event b e.kind ≡ false)

pub record MayTurn (b : Book) (number : ℕ) (c : Cause) : Type 0 where
  pub next : number ≡ b.turns
  pub is_for : IsFor b c

-- the word of a turn
abbrev pub word_of : Option Cause → ℕ
word_of None = 0
word_of (Some (cause.Opening config word)) = word
word_of (Some (cause.Event e)) = e.word

-- behind a failed attempt that another one follows a timer is asked for, of the delay that the number of the attempt and the word of
-- the turn give
pub record MayRest (b : Book) (t ms : ℕ) (what : Purpose) : Type 0 where
  pub shown : IsShown b
  pub due : rest_due b ≡ true
  pub settings : ConnectionManagerConfig
  pub set : settings_in b.config ≡ Some settings
  pub next : t ≡ length b.timers
  pub long : ms ≡ backoff settings b.attempt (word_of b.running)
  pub is_for : what ≡ purpose.Backoff b.generation

-- the next generation begins where it is to, with the next number, once all that the event does is shown
pub record MayGenerate (b : Book) (g : ℕ) : Type 0 where
  pub shown : IsShown b
  pub rested : rest_due b ≡ false
  pub due : generation_due b ≡ true
  pub next : g ≡ b.generation + 1

-- a link is asked for where one is to be, with the next number, at the configured address, where nothing of the configuration is
-- refused
pub record MayConnect (b : Book) (l : ℕ) (host : List ℕ) (port : ℕ) : Type 0 where
  pub shown : IsShown b
  pub rested : rest_due b ≡ false
  pub generated : generation_due b ≡ false
  pub due : link_due b ≡ true
  pub config : Config
  pub told : b.config ≡ Some config
  pub sound : first_fault config ≡ None
  pub next : l ≡ b.links
  pub info : ConnectionInfo
  pub configured : address config ≡ Some info
  pub address : (host ≡ info.host) × (port ≡ info.port)

-- behind it a timer of the configured time is, where connects are bounded
pub record MayTimeConnect (b : Book) (t ms : ℕ) (what : Purpose) : Type 0 where
  pub shown : IsShown b
  pub rested : rest_due b ≡ false
  pub generated : generation_due b ≡ false
  pub linked : link_due b ≡ false
  pub due : b.timed < b.links
  pub config : Config
  pub told : b.config ≡ Some config
  pub bounded : connect_timeout config ≡ Some ms
  pub next : t ≡ length b.timers
  pub is_for : what ≡ purpose.Connect b.current

-- its last message was full before this came
pub record IsBefore (b : Book) (n : ℕ) (h : Heard) : Type 0 where
  pub try : Try
  pub last : last_of (b.story n).tries ≡ Some try
  pub full : is_full_by (b.link try.link) h.after try.message ≡ true

-- what came next on a link is told, where somebody hears it, in the order of the links, once the creation is shown of those that
-- are ready, all sources were asked for, and the outcomes of messages are shown that were full before it came
pub record MayNotify (b : Book) (l : ℕ) (n : Notice) : Type 0 where
  pub is_heard : is_heard b ≡ true
  pub heard : Heard
  pub next : next_notice (b.link l) ≡ Some heard
  pub says : n ≡ heard.what
  pub in_order : (m : ℕ) → m < l → next_notice (b.link m) ≡ None
  pub created : ReadyIsShown b
  pub sourced : SourcesAreAsked b
  pub answered : (m : ℕ) → IsOpen b m → (b.story m).link ≡ l → IsBefore b m heard → ⊥

-- that a fault ended a link, once it was set up, is told once as a push without parts, where somebody hears pushes, in the order
-- of the links, once all links that must end have, and the outcomes that values gave are shown
pub record MayPart (b : Book) (l : ℕ) (info : PushInfo) : Type 0 where
  pub heard : are_pushes_heard b ≡ true
  pub ended : is_cut (b.link l).end ≡ true
  pub once : (b.link l).parted ≡ false
  pub bare : info.parts ≡ []
  pub in_order : (m : ℕ) → m < l → is_cut (b.link m).end ≡ true → (b.link m).parted ≡ true
  pub closed : NoneEnds b
  pub answered : VerdictsAreShown b
  pub sourced : SourcesAreAsked b

abbrev pub MayPushBy : Bool → Book → ℕ → PushInfo → Type 0
MayPushBy true b l info = MayPart b l info
MayPushBy false b l info = MayNotify b l (notice.Push info)

abbrev pub MayPush : Book → ℕ → PushInfo → Type 0
MayPush b l info = MayPushBy (is_disconnection info.kind) b l info

-- a link is closed by what must end it, in the order of their numbers, once the outcomes that values gave are shown, and what
-- came is told
pub record MayClose (b : Book) (l : ℕ) : Type 0 where
  pub why : Ending
  pub ends : ending (b.link l) ≡ Some why
  pub in_order : (m : ℕ) → m < l → ending (b.link m) ≡ None
  pub answered : VerdictsAreShown b
  pub created : ReadyIsShown b
  pub sourced : SourcesAreAsked b
  pub pushed : NoticesAreTold b

-- the creation is shown once, when a link is ready: once the outcomes that values gave are shown, and before a link ends
pub record MayBeCreated (b : Book) : Type 0 where
  pub l : ℕ
  pub ready : is_ready (b.link l) ≡ true
  pub once : b.created ≡ 0
  pub answered : VerdictsAreShown b

-- it is shown once that the opening of a link failed, the first that did, with its error: once all links that must end have,
-- and the outcomes that values gave are shown
pub record MayFail (b : Book) (e : RedisError) : Type 0 where
  pub l : ℕ
  pub fails : failure_in (b.link l).end ≡ Some e
  pub in_order : (m : ℕ) → m < l → failure_in (b.link m).end ≡ None
  pub once : b.created ≡ 0
  pub ended : NoneEnds b
  pub answered : VerdictsAreShown b
  pub sourced : SourcesAreAsked b

-- a session that waits for its first submission is created as it opens, where nothing of its configuration is refused
pub record MayBeLazy (b : Book) : Type 0 where
  pub config : Config
  pub told : b.config ≡ Some config
  pub sound : first_fault config ≡ None
  pub lazy : is_lazy (Some config) ≡ true
  pub once : b.created ≡ 0

-- the creation: it came to be, or it failed with that error
abbrev pub MayShowCreation : Book → Option RedisError → Type 0
MayShowCreation b None = MayBeCreated b ⊎ MayBeLazy b
MayShowCreation b (Some e) = MayFail b e

-- an open submission is answered with what it is owed: first those whose link has not ended, each before what is told of its
-- link and came after its message was full, and then the others, once all links that must end have, a failed opening was shown, and
-- the ends that are told as pushes were; each in the order of their numbers
pub record MayAnswer (b : Book) (n : ℕ) (o : Outcome) : Type 0 where
  pub asked : IsOpen b n
  pub owes : owed b n ≡ Some o
  pub in_order : (m : ℕ) → m < n → IsOpen b m → is_over (link_of b m) ≡ is_over (link_of b n) → owed b m ≡ None
  pub after_notices : is_heard b ≡ true → (heard : Heard) → next_notice (link_of b n) ≡ Some heard → IsBefore b n heard
  pub after_closes : is_over (link_of b n) ≡ true → NoneEnds b × VerdictsAreShown b × FailuresAreShown b × EndsAreTold b
  pub after_sources : is_over (link_of b n) ≡ true → SourcesAreAsked b

-- the setup of a link starts once its cause is there, and once more where the server counts other arguments, while the link
-- isn't held back
pub record MaySetUp (b : Book) (l message count len : ℕ) : Type 0 where
  pub applied : IsApplied b
  pub k : ℕ
  pub due : setup_due (b.link l) ≡ Some k
  pub free : is_held_back b (b.link l) ≡ false
  pub in_order : (m i : ℕ) → m < l → setup_due (b.link m) ≡ Some i → is_held_back b (b.link m) ≡ true
  pub next : message ≡ length (b.link l).starts
  pub needs_its_items : count ≡ need_of (setup_message (b.link l) k).shape
  pub long_as_its_bytes : len ≡ length (setup_message (b.link l) k).bytes

-- MONITOR starts on a link whose server is to be put into monitor mode, once what is said before it is answered well, while the
-- link isn't held back
pub record MayWatch (b : Book) (l message count len : ℕ) : Type 0 where
  pub applied : IsApplied b
  pub setups : SetupsAreStarted b
  pub due : monitor_due (b.link l) ≡ true
  pub free : is_held_back b (b.link l) ≡ false
  pub in_order : (m : ℕ) → m < l → monitor_due (b.link m) ≡ true → is_held_back b (b.link m) ≡ true
  pub next : message ≡ length (b.link l).starts
  pub needs_its_items : count ≡ need_of monitor_message.shape
  pub long_as_its_bytes : len ≡ length monitor_message.bytes

-- no submission before n makes a step
abbrev pub IsFirstToMove : Book → ℕ → Type 0
IsFirstToMove b n = (m : ℕ) → m < n → CanMove b m → ⊥

-- a source of credentials is asked for, in the order of the links, once the creation is shown of those that are ready
pub record MayNeed (b : Book) (c l : ℕ) : Type 0 where
  pub due : source_due (b.link l) ≡ true
  pub next : c ≡ length b.sources
  pub in_order : (m : ℕ) → m < l → source_due (b.link m) ≡ false
  pub answered : VerdictsAreShown b
  pub created : ReadyIsShown b

-- a timer of the configured time is asked for what is subscribed again, as soon as that is to start
pub record MayTimeRepeat (b : Book) (t ms : ℕ) (what : Purpose) : Type 0 where
  pub applied : IsApplied b
  pub setups : SetupsAreStarted b
  pub monitors : MonitorsAreStarted b
  pub l : ℕ
  pub within : answer_time b.config ≡ Some ms
  pub due : again_due (b.link l) ≡ true
  pub once : (b.link l).again.timed ≡ false
  pub in_order : (m : ℕ) → m < l → again_due (b.link m) ≡ true → (b.link m).again.timed ≡ true
  pub next : t ≡ length b.timers
  pub is_for : what ≡ purpose.Resubscription l

-- all that is subscribed is subscribed again, by one message, on a link that is set up and isn't held back
pub record MayRepeat (b : Book) (l message count len : ℕ) : Type 0 where
  pub applied : IsApplied b
  pub setups : SetupsAreStarted b
  pub monitors : MonitorsAreStarted b
  pub timed : RepeatsAreTimed b
  pub due : again_due (b.link l) ≡ true
  pub free : is_held_back b (b.link l) ≡ false
  pub in_order : (m : ℕ) → m < l → again_due (b.link m) ≡ true → is_held_back b (b.link m) ≡ true
  pub next : message ≡ length (b.link l).starts
  pub needs_its_items : count ≡ need_of (again_message b.tracked).shape
  pub long_as_its_bytes : len ≡ length (again_message b.tracked).bytes

-- a timer of the configured time is asked for new credentials, as soon as they are to be told
pub record MayTimeRenewal (b : Book) (t ms : ℕ) (what : Purpose) : Type 0 where
  pub applied : IsApplied b
  pub setups : SetupsAreStarted b
  pub monitors : MonitorsAreStarted b
  pub repeats_timed : RepeatsAreTimed b
  pub repeated : RepeatsAreStarted b
  pub l : ℕ
  pub within : answer_time b.config ≡ Some ms
  pub asked : (b.link l).creds.timed < renewals_asked (b.link l)
  pub in_order : (m : ℕ) → m < l → renewals_asked (b.link m) ≤ (b.link m).creds.timed
  pub next : t ≡ length b.timers
  pub is_for : what ≡ purpose.Renewal l (b.link l).creds.timed

-- new credentials are told to the server of a link that isn't held back, once those have started that were ahead of them, and before the
-- messages of all other submissions
pub record MayRenew (b : Book) (l message count len : ℕ) : Type 0 where
  pub applied : IsApplied b
  pub setups : SetupsAreStarted b
  pub monitors : MonitorsAreStarted b
  pub repeats_timed : RepeatsAreTimed b
  pub repeated : RepeatsAreStarted b
  pub timed : RenewalsAreTimed b
  pub credentials : Credentials
  pub due : renewal_due (b.link l) ≡ Some credentials
  pub free : is_renewal_held b l ≡ false
  pub in_order : (m : ℕ) (c : Credentials) → m < l → renewal_due (b.link m) ≡ Some c → is_renewal_held b m ≡ true
  pub next : message ≡ length (b.link l).starts
  pub needs_its_items : count ≡ need_of (renewal_message credentials).shape
  pub long_as_its_bytes : len ≡ length (renewal_message credentials).bytes

-- a command whose reply nobody awaits is answered with Nil at its place
pub record MayTell (b : Book) (n : ℕ) (o : Outcome) : Type 0 where
  pub begun : IsBegun b
  pub asked : IsOpen b n
  pub unstarted : is_unstarted (b.story n) ≡ true
  pub tells : next_step b n ≡ tells
  pub in_order : IsFirstToMove b n
  pub nil : o ≡ outcome.One Nil

-- a message starts on the link of its submission, in the order of submissions, with its number there, its need and its
-- length
pub record MayStart (b : Book) (l message n count len : ℕ) : Type 0 where
  pub begun : IsBegun b
  pub unstarted : is_unstarted (b.story n) ≡ true
  pub starts : next_step b n ≡ starts
  pub in_order : IsFirstToMove b n
  pub on_its_link : l ≡ (b.story n).link
  pub next : message ≡ length (b.link l).starts
  pub needs_its_items : count ≡ need_of (shape (b.story n))
  pub long_as_its_bytes : len ≡ length (bytes_of (b.story n))

-- all unwritten bytes of a link that is up are offered, and no offer was unanswered, in the order of the links
pub record MayWrite (b : Book) (l : ℕ) (bytes : List ℕ) : Type 0 where
  pub moved : IsMoved b
  pub up : (b.link l).up ≡ true
  pub answered : (b.link l).offer ≡ []
  pub all : bytes ≡ unwritten (b.link l)
  pub some : bytes ≢ []
  pub in_order : (m : ℕ) → m < l → (b.link m).up ≡ true → IsOffered (b.link m)

-- a wait that is true and isn't the one that was shown is shown, in the order of submissions
pub record MayWait (b : Book) (n : ℕ) (kind : WaitKind) : Type 0 where
  pub written : IsWritten b
  pub asked : IsOpen b n
  pub unstarted : (b.story n).tries ≡ []
  pub new : (b.story n).waiting ≢ Some kind
  pub holds : WaitHolds b n kind
  pub in_order : (m : ℕ) → m < n → IsOpen b m → (b.story m).tries ≡ [] → IsWaiting b m

-- the timer of a submission is asked for, once it holds its permits, in the order of submissions
pub record MayTime (b : Book) (t ms : ℕ) (what : Purpose) : Type 0 where
  pub n : ℕ
  pub begun : IsBegun b
  pub unstarted : is_unstarted (b.story n) ≡ true
  pub asks : next_step b n ≡ asks ms
  pub in_order : IsFirstToMove b n
  pub next : t ≡ length b.timers
  pub is_for : what ≡ purpose.Response (owner.Try n 0)

abbrev pub MayTimer : Book → ℕ → ℕ → Purpose → Type 0
MayTimer b t ms what = (MayTimeConnect b t ms what ⊎ MayRest b t ms what) ⊎ (MayTime b t ms what ⊎ (MayTimeRenewal b t ms what ⊎ MayTimeRepeat b t ms what))

-- the round of a submission begins on its link, in the order of submissions
pub record MayRound (b : Book) (n l : ℕ) : Type 0 where
  pub begun : IsBegun b
  pub unstarted : is_unstarted (b.story n) ≡ true
  pub rounds : next_step b n ≡ rounds
  pub in_order : IsFirstToMove b n
  pub on_its_link : l ≡ (b.story n).link

-- it does so on one link
abbrev pub MayRoundOn : Book → ℕ → Option ℕ → Type 0
MayRoundOn b n None = ⊥
MayRoundOn b n (Some l) = MayRound b n l

-- a submission takes its permits, in the order of submissions
pub record MayTake (b : Book) (n l count : ℕ) : Type 0 where
  pub begun : IsBegun b
  pub unstarted : is_unstarted (b.story n) ≡ true
  pub takes : next_step b n ≡ takes count
  pub in_order : IsFirstToMove b n
  pub on_its_link : l ≡ (b.story n).link

-- where each action may stand
abbrev pub MayStand : Book → Action → Type 0
MayStand b (action.Turn number c) = MayTurn b number c
MayStand b (action.Connect l host port) = MayConnect b l host port
MayStand b (action.Timer t ms what) = MayTimer b t ms what
MayStand b (action.Took owner.Setup l count) = ⊥
MayStand b (action.Took owner.Auth l count) = ⊥
MayStand b (action.Took owner.Resub l count) = ⊥
MayStand b (action.Took owner.Monitor l count) = ⊥
MayStand b (action.Took (owner.Try n round) l count) = (round ≡ 0) × MayTake b n l count
MayStand b (action.Push l info) = MayPush b l info
MayStand b (action.Message m) = MayNotify b b.current (notice.Message m)
MayStand b (action.Monitor v) = MayNotify b b.current (notice.Monitor v)
MayStand b (action.NeedCreds c l) = MayNeed b c l
MayStand b (action.Generation g) = MayGenerate b g
MayStand b (action.Round owner.Setup l) = ⊥
MayStand b (action.Round owner.Auth l) = ⊥
MayStand b (action.Round owner.Resub l) = ⊥
MayStand b (action.Round owner.Monitor l) = ⊥
MayStand b (action.Round (owner.Try n round) l) = (round ≡ 0) × MayRoundOn b n l
MayStand b (action.Close l) = MayClose b l
MayStand b (action.Write l bytes) = MayWrite b l bytes
MayStand b (action.Wait owner.Setup kind) = ⊥
MayStand b (action.Wait owner.Auth kind) = ⊥
MayStand b (action.Wait owner.Resub kind) = ⊥
MayStand b (action.Wait owner.Monitor kind) = ⊥
MayStand b (action.Start l message owner.Auth count len) = MayRenew b l message count len
MayStand b (action.Start l message owner.Setup count len) = MaySetUp b l message count len
MayStand b (action.Start l message owner.Monitor count len) = MayWatch b l message count len
MayStand b (action.Start l message owner.Resub count len) = MayRepeat b l message count len
MayStand b (action.Wait (owner.Try n round) kind) = (round ≡ 0) × MayWait b n kind
MayStand b (action.Start l message (owner.Try n round) count len) = (round ≡ 0) × MayStart b l message n count len
MayStand b (action.Created e) = MayShowCreation b e
MayStand b (action.Outcome n o) = MayAnswer b n o ⊎ MayTell b n o

-- each of these actions stands where it may, behind what is in the book
abbrev pub AllStand : Book → List Action → Type 0
AllStand b [] = Unit {0}
AllStand b (a ∷ more) = MayStand b a × AllStand (entered b a) more

abbrev pub causes : List Action → List Cause
causes [] = []
causes (action.Turn k c ∷ more) = c ∷ causes more
causes (_ ∷ more) = causes more

abbrev pub event_causes : List Event → List Cause
event_causes [] = []
event_causes (e ∷ es) = cause.Event e ∷ event_causes es

-- a trace that can be relied on: it has the opening and then one turn for each event, each action stands where it may, and
-- the last turn is settled
pub record Legal (config : Config) (word : ℕ) (events : List Event) (trace : List Action) : Type 0 where
  pub turns : causes trace ≡ cause.Opening config word ∷ event_causes events
  pub each : AllStand blank_book trace
  pub settled : IsSettled (book trace)
