-- The book of a trace: all that it says, by one fold over its actions. Links and submissions go by their numbers.
use Rattle.std.specs.Prelude.{ℕ, ◌+◌, ◌-◌, ◌==◌, max, Bool, true, false, ◌&&◌, ◌||◌, not, List, [], ◌∷◌, ◌++◌, Option, Some, None, is_none, is_some, slice_get, if◌then◌else◌}
use Rattle.driver_model.specs.declared.config.Config.{Config}
use Rattle.driver_model.specs.declared.action.Action.{Action}
use Rattle.driver_model.specs.declared.action.Action.TheVariants as action
use Rattle.driver_model.specs.declared.action.Cause.{Cause}
use Rattle.driver_model.specs.declared.action.Cause.TheVariants as cause
use Rattle.driver_model.specs.declared.action.Purpose.{Purpose}
use Rattle.driver_model.specs.declared.action.Purpose.TheVariants as purpose
use Rattle.driver_model.specs.declared.action.SourceUse.{SourceUse}
use Rattle.driver_model.specs.declared.action.SourceUse.TheVariants as source
use Rattle.driver_model.specs.declared.action.Owner.{Owner}
use Rattle.driver_model.specs.declared.action.Owner.TheVariants as owner
use Rattle.driver_model.specs.declared.event.EventKind.{EventKind}
use Rattle.driver_model.specs.declared.event.EventKind.TheVariants as event
use Rattle.connection_info.specs.declared.address.RedisConnectionInfo.{RedisConnectionInfo}
use Rattle.driver_model.specs.Config.{kind_of, response_timeout, told_info, bare_info, wants_credentials, hearing_of}
use Rattle.driver_model.specs.declared.kind.SessionKind.{SessionKind}
use Rattle.driver_model.specs.declared.kind.SessionKind.TheVariants as kind
use Rattle.driver_model.specs.declared.hearing.Hearing.{Hearing}
use Rattle.driver_model.specs.declared.hearing.Hearing.TheVariants as hearing
use Rattle.driver_model.specs.declared.event.Submission.{Submission}
use Rattle.driver_model.specs.declared.outcome.Outcome.{Outcome}
use Rattle.driver_model.specs.declared.outcome.Outcome.TheVariants as outcome
use Rattle.driver_model.specs.News.{news_of}
use Rattle.driver_model.specs.Request.{needs_resp3}
use Rattle.driver_model.specs.Hearing.{hears_messages}
use Rattle.connection_info.specs.Protocol.{is_resp3}
use Rattle.credentials.specs.Credentials.{Credentials}
use Rattle.redis_error.specs.declared.redis_error.RedisError.{RedisError}
use Rattle.legal_trace.specs.Ledger.{Ledger, Start, Line, asks, hears, begins, offers, ends, blank_ledger, setup_count, setup_message, monitor_message, renewal_due, renewal_message, noted, noted_each, tells, parts, sources, times, repeats_timed}
use Rattle.resp_value.specs.declared.push_kind.PushKind.{PushKind}
use Rattle.driver_model.specs.Push.{is_disconnection}
use Rattle.legal_trace.specs.Story.{Story, blank_story, bytes_of, shape, is_open, has_place, handed_in, carried, left, holds, clocked, rounds, fires, tried, waits, answered}
use Rattle.sub_tracker.specs.Subscribed.{Request}
use Rattle.legal_trace.specs.Managers.{settings_in, is_last}
use Rattle.legal_trace.specs.Again.{again_message, confirmed, repeats_in}

-- the configuration, once the opening has told it; how many links were asked for, and the ledger of each; how many
-- submissions were handed in, and the story of each; what each timer, and each source of credentials, was asked for, in order;
-- how often the creation was shown, or its failure; within how many milliseconds a submission that is handed in now is to be
-- answered, if within any; whether everything was shut down; how many turns began, and what the turn that runs is the turn of;
-- the link that submissions go to; how many generations began, and how many attempts of the current one failed before the one that
-- runs; the timer of the wait behind a failed attempt, while that goes on; for how many connects a timer was asked; whether the
-- creation failed; the subscription calls that were confirmed, in order; and the errors that submissions were answered with in the
-- turn that runs, since they go to that link; and in which turn each submission took its place in the queue of its link, where it has
-- one, and in which the new credentials of each link became due that are to be told next, or were last
pub record Book : Type 0 where
  pub config : Option Config
  pub links : ℕ
  pub link : ℕ → Ledger
  pub submissions : ℕ
  pub story : ℕ → Story
  pub timers : List Purpose
  pub sources : List SourceUse
  pub created : ℕ
  pub timeout : Option ℕ
  pub shut : Bool
  pub turns : ℕ
  pub running : Option Cause
  pub current : ℕ
  pub generation : ℕ
  pub attempt : ℕ
  pub rest : Option ℕ
  pub timed : ℕ
  pub failed : Bool
  pub tracked : List Request
  pub errors : List RedisError
  pub placed : ℕ → Option ℕ
  pub since : ℕ → ℕ

abbrev pub blank_book : Book
blank_book = record { config = None; links = 0; link = λ n. blank_ledger; submissions = 0; story = λ n. blank_story; timers = []; sources = []; created = 0; timeout = None; shut = false; turns = 0; running = None; current = 0; generation = 0; attempt = 0; rest = None; timed = 0; failed = false; tracked = []; errors = []; placed = λ n. None; since = λ l. 0 }

-- what is said to a server before the first request, where a configuration tells it
abbrev pub info_in : Option Config → RedisConnectionInfo
info_in None = bare_info
info_in (Some config) = told_info config

-- and whether credentials come of sources
abbrev pub wanted_in : Option Config → Bool
wanted_in None = false
wanted_in (Some config) = wants_credentials config

-- and what is heard beside replies
abbrev pub hearing_in : Option Config → Hearing
hearing_in None = hearing.Nothing
hearing_in (Some config) = hearing_of config

-- and what the session is
abbrev pub kind_in : Option Config → SessionKind
kind_in None = kind.Single
kind_in (Some config) = kind_of config

-- the session comes back in a new generation, where its link is lost
abbrev pub has_generations : Book → Bool
has_generations b = is_some (settings_in b.config)

-- these credentials, where there are any
abbrev pub credentials_in : Option Credentials → Credentials
credentials_in None = record { username = []; password = [] }
credentials_in (Some c) = c

-- and the message that tells them
abbrev pub renewal_in : Option Credentials → Start
renewal_in o = renewal_message (credentials_in o)

-- a message that starts on link l as its owner has it: it carries the owner's bytes
abbrev pub message_of : Book → ℕ → Owner → Start
message_of b l owner.Setup = setup_message (b.link l) (setup_count (b.link l).starts)
message_of b l owner.Auth = renewal_in (renewal_due (b.link l))
message_of b l owner.Resub = again_message b.tracked
message_of b l owner.Monitor = monitor_message
message_of b l (owner.Try n round) = record { owner = owner.Try n round; shape = shape (b.story n); bytes = bytes_of (b.story n) }

-- a line of one link alone
abbrev pub if_mine : Bool → Line → List Line
if_mine mine line = if mine then line ∷ [] else []

-- a push tells one that came, or, where it is of the kind that the driver alone makes, that the link has ended
abbrev pub push_line : PushKind → Line
push_line kind = if is_disconnection kind then parts else tells

-- what a timer that is asked for tells of link n: it is for new credentials, or for what is subscribed again
abbrev pub timer_lines : ℕ → Purpose → List Line
timer_lines n (purpose.Renewal l k) = if_mine (l == n) times
timer_lines n (purpose.Resubscription l) = if_mine (l == n) repeats_timed
timer_lines n (purpose.Connect l) = []
timer_lines n (purpose.Response who) = []
timer_lines n (purpose.Backoff g) = []

-- what an action tells of link n
abbrev pub lines_of : Book → ℕ → Action → List Line
lines_of b n (action.Turn number (cause.Opening config word)) = []
lines_of b n (action.Turn number (cause.Event e)) = hears number (news_of b.timers b.sources n e.kind) ∷ []
lines_of b n (action.Connect l host port) = if_mine (l == n) (asks (info_in b.config) (wanted_in b.config) (hearing_in b.config) (is_last (settings_in b.config) b.attempt) (repeats_in (settings_in b.config) b.tracked))
lines_of b n (action.Timer t ms what) = timer_lines n what
lines_of b n (action.NeedCreds c l) = if_mine (l == n) sources
lines_of b n (action.Generation g) = []
lines_of b n (action.Round who l) = []
lines_of b n (action.Took who l count) = []
lines_of b n (action.Push l info) = if_mine (l == n) (push_line info.kind)
lines_of b n (action.Message m) = if_mine (b.current == n) tells
lines_of b n (action.Monitor v) = if_mine (b.current == n) tells
lines_of b n (action.Close l) = if_mine (l == n) (ends (b.turns - 1))
lines_of b n (action.Write l bytes) = if_mine (l == n) (offers bytes)
lines_of b n (action.Start l message who count len) = if_mine (l == n) (begins (message_of b l who))
lines_of b n (action.Wait who kind) = []
lines_of b n (action.Created e) = []
lines_of b n (action.Outcome m o) = []

-- a submission needs RESP3, on a connection that servers are told another protocol for, and on which no messages are heard
abbrev pub is_unspoken : Book → Submission → Bool
is_unspoken b what = needs_resp3 what && (not (hears_messages (hearing_in b.config)) && not (is_resp3 (info_in b.config).protocol))

-- a change of one story alone
abbrev pub if_own : Bool → Story → Story → Story
if_own own changed s = if own then changed else s

-- a timer that was asked for this is the one of submission n
abbrev pub is_clock_of : ℕ → Option Purpose → Bool
is_clock_of n None = false
is_clock_of n (Some (purpose.Connect l)) = false
is_clock_of n (Some (purpose.Response owner.Setup)) = false
is_clock_of n (Some (purpose.Response owner.Auth)) = false
is_clock_of n (Some (purpose.Response owner.Resub)) = false
is_clock_of n (Some (purpose.Response owner.Monitor)) = false
is_clock_of n (Some (purpose.Renewal l k)) = false
is_clock_of n (Some (purpose.Backoff g)) = false
is_clock_of n (Some (purpose.Resubscription l)) = false
is_clock_of n (Some (purpose.Response (owner.Try m round))) = m == n

-- what an event is to submission n
abbrev pub after_event : Book → ℕ → EventKind → Story
after_event b n (event.Submit what) = if_own (b.submissions == n) (handed_in (b.story n) what b.shut (is_unspoken b what) (max 1 b.generation) b.current b.timeout) (b.story n)
after_event b n (event.Cancel m) = if_own (m == n) (left (b.story n)) (b.story n)
after_event b n (event.Connected l) = b.story n
after_event b n (event.Refused l f) = b.story n
after_event b n (event.Wrote l count) = b.story n
after_event b n (event.Bytes l piece) = b.story n
after_event b n (event.Ended l) = b.story n
after_event b n (event.ReadFault l kind) = b.story n
after_event b n (event.WriteFault l kind) = b.story n
after_event b n (event.Fired t) = if_own (is_clock_of n (slice_get b.timers t)) (fires (b.story n)) (b.story n)
after_event b n (event.Timeout ms) = b.story n
after_event b n (event.Creds c auth) = b.story n
after_event b n (event.CredsError c text) = b.story n
after_event b n (event.CredsEnd c) = b.story n
after_event b n event.DropStream = b.story n
after_event b n event.Shutdown = b.story n

-- a timer is for the wait behind a failed attempt
abbrev pub is_rest : Purpose → Bool
is_rest (purpose.Backoff g) = true
is_rest (purpose.Connect l) = false
is_rest (purpose.Response who) = false
is_rest (purpose.Renewal l k) = false
is_rest (purpose.Resubscription l) = false

-- or for a connect
abbrev pub is_of_connect : Purpose → Bool
is_of_connect (purpose.Connect l) = true
is_of_connect (purpose.Response who) = false
is_of_connect (purpose.Renewal l k) = false
is_of_connect (purpose.Backoff g) = false
is_of_connect (purpose.Resubscription l) = false

-- what a timer that is asked for is to submission n: its own, or that of the wait behind a failed attempt, with which it goes to the
-- next link while it is open
abbrev pub after_timer : Book → ℕ → ℕ → Purpose → Story
after_timer b n t what = if_own (is_rest what && is_open (b.story n)) (carried (b.story n) b.links) (if_own (is_clock_of n (Some what)) (clocked (b.story n) t) (b.story n))

-- what an action is to submission n
abbrev pub story_after : Book → ℕ → Action → Story
story_after b n (action.Turn number (cause.Opening config word)) = b.story n
story_after b n (action.Turn number (cause.Event e)) = after_event b n e.kind
story_after b n (action.Start l message (owner.Try m round) count len) = if_own (m == n) (tried (b.story n) l message) (b.story n)
story_after b n (action.Wait (owner.Try m round) kind) = if_own (m == n) (waits (b.story n) kind) (b.story n)
story_after b n (action.Outcome m o) = if_own (m == n) (answered (b.story n) o) (b.story n)
story_after b n (action.Connect l host port) = b.story n
story_after b n (action.Timer t ms what) = after_timer b n t what
story_after b n (action.Took owner.Setup l count) = b.story n
story_after b n (action.Took owner.Auth l count) = b.story n
story_after b n (action.Took owner.Resub l count) = b.story n
story_after b n (action.Took owner.Monitor l count) = b.story n
story_after b n (action.Start l message owner.Setup count len) = b.story n
story_after b n (action.Start l message owner.Auth count len) = b.story n
story_after b n (action.Start l message owner.Resub count len) = b.story n
story_after b n (action.Start l message owner.Monitor count len) = b.story n
story_after b n (action.Wait owner.Setup kind) = b.story n
story_after b n (action.Wait owner.Auth kind) = b.story n
story_after b n (action.Wait owner.Resub kind) = b.story n
story_after b n (action.Wait owner.Monitor kind) = b.story n
story_after b n (action.Took (owner.Try m round) l count) = if_own (m == n) (holds (b.story n) count) (b.story n)
story_after b n (action.Push l info) = b.story n
story_after b n (action.Message m) = b.story n
story_after b n (action.Monitor v) = b.story n
story_after b n (action.NeedCreds c l) = b.story n
story_after b n (action.Generation g) = b.story n
story_after b n (action.Round (owner.Try m round) l) = if_own (m == n) (rounds (b.story n)) (b.story n)
story_after b n (action.Round owner.Setup l) = b.story n
story_after b n (action.Round owner.Auth l) = b.story n
story_after b n (action.Round owner.Resub l) = b.story n
story_after b n (action.Round owner.Monitor l) = b.story n
story_after b n (action.Close l) = b.story n
story_after b n (action.Write l bytes) = b.story n
story_after b n (action.Created e) = b.story n

-- how many submissions an event hands in, and whether it shuts everything down
abbrev pub submitted_by : EventKind → ℕ
submitted_by (event.Submit what) = 1
submitted_by _ = 0

abbrev pub shuts : EventKind → Bool
shuts event.Shutdown = true
shuts _ = false

-- the time that an event sets, for the requests of one multiplexed connection
abbrev pub timeout_after : SessionKind → Option ℕ → EventKind → Option ℕ
timeout_after kind.Single old (event.Timeout ms) = ms
timeout_after _ old _ = old

-- the wait behind a failed attempt is over once its timer fires
abbrev pub rest_after : Option ℕ → EventKind → Option ℕ
rest_after (Some t) (event.Fired s) = if s == t then None else Some t
rest_after rest _ = rest

-- what a turn's cause is to the counts of a book
abbrev pub begun : Book → Cause → Book
begun b (cause.Opening config word) = record b { config = Some config; timeout = response_timeout config; turns = b.turns + 1; running = Some (cause.Opening config word); errors = [] }
begun b (cause.Event e) = record b {
  turns = b.turns + 1;
  running = Some (cause.Event e);
  submissions = b.submissions + submitted_by e.kind;
  timeout = timeout_after (kind_in b.config) b.timeout e.kind;
  shut = b.shut || shuts e.kind;
  rest = rest_after b.rest e.kind;
  errors = [];
}

-- a source that is asked for a link: the first is for its setup, and the second for its renewals
abbrev pub use_for : Book → ℕ → SourceUse
use_for b l = if (b.link l).creds.asked then source.Renewal l else source.Setup l

-- the error that an outcome is, if it is one
abbrev pub faults_in : Outcome → List RedisError
faults_in (outcome.One value) = []
faults_in (outcome.Many values) = []
faults_in outcome.Done = []
faults_in (outcome.Fault e) = e ∷ []

-- what a timer that is asked for is to the counts of a book: with that of the wait behind a failed attempt submissions go to the next
-- link, for which the next attempt asks
abbrev pub timed_for : Book → ℕ → Purpose → Book
timed_for b t what = record b {
  timers = b.timers ++ what ∷ [];
  current = if is_rest what then b.links else b.current;
  attempt = if is_rest what then b.attempt + 1 else b.attempt;
  rest = if is_rest what then Some t else b.rest;
  errors = if is_rest what then [] else b.errors;
  timed = if is_of_connect what then b.timed + 1 else b.timed;
}

-- what an action is to the counts of a book
abbrev pub counted : Book → Action → Book
counted b (action.Turn number c) = begun b c
counted b (action.Connect l host port) = record b { links = b.links + 1; current = l }
counted b (action.Timer t ms what) = timed_for b t what
counted b (action.Took who l count) = b
counted b (action.Created e) = record b { created = b.created + 1; failed = b.failed || is_some e }
counted b (action.Push l info) = b
counted b (action.Message m) = b
counted b (action.Monitor v) = b
counted b (action.NeedCreds c l) = record b { sources = b.sources ++ use_for b l ∷ [] }
counted b (action.Generation g) = record b { current = b.links; generation = g; attempt = 0; rest = None; errors = [] }
counted b (action.Round who l) = b
counted b (action.Close l) = b
counted b (action.Write l bytes) = b
counted b (action.Wait who kind) = b
counted b (action.Start l message who count len) = b
counted b (action.Outcome n o) = record b { tracked = b.tracked ++ confirmed (b.story n).submission o; errors = b.errors ++ faults_in o }

-- since which turn a submission has its place, where it has one: it keeps the one that it took first, or takes it in the turn that runs
abbrev pub placed_since : Bool → Option ℕ → ℕ → Option ℕ
placed_since false old turn = None
placed_since true None turn = Some turn
placed_since true (Some place) turn = Some place

-- since when new credentials of a link are due, of what it was before the turn of that number and what the turn makes of it
abbrev pub due_since : ℕ → Ledger → Ledger → ℕ → ℕ
due_since old before behind number = if is_some (renewal_due behind) && is_none (renewal_due before) then number else old

-- and behind an action: what a turn tells makes them due, and nothing else
abbrev pub since_after : Book → ℕ → Action → ℕ
since_after b l (action.Turn number (cause.Event e)) = due_since (b.since l) (b.link l) (noted (b.link l) (hears number (news_of b.timers b.sources l e.kind))) number
since_after b l _ = b.since l

-- what one more action adds
abbrev pub entered : Book → Action → Book
entered b a = record (counted b a) {
  link = λ n. noted_each (b.link n) (lines_of b n a);
  story = λ n. story_after b n a;
  placed = λ n. placed_since (has_place (story_after b n a)) (b.placed n) (b.turns - 1);
  since = λ l. since_after b l a;
}

abbrev pub entered_each : Book → List Action → Book
entered_each b [] = b
entered_each b (a ∷ more) = entered_each (entered b a) more

-- the book of a trace
unfoldable pub book : List Action → Book
book trace = entered_each blank_book trace

-- what actions tell of link n, behind what is in a book
abbrev pub lines_of_each : Book → ℕ → List Action → List Line
lines_of_each b n [] = []
lines_of_each b n (a ∷ more) = lines_of b n a ++ lines_of_each (entered b a) n more
