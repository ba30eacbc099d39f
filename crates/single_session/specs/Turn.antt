-- One turn of a session: what the outside sees by number, over a connection that knows no numbers.
use Rattle.std.specs.Prelude.{◌<◌, ◌≤◌, ℕ, ◌+◌, ◌^◌, ◌==◌, nat_lt, nat_le, Bool, true, false, ◌&&◌, ◌||◌, List, [], ◌∷◌, ◌++◌, length, Option, Some, None, is_some, slice_get, if◌then◌else◌}
use Rattle.redis_error.specs.declared.redis_error.RedisError.{RedisError}
use Rattle.redis_error.specs.declared.redis_error.RedisError.TheVariants as error
use Rattle.driver_model.specs.declared.action.Action.{Action}
use Rattle.driver_model.specs.declared.action.Action.TheVariants as action
use Rattle.driver_model.specs.declared.action.Cause.TheVariants as cause
use Rattle.driver_model.specs.declared.action.Owner.TheVariants as owner
use Rattle.driver_model.specs.declared.action.Purpose.{Purpose}
use Rattle.driver_model.specs.declared.action.Purpose.TheVariants as purpose
use Rattle.driver_model.specs.declared.action.SourceUse.{SourceUse}
use Rattle.driver_model.specs.declared.action.SourceUse.TheVariants as source
use Rattle.driver_model.specs.declared.event.Event.{Event}
use Rattle.driver_model.specs.declared.event.EventKind.{EventKind}
use Rattle.driver_model.specs.declared.event.EventKind.TheVariants as event
use Rattle.driver_model.specs.declared.event.Submission.{Submission}
use Rattle.driver_model.specs.declared.outcome.Outcome.TheVariants as outcome
use Rattle.driver_model.specs.Kind.{has_timeouts}
use Rattle.driver_model.specs.News.{news_of}
use Rattle.driver_model.specs.Request.{packed_bytes, shape_of, is_reply_awaited, lacks_resp3, has_no_form}
use Rattle.mux_conn.specs.declared.act.LinkAct.{LinkAct}
use Rattle.mux_conn.specs.declared.act.LinkAct.TheVariants as act
use Rattle.mux_conn.specs.declared.life.Life.{Life}
use Rattle.mux_conn.specs.declared.life.Life.TheVariants.{Resting, Dialing, Wanting, SettingUp, Ready, Ended}
use Rattle.mux_conn.specs.declared.request.Pending.{Pending}
use Rattle.mux_conn.specs.Connection.{Work, work_with, is_used_up}
use Rattle.mux_conn.specs.Requests.{asked}
use Rattle.mux_conn.specs.Effects.{applied, left, timed_out}
use Rattle.mux_conn.specs.Passes.{passed}
use Rattle.mux_conn.specs.Turn.{flushed}
use Rattle.single_session.specs.declared.core_state.Core.{Core}
use Rattle.single_session.specs.declared.generations.Comeback.{Comeback}
use Rattle.single_session.specs.declared.generations.Comeback.TheVariants as comeback
use Rattle.single_session.specs.Generations.{has_ended, wakes_in, heeding, comeback_in, came_back, comeback_shown_in}

-- a session in the middle of a turn, and the acts of its connection so far, which speak of submissions by their numbers
pub record Turning : Type 0 where
  pub core : Core
  pub acts : List LinkAct

-- this session, and these acts of its connection so far
abbrev pub turning_with : Core → List LinkAct → Turning
turning_with core acts = record { core = core; acts = acts }

-- its connection's part
abbrev pub work_of : Turning → Work
work_of t = record { conn = t.core.single.connection; acts = t.acts }

abbrev pub with_work : Turning → Work → Turning
with_work t w = record { core = record t.core { single = record t.core.single { connection = w.conn } }; acts = w.acts }

abbrev pub is_shutdown : EventKind → Bool
is_shutdown event.Shutdown = true
is_shutdown (event.Submit what) = false
is_shutdown (event.Cancel n) = false
is_shutdown (event.Connected l) = false
is_shutdown (event.Refused l f) = false
is_shutdown (event.Fired t) = false
is_shutdown (event.Creds c auth) = false
is_shutdown (event.CredsError c text) = false
is_shutdown (event.CredsEnd c) = false
is_shutdown (event.Timeout ms) = false
is_shutdown event.DropStream = false
is_shutdown (event.Wrote l count) = false
is_shutdown (event.Bytes l piece) = false
is_shutdown (event.Ended l) = false
is_shutdown (event.ReadFault l kind) = false
is_shutdown (event.WriteFault l kind) = false

abbrev pub shut_by : Core → EventKind → Core
shut_by c kind = record c { shut = c.shut || is_shutdown kind }

-- the connection hears its link's news
abbrev pub heard : Turning → EventKind → Turning
heard t kind = with_work (record t { core = shut_by t.core kind }) (applied (work_of t) (news_of t.core.timers t.core.sources t.core.single.link kind))

-- the next submission has no request: it is answered at once
abbrev pub refused_with : Turning → RedisError → Turning
refused_with t e = record { core = record t.core { table = t.core.table ++ None ∷ [] }; acts = t.acts ++ act.Outcome (length t.core.table) (outcome.Fault e) ∷ [] }

abbrev pub pending : ℕ → Pending
pending p = record { number = p }

-- the next submission is a request of the connection, named by its number
abbrev pub asked_for : Turning → Submission → Turning
asked_for t what =
    let conn = t.core.single.connection in
    record t {
      core = record t.core {
        table = t.core.table ++ Some (pending (length conn.requests)) ∷ [];
        single = record t.core.single { connection = asked conn (length t.core.table) (packed_bytes what) (shape_of what) (is_reply_awaited what) t.core.timeout };
      };
    }

-- a submission is checked, and then waits
abbrev pub submitted : Turning → Submission → Turning
submitted t what =
    if t.core.shut then refused_with t error.Closed
    else if lacks_resp3 t.core.single.connection.hears t.core.single.connection.info.protocol what then refused_with t error.Resp3Required
    else if length (packed_bytes what) == 0 then refused_with t error.EmptyCommand
    else asked_for t what

-- the caller of a submission has gone, and with it its request, if it has one
abbrev pub left_by : Turning → Option (Option Pending) → Turning
left_by t None = t
left_by t (Some None) = t
left_by t (Some (Some p)) = record t { core = record t.core { single = record t.core.single { connection = left t.core.single.connection p.number } } }

-- the time of request p is over
abbrev pub late_by : Turning → Option (Option Pending) → Turning
late_by t None = t
late_by t (Some None) = t
late_by t (Some (Some p)) = with_work t (timed_out (work_of t) p.number)

-- a timer fires that was asked for this, if it was asked: what it is to the connection alone was heard
abbrev pub fired_by : Turning → Option Purpose → Turning
fired_by t None = t
fired_by t (Some (purpose.Connect l)) = t
fired_by t (Some (purpose.Response owner.Setup)) = t
fired_by t (Some (purpose.Response owner.Auth)) = t
fired_by t (Some (purpose.Response owner.Resub)) = t
fired_by t (Some (purpose.Response owner.Monitor)) = t
fired_by t (Some (purpose.Renewal l k)) = t
fired_by t (Some (purpose.Backoff g)) = t
fired_by t (Some (purpose.Resubscription l)) = t
fired_by t (Some (purpose.Response (owner.Try n round))) = late_by t (slice_get t.core.table n)

-- a new time for the requests of one multiplexed connection
abbrev pub timed_by : Core → Option ℕ → Core
timed_by c ms = if has_timeouts c.kind then record c { timeout = ms } else c

-- what an event is to the submissions
abbrev pub requested : Turning → EventKind → Turning
requested t (event.Submit what) = submitted t what
requested t (event.Cancel n) = left_by t (slice_get t.core.table n)
requested t (event.Connected l) = t
requested t (event.Refused l f) = t
requested t (event.Fired n) = fired_by t (slice_get t.core.timers n)
requested t (event.Timeout ms) = record t { core = timed_by t.core ms }
requested t (event.Creds c auth) = t
requested t (event.CredsError c text) = t
requested t (event.CredsEnd c) = t
requested t (event.Wrote l count) = t
requested t (event.Bytes l piece) = t
requested t (event.Ended l) = t
requested t (event.ReadFault l kind) = t
requested t (event.WriteFault l kind) = t
requested t event.DropStream = t
requested t event.Shutdown = t

-- the event's own effect
abbrev pub effect : Turning → EventKind → Turning
effect t kind = requested (heard t kind) kind

-- one more turn
abbrev pub counted : Core → Turning
counted c = record { core = record c { turns = c.turns + 1 }; acts = [] }

-- open submissions are moved, and bytes and waits are shown
abbrev pub moved_on : Turning → Turning
moved_on t = with_work t (flushed (passed (work_of t)))

-- the event has its effect, and then all is moved
abbrev pub whole_effect : Turning → EventKind → Turning
whole_effect t kind = moved_on (effect t kind)

-- what the timer of an act of the connection of link l is for, if it asks for one
abbrev pub timer_of : ℕ → LinkAct → List Purpose
timer_of l (act.Timer n ms) = purpose.Response (owner.Try n 0) ∷ []
timer_of l (act.RenewalTimer k ms) = purpose.Renewal l k ∷ []
timer_of l (act.RepeatTimer ms) = purpose.Resubscription l ∷ []
timer_of l (act.Round n) = []
timer_of l (act.Took n count) = []
timer_of l (act.Created e) = []
timer_of l act.NeedCreds = []
timer_of l act.NeedRenewals = []
timer_of l (act.SetUp message need len) = []
timer_of l (act.Renewed message need len) = []
timer_of l (act.Repeated message need len) = []
timer_of l (act.Push info) = []
timer_of l (act.Message m) = []
timer_of l (act.Monitor v) = []
timer_of l (act.Watch message need len) = []
timer_of l act.Close = []
timer_of l (act.Write bytes) = []
timer_of l (act.Wait n kind) = []
timer_of l (act.Start message n need len) = []
timer_of l (act.Outcome n o) = []

-- what the timers of acts are for, in order
abbrev pub timers_of : ℕ → List LinkAct → List Purpose
timers_of l [] = []
timers_of l (a ∷ more) = timer_of l a ++ timers_of l more

-- what the source of credentials of an act of the connection of link l is for, if it asks for one
abbrev pub source_of : ℕ → LinkAct → List SourceUse
source_of l act.NeedCreds = source.Setup l ∷ []
source_of l act.NeedRenewals = source.Renewal l ∷ []
source_of l (act.Created e) = []
source_of l (act.Round m) = []
source_of l (act.Took m count) = []
source_of l (act.Timer m ms) = []
source_of l (act.RenewalTimer k ms) = []
source_of l (act.RepeatTimer ms) = []
source_of l (act.SetUp message need len) = []
source_of l (act.Renewed message need len) = []
source_of l (act.Repeated message need len) = []
source_of l (act.Push info) = []
source_of l (act.Message m) = []
source_of l (act.Monitor v) = []
source_of l (act.Watch message need len) = []
source_of l act.Close = []
source_of l (act.Write bytes) = []
source_of l (act.Wait m kind) = []
source_of l (act.Start message m need len) = []
source_of l (act.Outcome m o) = []

-- what the sources of acts are for, in order
abbrev pub sources_of : ℕ → List LinkAct → List SourceUse
sources_of l [] = []
sources_of l (a ∷ more) = source_of l a ++ sources_of l more

-- the timers and the sources of the turn have got their numbers
abbrev pub numbered : Turning → Turning
numbered t = record t {
  core = record t.core {
    timers = t.core.timers ++ timers_of t.core.single.link t.acts;
    sources = t.core.sources ++ sources_of t.core.single.link t.acts;
  };
}

-- the event has its effect, and open submissions are moved
abbrev pub passed_by : Turning → EventKind → Turning
passed_by t kind = let u = effect t kind in with_work u (passed (work_of u))

-- bytes and waits are shown, behind what was
abbrev pub flushed_on : Turning → Turning
flushed_on t = with_work t (flushed (work_of t))

-- bytes and waits are shown, apart from what was
abbrev pub flushed_apart : Core → Work
flushed_apart c = flushed (work_with c.single.connection [])

-- a manager does something of its own behind these acts, where its link was over before the event or not
abbrev pub own_part : Turning → Bool → EventKind → Comeback
own_part t over kind = let c = heeding t.core kind t.acts in comeback_in c.manager (wakes_in t.core.manager kind) over c t.acts

-- it is done
abbrev pub come_back_behind : Turning → Bool → EventKind → Core
come_back_behind t over kind = came_back (heeding t.core kind t.acts) (own_part t over kind)

-- and then bytes and waits are shown
abbrev pub ended_apart : Turning → Bool → EventKind → Turning
ended_apart t over kind =
    let c = come_back_behind t over kind in
    record { core = record c { single = record c.single { connection = (flushed_apart c).conn } }; acts = t.acts }

-- so a turn ends, behind the submissions that were moved: timers and sources get their numbers, a manager does something of its own, and
-- bytes and waits are shown
abbrev pub ended_as : Bool → Turning → Bool → EventKind → Turning
ended_as managed t over kind = if managed then ended_apart (numbered t) over kind else numbered (flushed_on t)

-- what a manager does of its own then
abbrev pub comeback_as : Bool → Turning → Bool → EventKind → Comeback
comeback_as managed t over kind = if managed then own_part (numbered t) over kind else comeback.Stays

-- the acts of its connection behind that: bytes and waits
abbrev pub last_as : Bool → Turning → Bool → EventKind → List LinkAct
last_as managed t over kind = if managed then (flushed_apart (come_back_behind (numbered t) over kind)).acts else []

-- a turn
unfoldable pub next_turn : Core → EventKind → Turning
next_turn c kind = ended_as (is_some c.manager) (passed_by (counted c) kind) (has_ended c.single.connection.life) kind

-- what a manager does of its own in it
unfoldable pub comeback_by : Core → EventKind → Comeback
comeback_by c kind = comeback_as (is_some c.manager) (passed_by (counted c) kind) (has_ended c.single.connection.life) kind

-- and the acts of its connection behind that
unfoldable pub last_acts : Core → EventKind → List LinkAct
last_acts c kind = last_as (is_some c.manager) (passed_by (counted c) kind) (has_ended c.single.connection.life) kind

-- what an act of the connection of link l shows, where so many timers, and so many sources, were asked for before
abbrev pub shown : ℕ → ℕ → ℕ → LinkAct → Action
shown l t c (act.Created e) = action.Created e
shown l t c (act.Round n) = action.Round (owner.Try n 0) (Some l)
shown l t c (act.Took n count) = action.Took (owner.Try n 0) l count
shown l t c (act.Timer n ms) = action.Timer t ms (purpose.Response (owner.Try n 0))
shown l t c (act.RenewalTimer k ms) = action.Timer t ms (purpose.Renewal l k)
shown l t c (act.RepeatTimer ms) = action.Timer t ms (purpose.Resubscription l)
shown l t c act.NeedCreds = action.NeedCreds c l
shown l t c act.NeedRenewals = action.NeedCreds c l
shown l t c (act.SetUp message need len) = action.Start l message owner.Setup need len
shown l t c (act.Renewed message need len) = action.Start l message owner.Auth need len
shown l t c (act.Repeated message need len) = action.Start l message owner.Resub need len
shown l t c (act.Push info) = action.Push l info
shown l t c (act.Message m) = action.Message m
shown l t c (act.Monitor v) = action.Monitor v
shown l t c (act.Watch message need len) = action.Start l message owner.Monitor need len
shown l t c act.Close = action.Close l
shown l t c (act.Write bytes) = action.Write l bytes
shown l t c (act.Wait n kind) = action.Wait (owner.Try n 0) kind
shown l t c (act.Start message n need len) = action.Start l message (owner.Try n 0) need len
shown l t c (act.Outcome n o) = action.Outcome n o

abbrev pub shown_each : ℕ → ℕ → ℕ → List LinkAct → List Action
shown_each l t c [] = []
shown_each l t c (a ∷ more) = shown l t c a ∷ shown_each l (t + length (timer_of l a)) (c + length (source_of l a)) more

-- what acts show that begin no timer and no source, behind a turn that led to this
abbrev pub shown_behind : Core → List LinkAct → List Action
shown_behind c acts = shown_each c.single.link (length c.timers) (length c.sources) acts

-- what a manager shows of a turn behind the acts of its event, where it led to this
abbrev pub return_shown : Core → ℕ → Comeback → List LinkAct → List Action
return_shown c word what acts = comeback_shown_in c.manager word what ++ shown_behind c acts

-- what one turn shows behind its first action
abbrev pub effects_of : Core → Event → List Action
effects_of c e =
    let acts = shown_each c.single.link (length c.timers) (length c.sources) (next_turn c e.kind).acts in
    if is_some c.manager then acts ++ return_shown (next_turn c e.kind).core e.word (comeback_by c e.kind) (last_acts c e.kind) else acts

-- the actions of one turn: which turn it is, with its event, and its effects
abbrev pub actions_of : Core → Event → List Action
actions_of c e = action.Turn c.turns (cause.Event e) ∷ effects_of c e

-- a cancel names one of so many submissions
abbrev pub IsKnown : ℕ → EventKind → Type 0
IsKnown count (event.Cancel n) = n < count
IsKnown count _ = Unit {0}

-- its connection has no more requests than there are submissions
abbrev pub IsFewer : Core → Type 0
IsFewer c = length c.single.connection.requests ≤ length c.table

-- more bytes were taken than are offered
abbrev pub exceeds_offer : Life → ℕ → Bool
exceeds_offer Resting count = nat_lt 0 count
exceeds_offer Dialing count = nat_lt 0 count
exceeds_offer (Wanting link) count = nat_lt link.outbox.offered count
exceeds_offer (SettingUp link greeting) count = nat_lt link.outbox.offered count
exceeds_offer (Ready link) count = nat_lt link.outbox.offered count
exceeds_offer (Ended e) count = false

-- no link of that number was asked for
abbrev pub is_no_link : Core → ℕ → Bool
is_no_link c l = nat_le c.links l

-- the event hands in a submission that the session has no form for, or names a link, a timer, a source of credentials or a submission that was
-- never given out, or more written bytes than were offered
unfoldable pub is_bad : Core → EventKind → Bool
is_bad c (event.Submit what) = has_no_form c.kind what
is_bad c (event.Cancel n) = nat_le (length c.table) n
is_bad c (event.Connected l) = is_no_link c l
is_bad c (event.Refused l f) = is_no_link c l
is_bad c (event.Fired t) = nat_le (length c.timers) t
is_bad c (event.Creds n auth) = nat_le (length c.sources) n
is_bad c (event.CredsError n text) = nat_le (length c.sources) n
is_bad c (event.CredsEnd n) = nat_le (length c.sources) n
is_bad c (event.Timeout ms) = false
is_bad c (event.Wrote l count) = is_no_link c l || ((l == c.single.link) && exceeds_offer c.single.connection.life count)
is_bad c (event.Bytes l piece) = is_no_link c l
is_bad c (event.Ended l) = is_no_link c l
is_bad c (event.ReadFault l kind) = is_no_link c l
is_bad c (event.WriteFault l kind) = is_no_link c l
is_bad c event.DropStream = false
is_bad c event.Shutdown = false

-- the number 2^32 - 1 was given to a link, to a message, to new credentials, a submission, a timer or a source of credentials
unfoldable pub has_run_out : Core → Bool
has_run_out c = nat_le (2 ^ 32) c.links || (is_used_up c.single.connection || (nat_le (2 ^ 32) (length c.table) || (nat_le (2 ^ 32) (length c.timers) || nat_le (2 ^ 32) (length c.sources))))

-- the step of an event is spent: the history holds 2^32 - 1 events, or the turn would give out a number too many
unfoldable pub spends : Core → Event → Bool
spends c e = nat_le (2 ^ 32) c.turns || has_run_out (next_turn c e.kind).core
