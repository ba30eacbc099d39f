-- The state and the trace that a history leads to: a fold of one turn.
use Rattle.std.specs.Prelude.{◌≡◌, ℕ, ◌+◌, Bool, true, false, List, [], ◌∷◌, ◌++◌, Option, Some, None, slice_get, slice_set}
use Rattle.connection_info.specs.declared.address.ConnectionInfo.{ConnectionInfo}
use Rattle.driver_model.specs.declared.action.Action.{Action}
use Rattle.driver_model.specs.declared.action.Action.TheVariants as action
use Rattle.driver_model.specs.declared.action.Cause.TheVariants as cause
use Rattle.driver_model.specs.declared.action.Purpose.{Purpose}
use Rattle.driver_model.specs.declared.action.Purpose.TheVariants as purpose
use Rattle.driver_model.specs.declared.config.Config.{Config}
use Rattle.driver_model.specs.declared.event.Event.{Event}
use Rattle.driver_model.specs.declared.event.EventKind.{EventKind}
use Rattle.driver_model.specs.declared.event.EventKind.TheVariants as event
use Rattle.driver_model.specs.declared.outcome.Outcome.{Outcome}
use Rattle.driver_model.specs.Config.{kind_of, address, connect_timeout, response_timeout, buffer_size, boundary, permits, hearing_of, wants_credentials, told_info, manager_of, is_lazy, first_fault}
use Rattle.manager_config.specs.declared.config.ConnectionManagerConfig.{ConnectionManagerConfig}
use Rattle.mux_conn.specs.declared.again.Again.TheVariants as again
use Rattle.mux_conn.specs.declared.connection.MultiplexedConnection.{MultiplexedConnection}
use Rattle.mux_conn.specs.Effects.{afresh, dialled}
use Rattle.mux_conn.specs.Renewals.{no_renewal}
use Rattle.mux_conn.specs.Turn.{dialing}
use Rattle.single_session.specs.declared.core_state.Core.{Core}
use Rattle.single_session.specs.Generations.{generations_at, is_last}
use Rattle.single_session.specs.Turn.{next_turn, actions_of, is_bad, spends}

-- the number of the first link
abbrev pub first_link : ℕ
first_link = 0

-- what the timer of the opening is asked for, where the connect is bounded
abbrev pub connect_timers : Option ℕ → List Purpose
connect_timers None = []
connect_timers (Some ms) = purpose.Connect first_link ∷ []

-- after turn 0 of what doesn't come back: the first link was asked for, and its timer
abbrev pub single_core : Config → Core
single_core config = record {
  kind = kind_of config;
  manager = None;
  turns = 1;
  links = first_link + 1;
  shut = false;
  timeout = response_timeout config;
  timers = connect_timers (connect_timeout config);
  sources = [];
  table = [];
  single = record { link = first_link; connection = dialing (buffer_size config) (boundary config) (permits config) (hearing_of config) (told_info config) (no_renewal (wants_credentials config) (response_timeout config)) };
}

-- on this connection a first generation begins, of a manager that behaves so: the rounds of its requests are shown
abbrev pub first_dialled : ConnectionManagerConfig → MultiplexedConnection → MultiplexedConnection
first_dialled settings c = dialled (record c { rounds = true }) (is_last settings 0) again.Nothing

-- no link is asked for before a request, and its creation is told; the rounds of its requests are shown
abbrev pub unused : MultiplexedConnection → MultiplexedConnection
unused c = record (afresh c) { rounds = true; told = true }

-- it comes back so, if it does: the first generation begins as it opens, or with the first request
abbrev pub as_managed : Option ConnectionManagerConfig → Option ConnectionInfo → Bool → Core → Core
as_managed None at lazy c = c
as_managed (Some settings) None lazy c = c
as_managed (Some settings) (Some info) false c = record c {
  manager = Some (generations_at settings info 1);
  single = record c.single { connection = first_dialled settings c.single.connection };
}
as_managed (Some settings) (Some info) true c = record c {
  manager = Some (generations_at settings info 0);
  links = first_link;
  timers = [];
  single = record c.single { connection = unused c.single.connection };
}

-- after turn 0
abbrev pub opening_core : Config → ℕ → Core
opening_core config word = as_managed (manager_of config) (address config) (is_lazy config) (single_core config)

-- the timer of the opening is asked for
abbrev pub timer_asked : Option ℕ → List Action
timer_asked None = []
timer_asked (Some ms) = action.Timer 0 ms (purpose.Connect first_link) ∷ []

-- the connect to an address, and its timer
abbrev pub connect_asked : Option ConnectionInfo → Option ℕ → List Action
connect_asked None timeout = []
connect_asked (Some info) timeout = action.Connect first_link info.host info.port ∷ timer_asked timeout

-- what comes back begins with a generation, or it is told at once that it is created
abbrev pub begun_as : Option ConnectionManagerConfig → Bool → List Action → List Action
begun_as None lazy asked = asked
begun_as (Some settings) false asked = action.Generation 1 ∷ asked
begun_as (Some settings) true asked = action.Created None ∷ []

-- what turn 0 shows, of a configuration whose URL is an address
abbrev pub opening_actions : Config → ℕ → List Action
opening_actions config word = action.Turn 0 (cause.Opening config word) ∷ begun_as (manager_of config) (is_lazy config) (connect_asked (address config) (connect_timeout config))

abbrev pub run_on : Core → List Event → Core
run_on c [] = c
run_on c (e ∷ es) = run_on (next_turn c e.kind).core es

-- nothing of the configuration is refused
abbrev pub IsSound : Config → Type 0
IsSound config = first_fault config ≡ None

-- where a history leads
unfoldable pub state_after : Config → ℕ → List Event → Core
state_after config word events = run_on (opening_core config word) events

abbrev pub turns_on : Core → List Event → List Action
turns_on c [] = []
turns_on c (e ∷ es) = actions_of c e ++ turns_on (next_turn c e.kind).core es

-- the trace of a history: its turns one after another, each with its actions
unfoldable pub trace_of : Config → ℕ → List Event → List Action
trace_of config word events = opening_actions config word ++ turns_on (opening_core config word) events

-- a place for the outcome of one more submission
abbrev pub with_room : List (Option Outcome) → EventKind → List (Option Outcome)
with_room os (event.Submit what) = os ++ None ∷ []
with_room os (event.Cancel n) = os
with_room os (event.Connected l) = os
with_room os (event.Refused l f) = os
with_room os (event.Fired t) = os
with_room os (event.Creds c auth) = os
with_room os (event.CredsError c text) = os
with_room os (event.CredsEnd c) = os
with_room os (event.Timeout ms) = os
with_room os (event.Wrote l count) = os
with_room os (event.Bytes l piece) = os
with_room os (event.Ended l) = os
with_room os (event.ReadFault l kind) = os
with_room os (event.WriteFault l kind) = os
with_room os event.DropStream = os
with_room os event.Shutdown = os

-- what an action tells of outcomes
abbrev pub told : List (Option Outcome) → Action → List (Option Outcome)
told os (action.Turn k (cause.Opening config word)) = os
told os (action.Turn k (cause.Event e)) = with_room os e.kind
told os (action.Outcome n o) = slice_set os n (Some o)
told os (action.Connect l host port) = os
told os (action.Timer t ms what) = os
told os (action.Took who l count) = os
told os (action.Push l info) = os
told os (action.Message m) = os
told os (action.Monitor v) = os
told os (action.NeedCreds c l) = os
told os (action.Generation g) = os
told os (action.Round who l) = os
told os (action.Close l) = os
told os (action.Write l bytes) = os
told os (action.Wait who kind) = os
told os (action.Start l message who need len) = os
told os (action.Created e) = os

abbrev pub told_each : List (Option Outcome) → List Action → List (Option Outcome)
told_each os [] = os
told_each os (a ∷ more) = told_each (told os a) more

-- the outcome of each submission by a trace, if it has one: what its outcome actions say
unfoldable pub outcomes_in : List Action → List (Option Outcome)
outcomes_in trace = told_each [] trace

abbrev pub if_placed : Option (Option Outcome) → Option Outcome
if_placed None = None
if_placed (Some o) = o

-- the outcome of one submission
abbrev pub outcome_at : List (Option Outcome) → ℕ → Option Outcome
outcome_at os n = if_placed (slice_get os n)

abbrev pub AreGoodOn : Core → List Event → Type 0
AreGoodOn c [] = Unit {0}
AreGoodOn c (e ∷ es) = (is_bad c e.kind ≡ false) × AreGoodOn (next_turn c e.kind).core es

-- no event is bad
unfoldable pub AreGood : Config → ℕ → List Event → Type 0
AreGood config word events = AreGoodOn (opening_core config word) events

-- the event is bad after that history
abbrev pub is_bad_after : Config → ℕ → List Event → Event → Bool
is_bad_after config word events e = is_bad (state_after config word events) e.kind

abbrev pub AreUnspentOn : Core → List Event → Type 0
AreUnspentOn c [] = Unit {0}
AreUnspentOn c (e ∷ es) = (spends c e ≡ false) × AreUnspentOn (next_turn c e.kind).core es

-- no event's step is spent
unfoldable pub AreUnspent : Config → ℕ → List Event → Type 0
AreUnspent config word events = AreUnspentOn (opening_core config word) events

-- the event's step is spent after that history
abbrev pub is_spent_after : Config → ℕ → List Event → Event → Bool
is_spent_after config word events e = spends (state_after config word events) e
