-- A manager in the middle of a turn: its requests, and what they come to.
use Rattle.std.specs.Prelude.{ℕ, ◌+◌, ◌-◌, ◌==◌, Bool, true, false, List, [], ◌∷◌, Option, None, Some, slice_get, slice_set, if◌then◌else◌}
use Rattle.redis_error.specs.declared.redis_error.RedisError.{RedisError}
use Rattle.redis_error.specs.declared.redis_error.RedisError.TheVariants as error
use Rattle.driver_model.specs.declared.outcome.Outcome.{Outcome}
use Rattle.driver_model.specs.declared.outcome.Outcome.TheVariants as outcome
use Rattle.connection_info.specs.declared.address.RedisConnectionInfo.{RedisConnectionInfo}
use Rattle.connection_info.specs.declared.config.AsyncConnectionConfig.{AsyncConnectionConfig}
use Rattle.mux_conn.specs.declared.connection.MultiplexedConnection as core
use Rattle.mux_conn.specs.declared.request.Pending.{Pending}
use Rattle.mux_conn.specs.Renewals.{no_renewal}
use Rattle.mux_conn.specs.Turn.{dialing}
use Rattle.mux_client.specs.Connection.{heard_by}
use Rattle.sub_tracker.specs.Held.{TrackerState, holding, held_with}
use Rattle.manager_generations.specs.declared.act.ManagerAct.{ManagerAct}
use Rattle.manager_generations.specs.declared.act.ManagerAct.TheVariants as act
use Rattle.manager_generations.specs.declared.generations.Generations.{Generations}
use Rattle.conn_manager.specs.declared.manager.ConnectionManager.{ConnectionManager}
use Rattle.manager_generations.specs.declared.phase.Phase.{Phase}
use Rattle.manager_generations.specs.declared.phase.Phase.TheVariants.{Idle, Opening, Resting, Resubscribing, Ready, Lost, Failed}
use Rattle.conn_manager.specs.declared.request.Call.{Call}
use Rattle.conn_manager.specs.declared.request.HeldRequest.{HeldRequest}
use Rattle.conn_manager.specs.declared.request.Stage.{Stage}
use Rattle.conn_manager.specs.declared.request.Stage.TheVariants as stage
use Rattle.manager_generations.specs.Generations.{shown, answered_with}

abbrev pub pending : ℕ → Pending
pending p = record { number = p }

-- its generations are these now
abbrev pub with_generations : ConnectionManager → Generations → ConnectionManager
with_generations m g = record m { generations = g }

-- one more act
abbrev pub said : ConnectionManager → ManagerAct → ConnectionManager
said m a = with_generations m (shown m.generations a)

-- the number of the link that was asked for last
abbrev pub link_of : Generations → ℕ
link_of g = g.links - 1

-- the link of this number was asked for last: those before it have ended
abbrev pub is_current : Generations → ℕ → Bool
is_current g link = link + 1 == g.links

-- the connection over a link whose connect isn't answered
abbrev pub connection_of : AsyncConnectionConfig → RedisConnectionInfo → core.MultiplexedConnection
connection_of c info = dialing c.pipeline_buffer_size c.write_backpressure_boundary c.concurrency_limit (heard_by c.push_sender) info (no_renewal c.credentials_provider c.response_timeout)

abbrev pub new_conn : ConnectionManager → core.MultiplexedConnection
new_conn m = connection_of m.generations.settings.config.connection m.info

-- neither answered nor left by its caller
abbrev pub is_open : Stage → Bool
is_open stage.Held = true
is_open (stage.Sent link number) = true
is_open stage.Closed = false

-- it waits until its generation is ready
abbrev pub is_held : Stage → Bool
is_held stage.Held = true
is_held (stage.Sent link number) = false
is_held stage.Closed = false

abbrev pub if_there : (Stage → Bool) → Option Stage → Bool
if_there test None = false
if_there test (Some s) = test s

abbrev pub is_open_at : List Stage → ℕ → Bool
is_open_at stages p = if_there is_open (slice_get stages p)

abbrev pub is_held_at : List Stage → ℕ → Bool
is_held_at stages p = if_there is_held (slice_get stages p)

-- the tracker behind a subscription call that the server confirmed
abbrev pub tracked_call : TrackerState → Option (Option Call) → TrackerState
tracked_call t None = t
tracked_call t (Some None) = t
tracked_call t (Some (Some call)) = holding (held_with t.held call.action call.names)

-- and behind a request that came to this outcome, where it was this call, or none
abbrev pub tracked : TrackerState → Option (Option Call) → Outcome → TrackerState
tracked t call outcome.Done = tracked_call t call
tracked t call (outcome.One value) = t
tracked t call (outcome.Many values) = t
tracked t call (outcome.Fault e) = t

-- an error that a request is answered with may be a cause for the next generation
abbrev pub weighed : ConnectionManager → Outcome → ConnectionManager
weighed m (outcome.Fault e) = with_generations m (answered_with m.generations e)
weighed m (outcome.One value) = m
weighed m (outcome.Many values) = m
weighed m outcome.Done = m

-- a place for an outcome, in which none stands
abbrev pub is_missing : Option (Option Outcome) → Bool
is_missing None = false
is_missing (Some None) = true
is_missing (Some (Some o)) = false

-- the outcome of a request stands in its place, where none stood
abbrev pub filled : List (Option Outcome) → ℕ → Outcome → List (Option Outcome)
filled os p o = if is_missing (slice_get os p) then slice_set os p (Some o) else os

-- and its request is one of those that got an outcome, the last one first
abbrev pub noted_before : List (Option Outcome) → ℕ → List ℕ → List ℕ
noted_before os p ps = if is_missing (slice_get os p) then p ∷ ps else ps

abbrev pub kept : ConnectionManager → ℕ → Outcome → ConnectionManager
kept m p o = record m { outcomes = filled m.outcomes p o; recent = noted_before m.outcomes p m.recent }

-- these outcomes, of which those of these requests are taken back
abbrev pub without : List (Option Outcome) → List ℕ → List (Option Outcome)
without os [] = os
without os (p ∷ ps) = without (slice_set os p None) ps

-- the outcomes that stood before this turn
abbrev pub standing : ConnectionManager → List (Option Outcome)
standing m = without m.outcomes m.recent

-- a request is closed, and its outcome noted in the tracker
abbrev pub closed_by : ConnectionManager → ℕ → Outcome → ConnectionManager
closed_by m p o = record m { stages = slice_set m.stages p stage.Closed; tracker = tracked m.tracker (slice_get m.calls p) o }

-- an open request is answered, and any other stays as it is
abbrev pub answered : ConnectionManager → ℕ → Outcome → ConnectionManager
answered m p o = if is_open_at m.stages p then said (kept (weighed (closed_by m p o) o) p o) (act.Answered (pending p)) else m

-- each of these requests is answered with this error
abbrev pub failed_each : ConnectionManager → RedisError → List HeldRequest → ConnectionManager
failed_each m e [] = m
failed_each m e (q ∷ qs) = failed_each (answered m q.number (outcome.Fault e)) e qs

-- nobody waits any more for the generation to be ready
abbrev pub nobody_held : ConnectionManager → ConnectionManager
nobody_held m = record m { held = []; fresh = [] }

-- those that wait for it are answered with this error
abbrev pub held_failed : ConnectionManager → RedisError → ConnectionManager
held_failed m e = failed_each (nobody_held m) e m.held

-- so they are with the error of a generation that has failed
abbrev pub failure_answered_at : ConnectionManager → Phase → ConnectionManager
failure_answered_at m (Failed e) = held_failed m e
failure_answered_at m Idle = m
failure_answered_at m Opening = m
failure_answered_at m Resting = m
failure_answered_at m Resubscribing = m
failure_answered_at m Ready = m
failure_answered_at m Lost = m

abbrev pub failure_answered : ConnectionManager → ConnectionManager
failure_answered m = failure_answered_at m m.generations.phase

-- and with the closed connection, where the link ended before they were handed to it
abbrev pub loss_answered_at : ConnectionManager → Phase → ConnectionManager
loss_answered_at m Lost = held_failed m error.Closed
loss_answered_at m Idle = m
loss_answered_at m Opening = m
loss_answered_at m Resting = m
loss_answered_at m Resubscribing = m
loss_answered_at m Ready = m
loss_answered_at m (Failed e) = m

abbrev pub loss_answered : ConnectionManager → ConnectionManager
loss_answered m = loss_answered_at m m.generations.phase
