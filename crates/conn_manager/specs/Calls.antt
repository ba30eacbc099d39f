-- What each call makes of a manager.
use Rattle.std.specs.Prelude.{◌≡◌, ◌≢◌, ◌⊎◌, ⊤, ℕ, ◌+◌, ◌^◌, ◌≤◌, Bool, true, false, List, [], ◌∷◌, ◌++◌, length, Option, None, Some, slice_get, slice_set, if◌then◌else◌}
use Rattle.resp_write.specs.Pack.{pack}
use Rattle.resp_write.specs.Subscription.{action_word}
use Rattle.resp_write.specs.declared.subscription.SubscriptionAction.{SubscriptionAction}
use Rattle.redis_error.specs.declared.redis_error.RedisError.{RedisError}
use Rattle.redis_error.specs.declared.redis_error.RedisError.TheVariants as fault
use Rattle.connection_info.specs.declared.address.RedisConnectionInfo.{RedisConnectionInfo}
use Rattle.connection_info.specs.Protocol.{is_resp3}
use Rattle.connection_info.specs.declared.open_error.OpenError.{OpenError}
use Rattle.connection_info.specs.declared.open_error.OpenError.TheVariants as open_error
use Rattle.connection_info.specs.declared.protocol.ProtocolVersion.{ProtocolVersion}
use Rattle.manager_config.specs.declared.config.ConnectionManagerConfig.{ConnectionManagerConfig}
use Rattle.manager_config.specs.Refused.{RefusesManager}
use Rattle.driver_model.specs.declared.outcome.Outcome.{Outcome}
use Rattle.driver_model.specs.declared.outcome.Outcome.TheVariants as outcome
use Rattle.driver_model.specs.declared.outcome.Shape.{Shape}
use Rattle.driver_model.specs.declared.outcome.Shape.TheVariants.{Confirmation}
use Rattle.mux_conn.specs.declared.errors.ConnectionError.TheVariants as failure
use Rattle.mux_conn.specs.Effects as effects
use Rattle.mux_client.specs.Connection.{if_placed}
use Rattle.mux_client.specs.Failing.{LeavesBehind}
use Rattle.mux_client.specs.declared.errors.SendError.{SendError}
use Rattle.mux_client.specs.declared.errors.SendError.TheVariants as error
use Rattle.sub_tracker.specs.Held.{holding, held_after}
use Rattle.manager_generations.specs.declared.act.ManagerAct.TheVariants as act
use Rattle.manager_generations.specs.declared.settings.Settings.{Settings}
use Rattle.conn_manager.specs.declared.manager.ConnectionManager.{ConnectionManager}
use Rattle.manager_generations.specs.declared.phase.Phase.{Phase}
use Rattle.manager_generations.specs.declared.phase.Phase.TheVariants.{Idle, Opening, Resting, Resubscribing, Ready, Lost, Failed}
use Rattle.conn_manager.specs.declared.request.Call.{Call}
use Rattle.conn_manager.specs.declared.request.HeldRequest.{HeldRequest}
use Rattle.conn_manager.specs.declared.request.Stage.{Stage}
use Rattle.conn_manager.specs.declared.request.Stage.TheVariants as stage
use Rattle.manager_generations.specs.Generations.{unbegun, begun, runs_out}
use Rattle.conn_manager.specs.Manager.{with_generations, said, is_current, is_open_at, answered, connection_of}
use Rattle.conn_manager.specs.Turn.{reconnected, succeeded, handed}

-- a manager of which nothing is known but how it behaves, and what is said to its server
abbrev pub blank : RedisConnectionInfo → Settings → Bool → ConnectionManager
blank info settings created =
    record {
      info = info;
      generations = unbegun settings (is_resp3 info.protocol) created;
      conn = connection_of settings.config.connection info;
      stages = [];
      outcomes = [];
      calls = [];
      held = [];
      fresh = [];
      recent = [];
      wait = None;
      tracker = holding (held_after []);
      failure = None;
    }

-- a generation begins
abbrev pub begins : ConnectionManager → ConnectionManager
begins m = reconnected (with_generations m (begun m.generations))

-- a manager whose first generation begins at once
abbrev pub eager : RedisConnectionInfo → Settings → ConnectionManager
eager info settings = begins (blank info settings false)

-- one that is made at once, and whose first generation begins with its first request
abbrev pub lazy : RedisConnectionInfo → Settings → ConnectionManager
lazy info settings = said (blank info settings true) (act.Created None)

-- the number of the next request
abbrev pub next_number : ConnectionManager → ℕ
next_number m = length m.stages

-- the outcome of the request of that number, if it has one
abbrev pub outcome_of : ConnectionManager → ℕ → Option Outcome
outcome_of m p = if_placed (slice_get m.outcomes p)

-- the outcomes of all requests but this one
abbrev pub outcomes_but : ConnectionManager → ℕ → List (Option Outcome)
outcomes_but m p = slice_set m.outcomes p None

-- of all requests but this one the outcomes are the same
abbrev pub SparesOthers : ℕ → ConnectionManager → ConnectionManager → Type 0
SparesOthers q old new = (p : ℕ) → p ≢ q → outcome_of new p ≡ outcome_of old p

-- one more request, held until its generation is ready
abbrev pub entered : ConnectionManager → Option Call → ConnectionManager
entered m call = record m {
  stages = m.stages ++ stage.Held ∷ [];
  outcomes = m.outcomes ++ None ∷ [];
  calls = m.calls ++ call ∷ [];
}

-- it waits
abbrev pub waiting : ConnectionManager → HeldRequest → ConnectionManager
waiting m q = record m { held = m.held ++ q ∷ []; fresh = m.fresh ++ q.number ∷ [] }

-- it is answered at once with this error, which may be a cause for the next generation
abbrev pub answered_at_once : ConnectionManager → HeldRequest → RedisError → ConnectionManager
answered_at_once m q e = succeeded (answered m q.number (outcome.Fault e))

-- what becomes of it: it waits, is handed to a link that is ready, or is answered at once
abbrev pub placed_at : ConnectionManager → HeldRequest → Phase → ConnectionManager
placed_at m q Idle = waiting (begins m) q
placed_at m q Opening = waiting m q
placed_at m q Resting = waiting m q
placed_at m q Resubscribing = waiting m q
placed_at m q Ready = handed m q
placed_at m q Lost = answered_at_once m q fault.Closed
placed_at m q (Failed e) = answered_at_once m q e

-- the next request, of these bytes
abbrev pub request_of : ConnectionManager → List ℕ → Shape → Bool → HeldRequest
request_of m packed shape awaited = record { number = next_number m; packed = packed; shape = shape; awaited = awaited }

-- one more request: of these bytes, which takes items by this shape, and whose reply is awaited or not; it may be a subscription call
abbrev pub sent : ConnectionManager → List ℕ → Shape → Bool → Option Call → ConnectionManager
sent m packed shape awaited call = placed_at (entered m call) (request_of m packed shape awaited) m.generations.phase

-- one more request: a subscription call that does this with these names, in one command
abbrev pub called : ConnectionManager → SubscriptionAction → List (List ℕ) → ConnectionManager
called m what names = sent m (pack (action_word what ∷ names)) Confirmation true (Some (record { action = what; names = names }))

-- why a message of these bytes wasn't sent, after which the manager would be that one: it is empty; the number 2^32 - 1 would be
-- given to a request, a link or a generation; a call failed before with this error; or memory was wanted
abbrev pub RefusesSend : ConnectionManager → ConnectionManager → List ℕ → SendError → Type 0
RefusesSend m after packed (error.Refused e) = (e ≡ fault.EmptyCommand) × (packed ≡ [])
RefusesSend m after packed error.Spent =
    (m.failure ≡ Some failure.Spent) ⊎ (2 ^ 32 ≤ next_number m + 1) ⊎ (2 ^ 32 ≤ length m.conn.requests + 1) ⊎ (runs_out after.generations ≡ true)
RefusesSend m after packed error.NoMemory = ⊤

-- what stands behind a send of this manager that answered an error
abbrev pub Leaves : ConnectionManager → ConnectionManager → SendError → Type 0
Leaves old new = LeavesBehind (λ (m : ConnectionManager). m.failure) next_number outcome_of old new

-- why a subscription call wasn't sent: a call failed before with this error; else exactly where its connections don't speak RESP3,
-- that this is required; else a number would run out, or memory was wanted
abbrev pub RefusesCall : ConnectionManager → SubscriptionAction → List (List ℕ) → SendError → Type 0
RefusesCall m what names (error.Refused e) = (e ≡ fault.Resp3Required) × (is_resp3 m.info.protocol ≡ false)
RefusesCall m what names error.Spent =
    (m.failure ≡ Some failure.Spent) ⊎ ((is_resp3 m.info.protocol ≡ true) × RefusesSend m (called m what names) (pack (action_word what ∷ names)) error.Spent)
RefusesCall m what names error.NoMemory = (m.failure ≡ Some failure.NoMemory) ⊎ (is_resp3 m.info.protocol ≡ true)

-- the caller of a request has gone that was handed to the link of this number
abbrev pub left_on : ConnectionManager → ℕ → ℕ → ConnectionManager
left_on m link number = if is_current m.generations link then record m { conn = effects.left m.conn number } else m

abbrev pub left_at : ConnectionManager → Option Stage → ConnectionManager
left_at m None = m
left_at m (Some stage.Held) = m
left_at m (Some (stage.Sent link number)) = left_on m link number
left_at m (Some stage.Closed) = m

-- the caller of request p has gone
abbrev pub cancelled : ConnectionManager → ℕ → ConnectionManager
cancelled m p = if is_open_at m.stages p then left_at (record m { stages = slice_set m.stages p stage.Closed }) (slice_get m.stages p) else m

-- either memory was wanted, or this is refused first of a manager whose connections speak this protocol
abbrev pub RefusesMaking : ProtocolVersion → ConnectionManagerConfig → OpenError → Type 0
RefusesMaking protocol c (open_error.Config what) = RefusesManager protocol c (open_error.Config what)
RefusesMaking protocol c open_error.Client = RefusesManager protocol c open_error.Client
RefusesMaking protocol c open_error.NoMemory = ⊤
