-- A connection as its user sees it.
use Rattle.std.specs.Prelude.{◌≡◌, ⊤, ℕ, ◌-◌, ◌^◌, Bool, true, false, ◌&&◌, not, List, [], ◌∷◌, Option, Some, None, slice_get, if◌then◌else◌}
use Rattle.redis_error.specs.declared.config_name.ConfigName.{ConfigName}
use Rattle.redis_error.specs.declared.config_name.ConfigName.TheVariants as name
use Rattle.connection_info.specs.declared.address.RedisConnectionInfo.{RedisConnectionInfo}
use Rattle.connection_info.specs.declared.config.AsyncConnectionConfig.{AsyncConnectionConfig}
use Rattle.connection_info.specs.Protocol.{is_resp3}
use Rattle.connection_info.specs.declared.open_error.OpenError.{OpenError}
use Rattle.connection_info.specs.declared.open_error.OpenError.TheVariants as error
use Rattle.connection_info.specs.Config.{default_config}
use Rattle.driver_model.specs.Config.{room_fault}
use Rattle.driver_model.specs.declared.hearing.Hearing.{Hearing}
use Rattle.driver_model.specs.declared.hearing.Hearing.TheVariants as hearing
use Rattle.driver_model.specs.declared.outcome.Outcome.{Outcome}
use Rattle.mux_conn.specs.declared.connection.MultiplexedConnection.{MultiplexedConnection as Core}
use Rattle.mux_conn.specs.Renewals.{no_renewal}
use Rattle.mux_conn.specs.Turn.{dialing}
use Rattle.mux_client.specs.declared.connection.MultiplexedConnection.{MultiplexedConnection}
use Rattle.mux_client.specs.declared.act.ConnectionAct.{ConnectionAct}
use Rattle.mux_client.specs.declared.act.ConnectionAct.TheVariants as act
use Rattle.mux_client.specs.declared.act.ConnectionTimer.TheVariants as timer

-- the outcome of the request of that number, if it has one
abbrev pub if_placed : Option (Option Outcome) → Option Outcome
if_placed None = None
if_placed (Some o) = o

abbrev pub outcome_of : MultiplexedConnection → ℕ → Option Outcome
outcome_of c p = if_placed (slice_get c.outcomes p)

-- the timer of a connect that is bounded
abbrev pub connect_timer : Option ℕ → List ConnectionAct
connect_timer None = []
connect_timer (Some ms) = act.Timer timer.Connect ms ∷ []

-- what is heard where pushes are sent on, or aren't
abbrev pub heard_by : Bool → Hearing
heard_by true = hearing.Pushes
heard_by false = hearing.Nothing

-- a link on which this is heard, of publish/subscribe or of monitor mode: it has no timers and no permits, and its queue holds
-- whatever comes
abbrev pub attached : RedisConnectionInfo → ℕ → Hearing → MultiplexedConnection
attached info link hears_what = record {
  link = link;
  core = dialing (2 ^ 32 - 1) default_config.write_backpressure_boundary None hears_what info (no_renewal false None);
  timeout = None;
  outcomes = [];
  early = [];
}

-- a connection by this configuration, whose connect isn't answered, as its link has it
abbrev pub core_of : RedisConnectionInfo → AsyncConnectionConfig → Core
core_of info c = dialing c.pipeline_buffer_size c.write_backpressure_boundary c.concurrency_limit (heard_by c.push_sender) info (no_renewal c.credentials_provider c.response_timeout)

-- a connection whose connect isn't answered, without requests
abbrev pub opened : RedisConnectionInfo → ℕ → AsyncConnectionConfig → MultiplexedConnection
opened info link c = record {
  link = link;
  core = core_of info c;
  timeout = c.response_timeout;
  outcomes = [];
  early = connect_timer c.connection_timeout;
}

-- what is refused first of a connection's configuration, where this is said to its server, if anything is: a sender of pushes on
-- RESP2; a limit of no permits; and a queue that holds nothing
abbrev pub fault_of : RedisConnectionInfo → AsyncConnectionConfig → Option ConfigName
fault_of info c =
    if c.push_sender && not (is_resp3 info.protocol) then Some name.Push
    else room_fault c.concurrency_limit c.pipeline_buffer_size

-- either memory was wanted, or this is refused first
abbrev pub RefusesConnection : RedisConnectionInfo → AsyncConnectionConfig → OpenError → Type 0
RefusesConnection info c (error.Config fault) = fault_of info c ≡ Some fault
RefusesConnection info c error.Client = ⊥
RefusesConnection info c error.NoMemory = ⊤
