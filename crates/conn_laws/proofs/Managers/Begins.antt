-- What a configuration says of coming back, and a connection before its first link is asked for.
use Rattle.std.proofs.Common.{◌≡◌, Bool, true, Some, refl}
use Rattle.manager_config.specs.declared.config.ConnectionManagerConfig.{ConnectionManagerConfig}
use Rattle.driver_model.specs.declared.config.Config.{Config}
use Rattle.driver_model.specs.Config.{manager_of, is_lazy as waits_for_use}
use Rattle.mux_conn.specs.Effects.{afresh}
use Rattle.mux_conn.specs.declared.connection.MultiplexedConnection.{MultiplexedConnection}
use Rattle.legal_trace.specs.Managers.{is_lazy, settings_in}

-- what a configuration says
--
-- how the session comes back
pub set_so : (config : Config) (settings : ConnectionManagerConfig) → manager_of config ≡ Some settings → settings_in (Some config) ≡ Some settings
unfolding settings_in
set_so config settings e = e

-- and whether it waits for its first submission
pub waits_so : (config : Config) → is_lazy (Some config) ≡ waits_for_use config
unfolding is_lazy
waits_so config = refl

-- before its first link is asked for
--
-- the connection, which was told that it was created, or wasn't
abbrev pub idle_conn : MultiplexedConnection → Bool → MultiplexedConnection
idle_conn c told = record (afresh c) { rounds = true; told = told }
