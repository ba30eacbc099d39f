-- Which sessions come back: where a link is lost, a manager asks for another one, in a new generation.
use Rattle.std.specs.Prelude.{ℕ, nat_le, Bool, true, false, Option, Some, None}
use Rattle.driver_model.specs.declared.config.Config.{Config}
use Rattle.driver_model.specs.Config.{manager_of}
use Rattle.driver_model.specs.Config.{is_lazy as waits_for_use}
use Rattle.manager_config.specs.declared.config.ConnectionManagerConfig.{ConnectionManagerConfig}

-- how a session comes back whose configuration was told, if it does
unfoldable pub settings_in : Option Config → Option ConnectionManagerConfig
settings_in None = None
settings_in (Some config) = manager_of config

-- it asks for its first link with its first submission
unfoldable pub is_lazy : Option Config → Bool
is_lazy None = false
is_lazy (Some config) = waits_for_use config

-- an attempt to connect is the last one, where so many of its generation failed before; without generations it is
abbrev pub is_last : Option ConnectionManagerConfig → ℕ → Bool
is_last None attempt = true
is_last (Some settings) attempt = nat_le settings.number_of_retries attempt
