-- How a manager behaves where nothing else is said.
use Rattle.std.specs.Prelude.{false, None}
use Rattle.connection_info.specs.Config.{default_config}
use Rattle.manager_config.specs.declared.config.ConnectionManagerConfig.{ConnectionManagerConfig}

-- 6 attempts after the first, delays below 100 milliseconds at first and below twice as many after each further attempt
abbrev pub default_manager : ConnectionManagerConfig
default_manager = record {
  connection = default_config;
  min_delay = 100;
  max_delay = None;
  exponent_base = (2, 1);
  number_of_retries = 6;
  automatic_resubscription = false;
}
