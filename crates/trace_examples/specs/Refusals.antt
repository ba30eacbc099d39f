-- Configurations of which several things are refused.
use Rattle.std.specs.Prelude.{ℕ, Bool, true, false, List, [], ◌∷◌, map, Option, Some, None, codes, pos}
use Rattle.redis_error.specs.declared.config_name.ConfigName.{ConfigName}
use Rattle.connection_info.specs.declared.address.ConnectionInfo.{ConnectionInfo}
use Rattle.connection_info.specs.declared.protocol.ProtocolVersion.{ProtocolVersion}
use Rattle.connection_info.specs.declared.protocol.ProtocolVersion.TheVariants.{RESP2, RESP3}
use Rattle.manager_config.specs.declared.config.ConnectionManagerConfig.{ConnectionManagerConfig}
use Rattle.manager_config.specs.Config.{default_manager}
use Rattle.manager_config.specs.Refused.{first_fault}
use Rattle.driver_model.specs.Config.{fault_in}

-- a server that speaks this protocol
abbrev pub server_of : ProtocolVersion → ConnectionInfo
server_of protocol = record { host = codes "h"; port = 6_379; redis = record { db = pos 0; username = None; password = None; protocol = protocol; skip_set_lib_name = true } }

-- what is refused first of one connection to such a server, or to none: whether somebody hears pushes, the limit, and the queue's size
abbrev pub refused_of_one : Option ProtocolVersion → Bool → Option ℕ → ℕ → Option ConfigName
refused_of_one None heard limit size = fault_in None heard limit size
refused_of_one (Some protocol) heard limit size = fault_in (Some (server_of protocol)) heard limit size

-- a manager that resubscribes or doesn't, with this denominator, whose pushes somebody hears or nobody does, with this limit and
-- this size of the queue
abbrev pub manager_with : Bool → ℕ → Bool → Option ℕ → ℕ → ConnectionManagerConfig
manager_with resubscribes denominator heard limit size = record default_manager {
  automatic_resubscription = resubscribes;
  exponent_base = (2, denominator);
  connection = record default_manager.connection { push_sender = heard; concurrency_limit = limit; pipeline_buffer_size = size };
}

-- what is refused first of it over RESP2
abbrev pub refused_of_manager : ConnectionManagerConfig → Option ConfigName
refused_of_manager settings = first_fault RESP2 settings
