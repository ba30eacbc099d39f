-- What sessions over managers at one address are asked with.
use Rattle.std.specs.Prelude.{pos, true, false, codes, Some, None}
use Rattle.connection_info.specs.declared.address.ConnectionInfo.{ConnectionInfo}
use Rattle.connection_info.specs.declared.protocol.ProtocolVersion.TheVariants.{RESP2}
use Rattle.manager_config.specs.declared.config.ConnectionManagerConfig.{ConnectionManagerConfig}
use Rattle.manager_config.specs.Config.{default_manager}
use Rattle.driver_model.specs.declared.config_words.AddressWords.{AddressWords}
use Rattle.driver_model.specs.declared.config_words.ConnectionWords.{ConnectionWords}
use Rattle.driver_model.specs.declared.config_words.ManagerWords.{ManagerWords}
use Rattle.driver_model.specs.Config.{address_at}

-- an address, whose server is told nothing but the library's name
abbrev pub plain : ConnectionInfo
plain = record {
  host = codes "h";
  port = 6379;
  redis = record { db = pos 0; username = None; password = None; protocol = RESP2; skip_set_lib_name = false };
}

-- the same address, whose server isn't told that either
abbrev pub nameless : ConnectionInfo
nameless = record plain { redis = record plain.redis { skip_set_lib_name = true } }

-- the words that give nothing but the address
abbrev pub bare : AddressWords
bare = address_at (codes "redis://h:6379")

-- a manager of which two settings aren't the default
abbrev pub quick : ConnectionManagerConfig
quick = record default_manager { min_delay = 5; automatic_resubscription = true }

-- a manager of which no setting is the default
abbrev pub changed : ConnectionManagerConfig
changed = record {
  connection = record {
    connection_timeout = Some 11;
    response_timeout = None;
    push_sender = true;
    credentials_provider = true;
    pipeline_buffer_size = 12;
    concurrency_limit = Some 13;
    write_backpressure_boundary = 14;
  };
  min_delay = 5;
  max_delay = Some 70;
  exponent_base = (3, 2);
  number_of_retries = 9;
  automatic_resubscription = true;
}

-- the words of that manager's connections, and of how it comes back
abbrev pub changed_connection : ConnectionWords
changed_connection = record {
  connect = Some (Some 11);
  response = Some None;
  limit = Some 13;
  buffer = Some 12;
  boundary = Some 14;
  push = Some true;
  creds = Some true;
}

abbrev pub changed_manager : ManagerWords
changed_manager = record {
  retries = Some 9;
  min = Some 5;
  max = Some (Some 70);
  base = Some (3, 2);
  resub = Some true;
}
