-- What of a client is changed for one connection.
use Rattle.std.specs.Prelude.{false, ◌||◌, None, unwrap_or}
use Rattle.cluster_client.specs.declared.params.ClusterParams.{ClusterParams}
use Rattle.cluster_client.specs.declared.config.ClusterConfig.{ClusterConfig}

-- nothing is set
abbrev pub unset_config : ClusterConfig
unset_config = record { connection_timeout = None; response_timeout = None; push_sender = false }

-- what changes nothing of a client that behaves so
abbrev pub own_config : ClusterParams → ClusterConfig
own_config params = record { connection_timeout = None; response_timeout = params.response_timeout; push_sender = false }

-- how a client behaves under a configuration: the response timeout is always that of the configuration, and the others where they
-- are set there
abbrev pub configured : ClusterParams → ClusterConfig → ClusterParams
configured params config = record params {
  connection_timeout = unwrap_or config.connection_timeout params.connection_timeout;
  response_timeout = config.response_timeout;
  push_sender = config.push_sender || params.push_sender;
}
