-- What a session is asked with.
use Rattle.std.specs.Prelude.{ℕ, pos, true, false, List, [], ◌∷◌, codes, Option, Some, None}
use Rattle.mux_routing.specs.declared.strategy.ReadStrategy.TheVariants.{RoundRobin}
use Rattle.connection_info.specs.declared.address.RedisConnectionInfo.{RedisConnectionInfo}
use Rattle.connection_info.specs.declared.protocol.ProtocolVersion.TheVariants.{RESP2, RESP3}
use Rattle.cluster_client.specs.declared.params.ClusterParams.{ClusterParams}
use Rattle.cluster_client.specs.declared.params.OverallResponseTimeout.TheVariants.{MatchResponseTimeout, Explicit}
use Rattle.cluster_client.specs.declared.config.ClusterConfig.{ClusterConfig}
use Rattle.cluster_client.specs.declared.settings.ClusterSettings.{ClusterSettings}
use Rattle.cluster_client.specs.declared.settings.ClusterKind.TheVariants.{Cluster, Pending}
use Rattle.cluster_client.specs.declared.settings.Reads.TheVariants as reads
use Rattle.cluster_client.specs.Config.{unset_config, configured}
use Rattle.cluster_client.specs.Client as client
use Rattle.cluster_client.specs.Settings.{settings_of}
use Rattle.cluster_examples.specs.ClientNodes.{plain, unset}

-- the words of a session of this node alone
abbrev pub bare : ClusterSettings
bare = record {
  kind = Cluster;
  nodes = codes "redis://h:7000" ∷ [];
  connect = None;
  response = None;
  limit = None;
  boundary = None;
  push = None;
  creds = None;
  lib = None;
  retries = None;
  password = None;
  user = None;
  protocol = None;
  db = None;
  min_wait = None;
  max_wait = None;
  factor = None;
  exp = None;
  overall = None;
  reads = None;
  map = None;
  attempts = None;
}

-- the client of one node that says nothing, which behaves so and has so long for a request as a whole
abbrev pub of_one : ClusterParams → Option ℕ → client.Cluster
of_one params overall = record { nodes = plain ∷ []; params = params; overall = overall; told = plain.redis }

-- seven milliseconds to answer
abbrev pub quick : ClusterParams
quick = record unset { response_timeout = Some 7 }

-- five for one connection
abbrev pub quicker : ClusterConfig
quicker = record unset_config { response_timeout = Some 5 }

-- its words
abbrev pub of_quicker : ClusterSettings
of_quicker = record bare { response = Some (Some 5); overall = Some (Explicit (Some 7)) }

-- every key but those of what is said to the nodes, none with its default
abbrev pub changed : ClusterParams
changed = record unset {
  database_id = Some (pos 0);
  protocol = Some RESP2;
  retries = 3;
  min_retry_wait = 1;
  max_retry_wait = 2;
  retry_factor = 4;
  retry_exponent_base = 5;
  read_strategy = Some (RoundRobin 6);
  connection_timeout = 8;
  response_timeout = Some 9;
  connection_concurrency_limit = Some 10;
  write_backpressure_boundary = 11;
  credentials_provider = true;
  max_connection_attempts = Some 12;
}

-- their words
abbrev pub of_changed : ClusterSettings
of_changed = record bare {
  kind = Pending;
  connect = Some 8;
  response = Some (Some 9);
  limit = Some 10;
  boundary = Some 11;
  creds = Some true;
  retries = Some 3;
  protocol = Some RESP2;
  db = Some (pos 0);
  min_wait = Some 1;
  max_wait = Some 2;
  factor = Some 4;
  exp = Some 5;
  overall = Some (Explicit None);
  reads = Some reads.RoundRobin;
  attempts = Some 12;
}
