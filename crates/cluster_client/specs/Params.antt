-- What is set of a cluster's client where nothing is said.
use Rattle.std.specs.Prelude.{false, [], None}
use Rattle.cluster_client.specs.declared.params.ClusterParams.{ClusterParams}

-- as the Rust crate has it
abbrev pub default_params : ClusterParams
default_params = record {
  password = None;
  username = None;
  protocol = None;
  database_id = None;
  retries = 16;
  min_retry_wait = 1280;
  max_retry_wait = 655_360;
  retry_factor = 10;
  retry_exponent_base = 2;
  read_strategy = None;
  connection_timeout = 1000;
  response_timeout = None;
  push_sender = false;
  credentials_provider = false;
  connection_concurrency_limit = None;
  write_backpressure_boundary = 8192;
  node_address_map = [];
  max_connection_attempts = None;
}
