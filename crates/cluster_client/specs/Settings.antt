-- What a session over a cluster is asked with, and what that means.
use Rattle.std.specs.Prelude.{◌≡◌, ⊤, ℕ, Bool, true, false, not, List, [], ◌∷◌, map, Option, Some, None, option_map, option_and_then, unwrap_or, nat_eq, if◌then◌else◌}
use Rattle.std.specs.List.{All}
use Rattle.std.specs.Str.{is_utf8}
use Rattle.slot_hash.specs.declared.address.NodeAddress.{NodeAddress}
use Rattle.mux_routing.specs.declared.strategy.ReadStrategy.{ReadStrategy}
use Rattle.mux_routing.specs.declared.strategy.ReadStrategy.TheVariants as strategy
use Rattle.redis_error.specs.declared.config_name.ConfigName.TheVariants as name
use Rattle.connection_info.specs.declared.address.ConnectionInfo.{ConnectionInfo}
use Rattle.connection_info.specs.declared.address.RedisConnectionInfo.{RedisConnectionInfo}
use Rattle.connection_info.specs.declared.open_error.OpenError.{OpenError}
use Rattle.connection_info.specs.declared.open_error.OpenError.TheVariants as error
use Rattle.connection_info.specs.Address.{address_of}
use Rattle.connection_info.specs.Written.{url_of, with_library, ReadsBack}
use Rattle.cluster_client.specs.declared.params.ClusterParams.{ClusterParams}
use Rattle.cluster_client.specs.declared.params.OverallResponseTimeout.{OverallResponseTimeout}
use Rattle.cluster_client.specs.declared.params.OverallResponseTimeout.TheVariants.{MatchResponseTimeout, Explicit}
use Rattle.cluster_client.specs.declared.settings.ClusterKind.{ClusterKind}
use Rattle.cluster_client.specs.declared.settings.ClusterSettings.{ClusterSettings}
use Rattle.cluster_client.specs.declared.settings.Reads.{Reads}
use Rattle.cluster_client.specs.declared.settings.Reads.TheVariants as reads
use Rattle.cluster_client.specs.Params.{default_params}
use Rattle.cluster_client.specs.Client.{Cluster, all_there, overall_of}
use Rattle.cluster_client.specs.Chosen.{told_in}
use Rattle.cluster_client.specs.Checks.{push_fault, first_cluster_fault}

-- a number is given where it isn't the default
abbrev pub number_given : ℕ → ℕ → Option ℕ
number_given default value = if nat_eq value default then None else Some value

-- what is so is given, and what isn't so is the default
abbrev pub switch_given : Bool → Option Bool
switch_given on = if on then Some true else None

-- the library is left out where the first node's address leaves it out
abbrev pub library_given : Bool → Option Bool
library_given skips = if skips then Some false else None

-- two times, or none
abbrev pub is_same_time : Option ℕ → Option ℕ → Bool
is_same_time None None = true
is_same_time None (Some right) = false
is_same_time (Some left) None = false
is_same_time (Some left) (Some right) = nat_eq left right

-- how long a request may take as a whole is given where that isn't how long a node may take to answer
abbrev pub overall_given : Option ℕ → Option ℕ → Option OverallResponseTimeout
overall_given response overall = if is_same_time overall response then None else Some (Explicit overall)

-- a limit of time is given where there is one
abbrev pub time_given : Option ℕ → Option (Option ℕ)
time_given None = None
time_given (Some timeout) = Some (Some timeout)

-- where reads go is given where that isn't the primary
abbrev pub reads_given : Option ReadStrategy → Option Reads
reads_given None = None
reads_given (Some strategy.Random) = Some reads.Random
reads_given (Some (strategy.RoundRobin next)) = Some reads.RoundRobin

-- addresses in the place of others are given where there are any
abbrev pub map_given : List (NodeAddress × NodeAddress) → Option (List (NodeAddress × NodeAddress))
map_given [] = None
map_given (pair ∷ pairs) = Some (pair ∷ pairs)

-- the words of a session of this client, where it behaves so: the addresses as they are written, what of password, user, protocol
-- and database was set, and of the rest what isn't the default
abbrev pub settings_of : ClusterKind → Cluster → ClusterParams → ClusterSettings
settings_of kind client params = record {
  kind = kind;
  nodes = map url_of client.nodes;
  connect = number_given default_params.connection_timeout params.connection_timeout;
  response = time_given params.response_timeout;
  limit = params.connection_concurrency_limit;
  boundary = number_given default_params.write_backpressure_boundary params.write_backpressure_boundary;
  push = switch_given params.push_sender;
  creds = switch_given params.credentials_provider;
  lib = library_given client.told.skip_set_lib_name;
  retries = number_given default_params.retries params.retries;
  password = params.password;
  user = params.username;
  protocol = params.protocol;
  db = params.database_id;
  min_wait = number_given default_params.min_retry_wait params.min_retry_wait;
  max_wait = number_given default_params.max_retry_wait params.max_retry_wait;
  factor = number_given default_params.retry_factor params.retry_factor;
  exp = number_given default_params.retry_exponent_base params.retry_exponent_base;
  overall = overall_given params.response_timeout client.overall;
  reads = reads_given params.read_strategy;
  map = map_given params.node_address_map;
  attempts = params.max_connection_attempts;
}

-- the address that one word says, if it is one
abbrev pub node_said : List ℕ → Option ConnectionInfo
node_said text = if is_utf8 text then address_of text else None

-- the addresses that the words say, if each of them is one
abbrev pub nodes_said : ClusterSettings → Option (List ConnectionInfo)
nodes_said s = all_there (map node_said s.nodes)

-- where reads go: replicas in turn begin with the first
abbrev pub strategy_said : Reads → Option ReadStrategy
strategy_said reads.Primary = None
strategy_said reads.Random = Some strategy.Random
strategy_said reads.RoundRobin = Some (strategy.RoundRobin 0)

-- how a session behaves by its words: by what is given, and else by the defaults
abbrev pub params_said : ClusterSettings → ClusterParams
params_said s = record {
  password = s.password;
  username = s.user;
  protocol = s.protocol;
  database_id = s.db;
  retries = unwrap_or s.retries default_params.retries;
  min_retry_wait = unwrap_or s.min_wait default_params.min_retry_wait;
  max_retry_wait = unwrap_or s.max_wait default_params.max_retry_wait;
  retry_factor = unwrap_or s.factor default_params.retry_factor;
  retry_exponent_base = unwrap_or s.exp default_params.retry_exponent_base;
  read_strategy = strategy_said (unwrap_or s.reads reads.Primary);
  connection_timeout = unwrap_or s.connect default_params.connection_timeout;
  response_timeout = unwrap_or s.response default_params.response_timeout;
  push_sender = unwrap_or s.push default_params.push_sender;
  credentials_provider = unwrap_or s.creds default_params.credentials_provider;
  connection_concurrency_limit = s.limit;
  write_backpressure_boundary = unwrap_or s.boundary default_params.write_backpressure_boundary;
  node_address_map = unwrap_or s.map default_params.node_address_map;
  max_connection_attempts = s.attempts;
}

-- how long a request may take as a whole
abbrev pub overall_said : ClusterSettings → Option ℕ
overall_said s = overall_of (params_said s).response_timeout (unwrap_or s.overall MatchResponseTimeout)

-- the library is named unless the words leave it out
abbrev pub with_word : Option Bool → RedisConnectionInfo → RedisConnectionInfo
with_word lib told = record told { skip_set_lib_name = not (unwrap_or lib true) }

-- what is said to every node
abbrev pub told_said : ClusterSettings → Option RedisConnectionInfo
told_said s = option_map (with_word s.lib) (option_and_then (told_in (params_said s)) (nodes_said s))

-- a strategy before its first pick
abbrev pub unused : Option ReadStrategy → Option ReadStrategy
unused None = None
unused (Some strategy.Random) = Some strategy.Random
unused (Some (strategy.RoundRobin next)) = Some (strategy.RoundRobin 0)

-- a session of these words connects to the nodes of this client, says to them what it says, and behaves so; its strategy has picked
-- nothing yet; and of the words nothing is refused but pushes that somebody hears without RESP3
pub record Keeps (client : Cluster) (params : ClusterParams) (s : ClusterSettings) : Type 0 where
  pub nodes : nodes_said s ≡ Some (map with_library client.nodes)
  pub told : told_said s ≡ Some client.told
  pub behaves : params_said s ≡ record params { read_strategy = unused params.read_strategy }
  pub overall : overall_said s ≡ client.overall
  pub refused : first_cluster_fault (nodes_said s) (params_said s) ≡ push_fault params.push_sender client.told.protocol

-- each of these addresses can be read from the URL that is written for it
unfoldable pub ReadBack : List ConnectionInfo → Type 0
ReadBack nodes = All ReadsBack nodes

-- either memory was wanted, or one of these addresses can't be read from the URL that is written for it
abbrev pub RefusesMaking : List ConnectionInfo → OpenError → Type 0
RefusesMaking nodes (error.Config name.Url) = ReadBack nodes → ⊥
RefusesMaking nodes (error.Config other) = ⊥
RefusesMaking nodes error.Client = ⊥
RefusesMaking nodes error.NoMemory = ⊤
