-- A builder, and the client that it builds.
use Rattle.std.specs.Prelude.{◌≡◌, ℕ, List, [], ◌∷◌, Option, Some, None, option_map, option_and_then}
use Rattle.connection_info.specs.declared.address.ConnectionInfo.{ConnectionInfo}
use Rattle.connection_info.specs.declared.address.RedisConnectionInfo.{RedisConnectionInfo}
use Rattle.cluster_client.specs.declared.params.ClusterParams.{ClusterParams}
use Rattle.cluster_client.specs.declared.params.OverallResponseTimeout.{OverallResponseTimeout}
use Rattle.cluster_client.specs.declared.params.OverallResponseTimeout.TheVariants.{MatchResponseTimeout, Explicit}
use Rattle.cluster_client.specs.Params.{default_params}
use Rattle.cluster_client.specs.Chosen.{told_in}
use Rattle.cluster_client.specs.Checks.{first_cluster_fault}

-- a builder: the addresses of its nodes, none where one of them is no address, and what was set
pub record Building : Type 0 where
  pub nodes : Option (List ConnectionInfo)
  pub params : ClusterParams
  pub overall : OverallResponseTimeout

-- a client: its nodes as they were given, how it behaves, how long a request may take as a whole, and what is said to every node
pub record Cluster : Type 0 where
  pub nodes : List ConnectionInfo
  pub params : ClusterParams
  pub overall : Option ℕ
  pub told : RedisConnectionInfo

-- all of these, if each of them is there
abbrev pub all_there : {X : Type 0} → List (Option X) → Option (List X)
all_there [] = Some []
all_there (None ∷ xs) = None
all_there (Some x ∷ xs) = option_map (λ rest. x ∷ rest) (all_there xs)

-- nothing is set
abbrev pub begun : Option (List ConnectionInfo) → Building
begun nodes = record { nodes = nodes; params = default_params; overall = MatchResponseTimeout }

-- how long a request may take as a whole, where a node may take so long to answer
abbrev pub overall_of : Option ℕ → OverallResponseTimeout → Option ℕ
overall_of response MatchResponseTimeout = response
overall_of response (Explicit timeout) = timeout

-- the client of these nodes, if there is one
abbrev pub client_of : ClusterParams → OverallResponseTimeout → List ConnectionInfo → Option Cluster
client_of params overall nodes = option_map (λ told. record {
  nodes = nodes;
  params = params;
  overall = overall_of params.response_timeout overall;
  told = told;
}) (told_in params nodes)

-- the client that is built, where nothing is refused
abbrev pub built : Building → Option Cluster
built b = option_and_then (client_of b.params b.overall) b.nodes

-- nothing of the client is refused, and what it says to every node is what is chosen
pub record IsSound (nodes : List ConnectionInfo) (params : ClusterParams) (told : RedisConnectionInfo) : Type 0 where
  pub taken : first_cluster_fault (Some nodes) params ≡ None
  pub chosen : told_in params nodes ≡ Some told
