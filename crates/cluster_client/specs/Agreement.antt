-- When nothing of a cluster's client is refused.
use Rattle.std.specs.Prelude.{◌≡◌, ◌≢◌, ℕ, pos, true, List, Option, Some, None, slice_get}
use Rattle.std.specs.List.{All}
use Rattle.connection_info.specs.declared.address.ConnectionInfo.{ConnectionInfo}
use Rattle.connection_info.specs.declared.address.RedisConnectionInfo.{RedisConnectionInfo}
use Rattle.connection_info.specs.declared.protocol.ProtocolVersion.TheVariants.{RESP3}
use Rattle.cluster_client.specs.declared.params.ClusterParams.{ClusterParams}
use Rattle.cluster_client.specs.Chosen.{told_by}

-- a text that isn't set, and that the first node has, is that of this node
abbrev pub SharesText : Option (List ℕ) → Option (List ℕ) → Option (List ℕ) → Type 0
SharesText set first node = set ≡ None → first ≢ None → node ≡ first

-- a node has what the first node has, as far as that isn't set; its database is 0, or the chosen one
pub record NodeAgrees (params : ClusterParams) (first node : RedisConnectionInfo) : Type 0 where
  pub password : SharesText params.password first.password node.password
  pub user : SharesText params.username first.username node.username
  pub protocol : params.protocol ≡ None → node.protocol ≡ first.protocol
  pub database : node.db ≢ pos 0 → node.db ≡ (told_by params first).db

-- there is a first node, with which every node agrees; who listens to pushes speaks RESP3; and a connection has permits
pub record NodesAgree (params : ClusterParams) (nodes : List ConnectionInfo) : Type 0 where
  pub first : ConnectionInfo
  pub stands : slice_get nodes 0 ≡ Some first
  pub each : All (λ node. NodeAgrees params first.redis node.redis) nodes
  pub pushes : params.push_sender ≡ true → (told_by params first.redis).protocol ≡ RESP3
  pub permits : params.connection_concurrency_limit ≢ Some 0
