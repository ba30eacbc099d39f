-- What of a cluster's client is refused.
use Rattle.std.specs.Prelude.{◌≡◌, ⊤, ℕ, ℤ, pos, ◌==◌, Bool, true, false, ◌&&◌, not, List, [], ◌∷◌, bytes_eq, Option, Some, None, is_none, is_some, slice_get, if◌then◌else◌}
use Rattle.std.specs.Option.{option_or}
use Rattle.std.specs.Ordering.{int_eq}
use Rattle.redis_error.specs.declared.config_name.ConfigName.{ConfigName}
use Rattle.redis_error.specs.declared.config_name.ConfigName.TheVariants as name
use Rattle.connection_info.specs.declared.address.ConnectionInfo.{ConnectionInfo}
use Rattle.connection_info.specs.declared.address.RedisConnectionInfo.{RedisConnectionInfo}
use Rattle.connection_info.specs.declared.protocol.ProtocolVersion.{ProtocolVersion}
use Rattle.connection_info.specs.declared.open_error.OpenError.{OpenError}
use Rattle.connection_info.specs.declared.open_error.OpenError.TheVariants as error
use Rattle.connection_info.specs.Protocol.{is_resp3}
use Rattle.cluster_client.specs.declared.params.ClusterParams.{ClusterParams}
use Rattle.cluster_client.specs.Chosen.{told_by}

-- both are there and the same, or neither is
abbrev pub is_same_text : Option (List ℕ) → Option (List ℕ) → Bool
is_same_text None None = true
is_same_text None (Some right) = false
is_same_text (Some left) None = false
is_same_text (Some left) (Some right) = bytes_eq left right

-- one protocol
abbrev pub is_same_protocol : ProtocolVersion → ProtocolVersion → Bool
is_same_protocol left right = if is_resp3 left then is_resp3 right else not (is_resp3 right)

-- a node has another text than the first node, which has one, where none is set
abbrev pub is_other_text : Option (List ℕ) → Option (List ℕ) → Option (List ℕ) → Bool
is_other_text set first node = is_none set && is_some first && not (is_same_text node first)

-- a node has another protocol than the first node, where none is set
abbrev pub is_other_protocol : Option ProtocolVersion → ProtocolVersion → ProtocolVersion → Bool
is_other_protocol set first node = is_none set && not (is_same_protocol node first)

-- a node has a database that isn't 0, and isn't the chosen one
abbrev pub is_other_database : ℤ → ℤ → Bool
is_other_database chosen node = not (int_eq node (pos 0)) && not (int_eq node chosen)

-- what is refused of one node, if anything is: its password, its user, its protocol, its database
abbrev pub node_fault : ClusterParams → RedisConnectionInfo → RedisConnectionInfo → Option ConfigName
node_fault params first node =
    if is_other_text params.password first.password node.password then Some name.Password
    else (if is_other_text params.username first.username node.username then Some name.User
    else (if is_other_protocol params.protocol first.protocol node.protocol then Some name.Protocol
    else (if is_other_database (told_by params first).db node.db then Some name.Database
    else None)))

-- the first of the faults of these nodes
abbrev pub nodes_fault : ClusterParams → RedisConnectionInfo → List ConnectionInfo → Option ConfigName
nodes_fault params first [] = None
nodes_fault params first (node ∷ nodes) = option_or (node_fault params first node.redis) (nodes_fault params first nodes)

-- somebody listens to pushes, and the chosen protocol has none
abbrev pub push_fault : Bool → ProtocolVersion → Option ConfigName
push_fault listens protocol = if listens && not (is_resp3 protocol) then Some name.Push else None

-- a connection that never has a permit
abbrev pub limit_fault : Option ℕ → Option ConfigName
limit_fault None = None
limit_fault (Some limit) = if limit == 0 then Some name.Limit else None

-- what is refused where this is the first node, if there is one
abbrev pub fault_from : Option ConnectionInfo → List ConnectionInfo → ClusterParams → Option ConfigName
fault_from None nodes params = Some name.Nodes
fault_from (Some first) nodes params =
    option_or (nodes_fault params first.redis nodes)
    (option_or (push_fault params.push_sender (told_by params first.redis).protocol)
    (limit_fault params.connection_concurrency_limit))

-- what of a client is refused first, if anything is: a node that is no address; that there is no node; of each node in order its
-- password, its user, its protocol and its database; a push sender without RESP3; and a limit of no permits
abbrev pub first_cluster_fault : Option (List ConnectionInfo) → ClusterParams → Option ConfigName
first_cluster_fault None params = Some name.Url
first_cluster_fault (Some nodes) params = fault_from (slice_get nodes 0) nodes params

-- either memory was wanted, or this is refused first
abbrev pub RefusesCluster : Option (List ConnectionInfo) → ClusterParams → OpenError → Type 0
RefusesCluster nodes params (error.Config fault) = first_cluster_fault nodes params ≡ Some fault
RefusesCluster nodes params error.Client = ⊥
RefusesCluster nodes params error.NoMemory = ⊤
