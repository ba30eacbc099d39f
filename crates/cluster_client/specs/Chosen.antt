-- What is said to every node of a cluster.
use Rattle.std.specs.Prelude.{List, Option, option_map, unwrap_or, slice_get}
use Rattle.std.specs.Option.{option_or}
use Rattle.connection_info.specs.declared.address.ConnectionInfo.{ConnectionInfo}
use Rattle.connection_info.specs.declared.address.RedisConnectionInfo.{RedisConnectionInfo}
use Rattle.cluster_client.specs.declared.params.ClusterParams.{ClusterParams}

-- of password, user, protocol and database what is set, and else what the first node's address has; whether the library is named
-- is what the first node's address says
abbrev pub told_by : ClusterParams → RedisConnectionInfo → RedisConnectionInfo
told_by params first = record {
  db = unwrap_or params.database_id first.db;
  username = option_or params.username first.username;
  password = option_or params.password first.password;
  protocol = unwrap_or params.protocol first.protocol;
  skip_set_lib_name = first.skip_set_lib_name;
}

-- the same, if there is a first node
abbrev pub told_in : ClusterParams → List ConnectionInfo → Option RedisConnectionInfo
told_in params nodes = option_map (λ first. told_by params first.redis) (slice_get nodes 0)
