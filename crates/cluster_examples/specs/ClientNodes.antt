-- Nodes and settings that examples speak of.
use Rattle.std.specs.Prelude.{ℕ, ℤ, pos, false, List, [], ◌∷◌, codes, Option, Some, None}
use Rattle.connection_info.specs.declared.address.ConnectionInfo.{ConnectionInfo}
use Rattle.connection_info.specs.declared.address.RedisConnectionInfo.{RedisConnectionInfo}
use Rattle.connection_info.specs.declared.protocol.ProtocolVersion.{ProtocolVersion}
use Rattle.connection_info.specs.declared.protocol.ProtocolVersion.TheVariants.{RESP2, RESP3}
use Rattle.cluster_client.specs.declared.params.ClusterParams.{ClusterParams}
use Rattle.cluster_client.specs.Params.{default_params}

-- what an address says: a user, a password, a protocol and a database
abbrev pub saying : Option (List ℕ) → Option (List ℕ) → ProtocolVersion → ℤ → ConnectionInfo
saying username password protocol db = record {
  host = codes "h";
  port = 7000;
  redis = record { db = db; username = username; password = password; protocol = protocol; skip_set_lib_name = false };
}

-- nothing
abbrev pub plain : ConnectionInfo
plain = saying None None RESP2 (pos 0)

-- a database
abbrev pub at : ℕ → ConnectionInfo
at db = saying None None RESP2 (pos db)

-- RESP3
abbrev pub newer : ConnectionInfo
newer = saying None None RESP3 (pos 0)

-- a user and a password
abbrev pub named : List ℕ → List ℕ → ConnectionInfo
named user password = saying (Some user) (Some password) RESP2 (pos 0)

-- nothing is set
abbrev pub unset : ClusterParams
unset = default_params

-- one thing is set
abbrev pub with_password : ClusterParams
with_password = record default_params { password = Some (codes "p") }

abbrev pub with_user : ClusterParams
with_user = record default_params { username = Some (codes "u") }

abbrev pub with_protocol : ProtocolVersion → ClusterParams
with_protocol version = record default_params { protocol = Some version }

abbrev pub with_database : ℕ → ClusterParams
with_database db = record default_params { database_id = Some (pos db) }

abbrev pub with_limit : ℕ → ClusterParams
with_limit limit = record default_params { connection_concurrency_limit = Some limit }
