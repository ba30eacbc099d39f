-- Addresses and errors that examples speak of.
use Rattle.std.specs.Prelude.{ℕ, ℤ, pos, false, List, codes, Some, None}
use Rattle.resp_value.specs.declared.server_error.ServerError.{ServerError}
use Rattle.connection_info.specs.declared.address.ConnectionInfo.{ConnectionInfo}
use Rattle.connection_info.specs.declared.address.RedisConnectionInfo.{RedisConnectionInfo}
use Rattle.connection_info.specs.declared.protocol.ProtocolVersion.{ProtocolVersion}
use Rattle.connection_info.specs.declared.protocol.ProtocolVersion.TheVariants.{RESP2, RESP3}

-- nobody authenticates
abbrev pub choosing : ℤ → ProtocolVersion → RedisConnectionInfo
choosing db protocol = record { db = db; username = None; password = None; protocol = protocol; skip_set_lib_name = false }

-- nobody authenticates, and no database is chosen
abbrev pub plain : ProtocolVersion → RedisConnectionInfo
plain protocol = choosing (pos 0) protocol

-- a user with a password, and the database 2
abbrev pub named : List ℕ → List ℕ → RedisConnectionInfo
named name password = record { db = pos 2; username = Some name; password = Some password; protocol = RESP3; skip_set_lib_name = false }

abbrev pub with_name : RedisConnectionInfo
with_name = named (codes "u") (codes "p")

-- a host and a port, and what is chosen there
abbrev pub at : List ℕ → ℕ → ℤ → ProtocolVersion → ConnectionInfo
at host port db protocol = record { host = host; port = port; redis = choosing db protocol }

abbrev pub place : List ℕ → ℕ → ConnectionInfo
place host port = at host port (pos 0) RESP2

abbrev pub secured : List ℕ → ℕ → List ℕ → List ℕ → ConnectionInfo
secured host port name password = record { host = host; port = port; redis = named name password }

-- a server that counts other arguments
abbrev pub counted : ServerError
counted = record { code = codes "ERR"; detail = Some (codes "wrong number of arguments for 'auth' command") }

-- a server that refuses a password
abbrev pub an_error : ServerError
an_error = record { code = codes "WRONGPASS"; detail = Some (codes "no") }
