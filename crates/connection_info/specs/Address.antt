-- The address that a URL is.
use Rattle.std.specs.Prelude.{ℕ, ℤ, pos, Bool, false, ◌||◌, nat_le, List, [], ◌∷◌, length, codes, bytes_eq, Option, Some, None, Ok, Err, unwrap_or, if◌then◌else◌}
use Rattle.url.specs.Parts.{Parts}
use Rattle.url.specs.Parser.{Parsed, parse_url}
use Rattle.connection_info.specs.declared.address.ConnectionInfo.{ConnectionInfo}
use Rattle.connection_info.specs.declared.protocol.ProtocolVersion.{ProtocolVersion}
use Rattle.connection_info.specs.declared.protocol.ProtocolVersion.TheVariants.{RESP2}
use Rattle.connection_info.specs.Protocol.{protocol_of}
use Rattle.connection_info.specs.Host.{host_of}
use Rattle.connection_info.specs.Database.{database_of}
use Rattle.connection_info.specs.Credential.{credential_of}

-- the two schemes of a server that is talked to in plain text over TCP
abbrev pub has_scheme : Parts → Bool
has_scheme url = bytes_eq url.scheme (codes "redis") || bytes_eq url.scheme (codes "valkey")

-- an address of these parts, if each of them is one
abbrev pub joined : Option ℕ → Option (List ℕ) → Option ℤ → Option ProtocolVersion → Option (Option (List ℕ)) → Option (Option (List ℕ)) → Option ConnectionInfo
joined port (Some host) (Some db) (Some protocol) (Some username) (Some password) =
    Some (record {
      host = host;
      port = unwrap_or port 6379;
      redis = record {
        db = db;
        username = username;
        password = password;
        protocol = protocol;
        skip_set_lib_name = false;
      };
    })
joined port _ _ _ _ _ = None

-- the address of a URL
abbrev pub address_in : Parts → Option ConnectionInfo
address_in url =
    if has_scheme url
    then joined url.port (host_of url) (database_of url.path) (protocol_of url) (credential_of url.username) (credential_of url.password)
    else None

abbrev pub address_if_parsed : Parsed Parts → Option ConnectionInfo
address_if_parsed (Ok url) = address_in url
address_if_parsed (Err e) = None

-- the address that a text of at most a mebibyte is, read as a URL by the URL Standard
abbrev pub address_of : List ℕ → Option ConnectionInfo
address_of text = if nat_le (length text) 1_048_576 then address_if_parsed (parse_url None text) else None

-- the address of a host, which is taken as it is, and a port
abbrev pub address_at : List ℕ → ℕ → Option ConnectionInfo
address_at [] port = None
address_at (h ∷ hs) port =
    Some (record {
      host = h ∷ hs;
      port = port;
      redis = record {
        db = pos 0;
        username = None;
        password = None;
        protocol = RESP2;
        skip_set_lib_name = false;
      };
    })
