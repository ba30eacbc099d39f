-- An address, written as a URL.
use Rattle.std.specs.Prelude.{◌≡◌, ℕ, ℤ, pos, negsuc, zero, suc, false, ◌==◌, List, [], ◌∷◌, ◌++◌, codes, decimal, IsUtf8, Option, Some, None, if◌then◌else◌}
use Rattle.std.specs.List.{list_any}
use Rattle.std.specs.Str.{byte}
use Rattle.std.specs.Fmt.{signed_decimal}
use Rattle.percent_encoding.specs.declared.ascii_set.TheConstants.{NON_ALPHANUMERIC}
use Rattle.percent_encoding.specs.Percent.{percent_encode}
use Rattle.connection_info.specs.declared.address.ConnectionInfo.{ConnectionInfo}
use Rattle.connection_info.specs.declared.protocol.ProtocolVersion.{ProtocolVersion}
use Rattle.connection_info.specs.declared.protocol.ProtocolVersion.TheVariants.{RESP2, RESP3}
use Rattle.connection_info.specs.Address.{address_of}

-- every byte is escaped but ASCII letters and digits
abbrev pub escaped : List ℕ → List ℕ
escaped text = percent_encode NON_ALPHANUMERIC text

-- the text, escaped, if there is one
abbrev pub given_part : Option (List ℕ) → List ℕ
given_part None = []
given_part (Some text) = escaped text

-- a user name and a password, where one of them is there
abbrev pub user_part : Option (List ℕ) → Option (List ℕ) → List ℕ
user_part None None = []
user_part None (Some password) = codes ":" ++ escaped password ++ codes "@"
user_part (Some username) password = escaped username ++ codes ":" ++ given_part password ++ codes "@"

-- brackets stand round a host with a colon
abbrev pub host_part : List ℕ → List ℕ
host_part host = if list_any (λ b. b == byte ":") host then codes "[" ++ host ++ codes "]" else host

abbrev pub port_part : ℕ → List ℕ
port_part port = codes ":" ++ decimal port

-- the database 0 is not written
abbrev pub database_part : ℤ → List ℕ
database_part (pos zero) = []
database_part (pos (suc n)) = codes "/" ++ decimal (suc n)
database_part (negsuc n) = codes "/" ++ signed_decimal (negsuc n)

-- RESP2 is not written
abbrev pub protocol_part : ProtocolVersion → List ℕ
protocol_part RESP2 = []
protocol_part RESP3 = codes "?protocol=3"

abbrev pub url_of : ConnectionInfo → List ℕ
url_of info =
    codes "redis://" ++ user_part info.redis.username info.redis.password ++ host_part info.host
    ++ port_part info.port ++ database_part info.redis.db ++ protocol_part info.redis.protocol

-- the address with the library named, as every address of a URL has it
abbrev pub with_library : ConnectionInfo → ConnectionInfo
with_library info = record info { redis = record info.redis { skip_set_lib_name = false } }

-- the text is read as this address
abbrev pub IsUrlOf : ConnectionInfo → List ℕ → Type 0
IsUrlOf info text = IsUtf8 text × (address_of text ≡ Some (with_library info))

-- the address can be read from the URL that is written for it
abbrev pub ReadsBack : ConnectionInfo → Type 0
ReadsBack info = IsUrlOf info (url_of info)
