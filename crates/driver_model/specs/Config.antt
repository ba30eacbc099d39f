-- What the words of a configuration mean.
use Rattle.std.specs.Prelude.{◌≡◌, ⊤, ℕ, pos, ◌-◌, ◌^◌, ◌==◌, Bool, true, false, ◌&&◌, not, List, Option, Some, None, option_map, unwrap_or, if◌then◌else◌}
use Rattle.std.specs.Str.{is_utf8}
use Rattle.redis_error.specs.declared.config_name.ConfigName.{ConfigName}
use Rattle.redis_error.specs.declared.config_name.ConfigName.TheVariants as name
use Rattle.connection_info.specs.declared.address.ConnectionInfo.{ConnectionInfo}
use Rattle.connection_info.specs.declared.address.RedisConnectionInfo.{RedisConnectionInfo}
use Rattle.connection_info.specs.declared.config.AsyncConnectionConfig.{AsyncConnectionConfig}
use Rattle.connection_info.specs.declared.open_error.OpenError.{OpenError}
use Rattle.connection_info.specs.declared.open_error.OpenError.TheVariants as error
use Rattle.connection_info.specs.declared.protocol.ProtocolVersion.TheVariants.{RESP2}
use Rattle.connection_info.specs.Protocol.{is_resp3}
use Rattle.connection_info.specs.Address.{address_of}
use Rattle.connection_info.specs.Config.{default_config}
use Rattle.manager_config.specs.declared.config.ConnectionManagerConfig.{ConnectionManagerConfig}
use Rattle.manager_config.specs.Config.{default_manager}
use Rattle.manager_config.specs.Refused.{first_fault as first_manager_fault}
use Rattle.driver_model.specs.declared.config.Config.{Config}
use Rattle.driver_model.specs.declared.config.Config.TheVariants as config
use Rattle.driver_model.specs.declared.config_words.AddressWords.{AddressWords}
use Rattle.driver_model.specs.declared.config_words.ConnectionWords.{ConnectionWords}
use Rattle.driver_model.specs.declared.config_words.ManagerWords.{ManagerWords}
use Rattle.driver_model.specs.declared.kind.SessionKind.{SessionKind}
use Rattle.driver_model.specs.declared.kind.SessionKind.TheVariants as kind
use Rattle.driver_model.specs.declared.hearing.Hearing.{Hearing}
use Rattle.driver_model.specs.declared.hearing.Hearing.TheVariants as hearing
use Rattle.driver_model.specs.Hearing.{hears_pushes}

-- what the session is
abbrev pub kind_of : Config → SessionKind
kind_of (config.Single address connection) = kind.Single
kind_of (config.Manager lazy address connection manager) = kind.Manager lazy
kind_of (config.PubSub address) = kind.PubSub
kind_of (config.Monitor address) = kind.Monitor

-- where its server is
abbrev pub address_words : Config → AddressWords
address_words (config.Single address connection) = address
address_words (config.Manager lazy address connection manager) = address
address_words (config.PubSub address) = address
address_words (config.Monitor address) = address

-- how its connection behaves, where it is a multiplexed one
abbrev pub connection_words : Config → Option ConnectionWords
connection_words (config.Single address connection) = Some connection
connection_words (config.Manager lazy address connection manager) = Some connection
connection_words (config.PubSub address) = None
connection_words (config.Monitor address) = None

-- how a connection of these words behaves: by what is given, and else by the defaults
abbrev pub connection_settings : ConnectionWords → AsyncConnectionConfig
connection_settings words = record {
  connection_timeout = unwrap_or words.connect default_config.connection_timeout;
  response_timeout = unwrap_or words.response default_config.response_timeout;
  push_sender = unwrap_or words.push default_config.push_sender;
  credentials_provider = unwrap_or words.creds default_config.credentials_provider;
  pipeline_buffer_size = unwrap_or words.buffer default_config.pipeline_buffer_size;
  concurrency_limit = words.limit;
  write_backpressure_boundary = unwrap_or words.boundary default_config.write_backpressure_boundary;
}

-- how a manager of these words behaves, whose connections are of those: by what is given, and else by the defaults
abbrev pub manager_settings : ConnectionWords → ManagerWords → ConnectionManagerConfig
manager_settings connection words = record {
  connection = connection_settings connection;
  min_delay = unwrap_or words.min default_manager.min_delay;
  max_delay = unwrap_or words.max default_manager.max_delay;
  exponent_base = unwrap_or words.base default_manager.exponent_base;
  number_of_retries = unwrap_or words.retries default_manager.number_of_retries;
  automatic_resubscription = unwrap_or words.resub default_manager.automatic_resubscription;
}

-- how it comes back, where it is a connection that does
abbrev pub manager_of : Config → Option ConnectionManagerConfig
manager_of (config.Single address connection) = None
manager_of (config.Manager lazy address connection manager) = Some (manager_settings connection manager)
manager_of (config.PubSub address) = None
manager_of (config.Monitor address) = None

-- it asks for its first link with its first request
abbrev pub is_lazy : Config → Bool
is_lazy (config.Single address connection) = false
is_lazy (config.Manager lazy address connection manager) = lazy
is_lazy (config.PubSub address) = false
is_lazy (config.Monitor address) = false

-- this URL, and nothing beside it
abbrev pub address_at : List ℕ → AddressWords
address_at url = record { url = url; lib = None }

-- nothing is given of a connection
abbrev pub no_words : ConnectionWords
no_words = record { connect = None; response = None; limit = None; buffer = None; boundary = None; push = None; creds = None }

-- nor how it comes back
abbrev pub no_manager_words : ManagerWords
no_manager_words = record { retries = None; min = None; max = None; base = None; resub = None }

-- a configuration of which nothing but the kind and the address is given
abbrev pub config_of : SessionKind → List ℕ → Config
config_of kind.Single url = config.Single (address_at url) no_words
config_of (kind.Manager lazy) url = config.Manager lazy (address_at url) no_words no_manager_words
config_of kind.PubSub url = config.PubSub (address_at url)
config_of kind.Monitor url = config.Monitor (address_at url)

-- the address of a server, if the URL is one
abbrev pub address_in : AddressWords → Option ConnectionInfo
address_in words = if is_utf8 words.url then address_of words.url else None

-- the address of its server, if its URL is one
abbrev pub address : Config → Option ConnectionInfo
address c = address_in (address_words c)

-- what these words of a multiplexed connection say, and that for a link of publish/subscribe or of monitor mode, which has none
abbrev pub said : {X : Type 0} → Option ConnectionWords → (ConnectionWords → X) → X → X
said None says other = other
said (Some words) says other = says words

-- how many milliseconds the connect may take, if that is bounded: where nothing is said, as the Rust crate has it
abbrev pub connect_timeout : Config → Option ℕ
connect_timeout c = said (connection_words c) (λ words. unwrap_or words.connect default_config.connection_timeout) None

-- within how many milliseconds a request is to be answered, if within any
abbrev pub response_timeout : Config → Option ℕ
response_timeout c = said (connection_words c) (λ words. unwrap_or words.response default_config.response_timeout) None

-- how many permits there are, if they are counted
abbrev pub permits : Config → Option ℕ
permits c = said (connection_words c) (λ words. words.limit) None

-- how many messages the queue of its link holds: where it is unbounded, more than there are numbers for submissions
abbrev pub buffer_size : Config → ℕ
buffer_size c = said (connection_words c) (λ words. unwrap_or words.buffer default_config.pipeline_buffer_size) (2 ^ 32 - 1)

-- at how many unwritten bytes no message of its link starts
abbrev pub boundary : Config → ℕ
boundary c = said (connection_words c) (λ words. unwrap_or words.boundary default_config.write_backpressure_boundary) default_config.write_backpressure_boundary

-- what is said to a server of this address: the library is named unless the configuration leaves it out
abbrev pub told_of : Config → ConnectionInfo → RedisConnectionInfo
told_of c info = record info.redis { skip_set_lib_name = not (unwrap_or (address_words c).lib true) }

-- what is said to a server to which nothing is to be said
abbrev pub bare_info : RedisConnectionInfo
bare_info = record { db = pos 0; username = None; password = None; protocol = RESP2; skip_set_lib_name = true }

-- what is said to the server before the first request; nothing where the URL is no address
abbrev pub told_info : Config → RedisConnectionInfo
told_info c = unwrap_or (option_map (told_of c) (address c)) bare_info

-- somebody hears the pushes of a multiplexed connection
abbrev pub wants_pushes : Config → Bool
wants_pushes c = said (connection_words c) (λ words. unwrap_or words.push false) false

-- what is heard on a multiplexed connection: pushes, where somebody hears them
abbrev pub heard_on : Bool → Hearing
heard_on true = hearing.Pushes
heard_on false = hearing.Nothing

-- what is heard where this is the kind, and somebody hears pushes or nobody does
abbrev pub hearing_in : SessionKind → Bool → Hearing
hearing_in kind.Single pushes = heard_on pushes
hearing_in (kind.Manager lazy) pushes = heard_on pushes
hearing_in kind.PubSub pushes = hearing.Messages
hearing_in kind.Monitor pushes = hearing.Monitor

-- what is heard beside the replies to requests
abbrev pub hearing_of : Config → Hearing
hearing_of c = hearing_in (kind_of c) (wants_pushes c)

-- whether credentials come of a source
abbrev pub wants_credentials : Config → Bool
wants_credentials c = said (connection_words c) (λ words. unwrap_or words.creds false) false

-- a queue that holds nothing is refused
abbrev pub buffer_fault : ℕ → Option ConfigName
buffer_fault size = if size == 0 then Some name.Buffer else None

-- a connection that never has a permit is refused, and then a queue that holds nothing
abbrev pub room_fault : Option ℕ → ℕ → Option ConfigName
room_fault None size = buffer_fault size
room_fault (Some limit) size = if limit == 0 then Some name.Limit else buffer_fault size

-- what is refused of an address, or none was, of pushes that somebody hears, of a number of permits, and of a queue of this size
abbrev pub fault_in : Option ConnectionInfo → Bool → Option ℕ → ℕ → Option ConfigName
fault_in None heard limit size = Some name.Url
fault_in (Some info) heard limit size = if heard && not (is_resp3 info.redis.protocol) then Some name.Push else room_fault limit size

-- what is refused of a manager that behaves so at an address, or where there is none
abbrev pub manager_fault : Option ConnectionInfo → ConnectionManagerConfig → Option ConfigName
manager_fault None settings = Some name.Url
manager_fault (Some info) settings = first_manager_fault info.redis.protocol settings

-- what is refused of a configuration at an address, or where there is none, of one that comes back so, or that doesn't
abbrev pub fault_of : Option ConnectionManagerConfig → Option ConnectionInfo → Config → Option ConfigName
fault_of None at c = fault_in at (hears_pushes (hearing_of c)) (permits c) (buffer_size c)
fault_of (Some settings) at c = manager_fault at settings

-- what of a configuration is refused first, if anything is: a URL that isn't an address; of one that comes back, what is
-- subscribed again where nobody hears pushes, and a fraction without a denominator; pushes that somebody hears on RESP2, a limit
-- of no permits, and a queue that holds nothing
abbrev pub first_fault : Config → Option ConfigName
first_fault c = fault_of (manager_of c) (address c) c

-- either memory was wanted, or this is refused first
abbrev pub RefusesConfig : Config → OpenError → Type 0
RefusesConfig c (error.Config fault) = first_fault c ≡ Some fault
RefusesConfig c error.Client = ⊥
RefusesConfig c error.NoMemory = ⊤
