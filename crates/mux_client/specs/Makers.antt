-- The configuration of a session that a client makes.
use Rattle.std.specs.Prelude.{◌≡◌, ⊤, ℕ, Bool, true, false, Option, Some, None, nat_eq, if◌then◌else◌}
use Rattle.redis_error.specs.declared.config_name.ConfigName.TheVariants as name
use Rattle.connection_info.specs.declared.address.ConnectionInfo.{ConnectionInfo}
use Rattle.connection_info.specs.declared.config.AsyncConnectionConfig.{AsyncConnectionConfig}
use Rattle.connection_info.specs.declared.open_error.OpenError.{OpenError}
use Rattle.connection_info.specs.declared.open_error.OpenError.TheVariants as error
use Rattle.connection_info.specs.Config.{default_config}
use Rattle.connection_info.specs.Written.{url_of, ReadsBack}
use Rattle.driver_model.specs.declared.config.Config.{Config}
use Rattle.driver_model.specs.declared.config.Config.TheVariants as config
use Rattle.driver_model.specs.declared.config_words.AddressWords.{AddressWords}
use Rattle.driver_model.specs.declared.config_words.ConnectionWords.{ConnectionWords}
use Rattle.driver_model.specs.declared.kind.SessionKind.{SessionKind}
use Rattle.driver_model.specs.Config.{kind_of, connect_timeout, response_timeout, permits, buffer_size, boundary, hearing_of, wants_credentials, told_info}
use Rattle.driver_model.specs.Hearing.{hears_pushes}

-- two times, or none
abbrev pub is_same : Option ℕ → Option ℕ → Bool
is_same None None = true
is_same None (Some n) = false
is_same (Some m) None = false
is_same (Some m) (Some n) = nat_eq m n

-- a time is given where it isn't the default
abbrev pub time_given : Option ℕ → Option ℕ → Option (Option ℕ)
time_given default value = if is_same value default then None else Some value

-- a number is given where it isn't the default
abbrev pub number_given : ℕ → ℕ → Option ℕ
number_given default value = if nat_eq value default then None else Some value

-- that somebody hears pushes is given where somebody does
abbrev pub push_given : Bool → Option Bool
push_given hears = if hears then Some true else None

-- that credentials come of sources is given where they do
abbrev pub creds_given : Bool → Option Bool
creds_given provided = if provided then Some true else None

-- the library is left out where the address leaves it out
abbrev pub library_given : Bool → Option Bool
library_given skips = if skips then Some false else None

-- the words of an address: as it is written
abbrev pub address_given : ConnectionInfo → AddressWords
address_given info = record { url = url_of info; lib = library_given info.redis.skip_set_lib_name }

-- the words of a connection: what isn't the default
abbrev pub connection_given : AsyncConnectionConfig → ConnectionWords
connection_given c = record {
  connect = time_given default_config.connection_timeout c.connection_timeout;
  response = time_given default_config.response_timeout c.response_timeout;
  limit = c.concurrency_limit;
  buffer = number_given default_config.pipeline_buffer_size c.pipeline_buffer_size;
  boundary = number_given default_config.write_backpressure_boundary c.write_backpressure_boundary;
  push = push_given c.push_sender;
  creds = creds_given c.credentials_provider;
}

-- the words of the configuration: the address as it is written, and what isn't the default
abbrev pub config_of : ConnectionInfo → AsyncConnectionConfig → Config
config_of info c = config.Single (address_given info) (connection_given c)

-- the words of a link of publish/subscribe: the address as it is written
abbrev pub pubsub_of : ConnectionInfo → Config
pubsub_of info = config.PubSub (address_given info)

-- and of one in monitor mode
abbrev pub monitor_of : ConnectionInfo → Config
monitor_of info = config.Monitor (address_given info)

-- a session of these words is of this kind, connects to this address, and says what it says to the server
pub record KeepsLink (what : SessionKind) (info : ConnectionInfo) (words : Config) : Type 0 where
  pub is : kind_of words ≡ what
  pub said : told_info words ≡ info.redis

-- a session of these words connects to this address, says what it says to the server, and behaves by this configuration
pub record Keeps (info : ConnectionInfo) (c : AsyncConnectionConfig) (words : Config) : Type 0 where
  pub said : told_info words ≡ info.redis
  pub connects : connect_timeout words ≡ c.connection_timeout
  pub answers : response_timeout words ≡ c.response_timeout
  pub permits : permits words ≡ c.concurrency_limit
  pub places : buffer_size words ≡ c.pipeline_buffer_size
  pub pushes : hears_pushes (hearing_of words) ≡ c.push_sender
  pub sources : wants_credentials words ≡ c.credentials_provider
  pub room : boundary words ≡ c.write_backpressure_boundary

-- either memory was wanted, or the address can't be read from the URL that is written for it
abbrev pub RefusesMaking : ConnectionInfo → OpenError → Type 0
RefusesMaking info (error.Config name.Url) = ReadsBack info → ⊥
RefusesMaking info (error.Config other) = ⊥
RefusesMaking info error.Client = ⊥
RefusesMaking info error.NoMemory = ⊤
