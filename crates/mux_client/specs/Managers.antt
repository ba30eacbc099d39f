-- The configuration of a session over a connection that comes back, as a client makes it.
use Rattle.std.specs.Prelude.{◌≡◌, ℕ, Bool, true, ◌&&◌, Option, Some, None, option_map, nat_eq, if◌then◌else◌}
use Rattle.connection_info.specs.declared.address.ConnectionInfo.{ConnectionInfo}
use Rattle.manager_config.specs.declared.config.ConnectionManagerConfig.{ConnectionManagerConfig}
use Rattle.manager_config.specs.Config.{default_manager}
use Rattle.driver_model.specs.declared.config.Config.{Config}
use Rattle.driver_model.specs.declared.config.Config.TheVariants as config
use Rattle.driver_model.specs.declared.config_words.ManagerWords.{ManagerWords}
use Rattle.driver_model.specs.declared.kind.SessionKind.TheVariants as kind
use Rattle.driver_model.specs.Config.{kind_of, address, told_of, manager_of}
use Rattle.mux_client.specs.Makers.{time_given, number_given, address_given, connection_given}

-- two fractions of one numerator and one denominator
abbrev pub is_same_fraction : ℕ × ℕ → ℕ × ℕ → Bool
is_same_fraction left right = nat_eq left.0 right.0 && nat_eq left.1 right.1

-- a fraction is given where it isn't the default
abbrev pub fraction_given : ℕ × ℕ → ℕ × ℕ → Option (ℕ × ℕ)
fraction_given default value = if is_same_fraction value default then None else Some value

-- that what was subscribed is subscribed again is given where it is
abbrev pub again_given : Bool → Option Bool
again_given resubscribes = if resubscribes then Some true else None

-- the words of how a connection comes back: what isn't the default
abbrev pub manager_given : ConnectionManagerConfig → ManagerWords
manager_given c = record {
  retries = number_given default_manager.number_of_retries c.number_of_retries;
  min = number_given default_manager.min_delay c.min_delay;
  max = time_given default_manager.max_delay c.max_delay;
  base = fraction_given default_manager.exponent_base c.exponent_base;
  resub = again_given c.automatic_resubscription;
}

-- the words of the configuration of a session over a manager that behaves so, and connects as it begins or for its first request:
-- the address as it is written, and what isn't the default
abbrev pub managed_of : Bool → ConnectionInfo → ConnectionManagerConfig → Config
managed_of lazy info c = config.Manager lazy (address_given info) (connection_given c.connection) (manager_given c)

-- this address, with what these words have said to its server
abbrev pub with_told : Config → ConnectionInfo → ConnectionInfo
with_told words info = record info { redis = told_of words info }

-- the server of a session of these words, with what is said to it
abbrev pub server_of : Config → Option ConnectionInfo
server_of words = option_map (with_told words) (address words)

-- a session of these words connects as it begins or for its first request, to this address, says to its server what the address
-- has, and behaves so
pub record KeepsManager (lazy : Bool) (info : ConnectionInfo) (c : ConnectionManagerConfig) (words : Config) : Type 0 where
  pub is : kind_of words ≡ kind.Manager lazy
  pub connects : server_of words ≡ Some info
  pub behaves : manager_of words ≡ Some c
