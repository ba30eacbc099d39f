-- What of a manager's configuration is refused.
use Rattle.std.specs.Prelude.{◌≡◌, ◌≢◌, ℕ, ◌<◌, ◌==◌, Bool, true, false, ◌&&◌, not, List, [], ◌∷◌, Option, Some, None, if◌then◌else◌}
use Rattle.redis_error.specs.declared.config_name.ConfigName.{ConfigName}
use Rattle.redis_error.specs.declared.config_name.ConfigName.TheVariants as name
use Rattle.connection_info.specs.declared.open_error.OpenError.{OpenError}
use Rattle.connection_info.specs.declared.open_error.OpenError.TheVariants as error
use Rattle.connection_info.specs.declared.protocol.ProtocolVersion.{ProtocolVersion}
use Rattle.connection_info.specs.Protocol.{is_resp3}
use Rattle.manager_config.specs.declared.config.ConnectionManagerConfig.{ConnectionManagerConfig}

-- a limit of no permits, under which no request would start
abbrev pub lacks_permits : Option ℕ → Bool
lacks_permits None = false
lacks_permits (Some limit) = limit == 0

-- the checks in order: whether the configuration fails it, and the name of what is refused then
abbrev pub checks : ProtocolVersion → ConnectionManagerConfig → List (Bool × ConfigName)
checks protocol c =
    (c.automatic_resubscription && not c.connection.push_sender, name.Resub)
    ∷ (c.exponent_base.1 == 0, name.Base)
    ∷ (c.connection.push_sender && not (is_resp3 protocol), name.Push)
    ∷ (lacks_permits c.connection.concurrency_limit, name.Limit)
    ∷ (c.connection.pipeline_buffer_size == 0, name.Buffer)
    ∷ []

-- the name of the first that fails
abbrev pub first_failed : List (Bool × ConfigName) → Option ConfigName
first_failed [] = None
first_failed (check ∷ more) = if check.0 then Some check.1 else first_failed more

-- the name of what is refused first on a connection of this protocol, if anything is
abbrev pub first_fault : ProtocolVersion → ConnectionManagerConfig → Option ConfigName
first_fault protocol c = first_failed (checks protocol c)

-- resubscription without a push sender is an error of the client; all else that is refused is told by its name
abbrev pub RefusesManager : ProtocolVersion → ConnectionManagerConfig → OpenError → Type 0
RefusesManager protocol c (error.Config what) = (first_fault protocol c ≡ Some what) × (what ≢ name.Resub)
RefusesManager protocol c error.Client = first_fault protocol c ≡ Some name.Resub
RefusesManager protocol c error.NoMemory = ⊥

-- nothing stands against the configuration on a connection of this protocol
pub record IsTaken (protocol : ProtocolVersion) (c : ConnectionManagerConfig) : Type 0 where
  pub resubscribes_to_someone : c.automatic_resubscription ≡ true → c.connection.push_sender ≡ true
  pub grows_by_a_fraction : 0 < c.exponent_base.1
  pub hears_pushes_that_come : c.connection.push_sender ≡ true → is_resp3 protocol ≡ true
  pub has_permits : c.connection.concurrency_limit ≢ Some 0
  pub has_places : 0 < c.connection.pipeline_buffer_size
