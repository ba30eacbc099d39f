-- Why an address isn't read or written.
use Rattle.std.specs.Prelude.{◌≡◌, ⊤}
use Rattle.redis_error.specs.declared.config_name.ConfigName.TheVariants.{Url}
use Rattle.connection_info.specs.declared.open_error.OpenError.{OpenError}
use Rattle.connection_info.specs.declared.open_error.OpenError.TheVariants.{Config, Client, NoMemory}

-- either memory was wanted, or the URL is refused and this is so
abbrev pub RefusesUrl : Type 0 → OpenError → Type 0
RefusesUrl reason (Config name) = (name ≡ Url) × reason
RefusesUrl reason Client = ⊥
RefusesUrl reason NoMemory = ⊤
