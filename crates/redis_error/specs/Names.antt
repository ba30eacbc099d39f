-- The words of faults and of refused settings, in scripts and traces.
use Rattle.std.specs.Prelude.{ℕ, List, codes}
use Rattle.redis_error.specs.declared.config_name.ConfigName.{ConfigName}
use Rattle.redis_error.specs.declared.config_name.ConfigName.TheVariants as config
use Rattle.redis_error.specs.declared.fault_kind.FaultKind.{FaultKind}
use Rattle.redis_error.specs.declared.fault_kind.FaultKind.TheVariants as fault

abbrev pub fault_name : FaultKind → List ℕ
fault_name fault.Refused = codes "refused"
fault_name fault.Reset = codes "reset"
fault_name fault.Aborted = codes "aborted"
fault_name fault.NotConnected = codes "not-connected"
fault_name fault.BrokenPipe = codes "broken-pipe"
fault_name fault.Eof = codes "eof"
fault_name fault.TimedOut = codes "timed-out"
fault_name fault.Interrupted = codes "interrupted"
fault_name fault.Denied = codes "denied"
fault_name fault.Other = codes "other"

abbrev pub config_name : ConfigName → List ℕ
config_name config.Url = codes "url"
config_name config.Push = codes "push"
config_name config.Limit = codes "limit"
config_name config.Buffer = codes "buffer"
config_name config.Resub = codes "resub"
config_name config.Base = codes "base"
config_name config.Nodes = codes "nodes"
config_name config.Password = codes "password"
config_name config.User = codes "user"
config_name config.Protocol = codes "protocol"
config_name config.Database = codes "database"
config_name config.Keys = codes "keys"
config_name config.Creds = codes "creds"
config_name config.Kind = codes "kind"
