-- The errors, the events and the actions of a link, and the values that hold no others: functions of their own write them.
use Rattle.std.specs.Prelude.{Bool, true, false}
use Rattle.resp_value.specs.Data.{Data, array, dict, attribute, set, push}
use Rattle.redis_error.specs.declared.redis_error.RedisError.{RedisError}
use Rattle.redis_error.specs.declared.redis_error.RedisError.TheVariants as error
use Rattle.driver_model.specs.declared.event.EventKind.{EventKind}
use Rattle.driver_model.specs.declared.event.EventKind.TheVariants as event
use Rattle.driver_model.specs.declared.action.Action.{Action}
use Rattle.driver_model.specs.declared.action.Action.TheVariants as action

-- why there is no link that serves requests
abbrev pub fails_link : RedisError → Bool
fails_link (error.Config name) = true
fails_link error.Client = true
fails_link error.Resp3Required = true
fails_link error.Closed = true
fails_link (error.Io fault) = true
fails_link (error.CreateFailed last) = true
fails_link (error.AuthFailed text) = true
fails_link (error.Credentials text) = true
fails_link _ = false

-- what comes of a link
abbrev pub comes_of_link : EventKind → Bool
comes_of_link (event.Connected link) = true
comes_of_link (event.Refused link kind) = true
comes_of_link (event.Wrote link count) = true
comes_of_link (event.Bytes link piece) = true
comes_of_link (event.Ended link) = true
comes_of_link (event.ReadFault link kind) = true
comes_of_link (event.WriteFault link kind) = true
comes_of_link _ = false

-- what names a link
abbrev pub names_link : Action → Bool
names_link (action.Connect link host port) = true
names_link (action.Took who link count) = true
names_link (action.Push link info) = true
names_link (action.NeedCreds source link) = true
names_link (action.Round who link) = true
names_link (action.Close link) = true
names_link (action.Write link bytes) = true
names_link (action.Start link message who need len) = true
names_link _ = false

-- what is a list of values
abbrev pub has_items : Data → Bool
has_items (array ds) = true
has_items (set ds) = true
has_items (push kind ds) = true
has_items _ = false

-- what holds no other values
abbrev pub is_single : Data → Bool
is_single (array ds) = false
is_single (dict ms) = false
is_single (attribute d ms) = false
is_single (set ds) = false
is_single (push kind ds) = false
is_single _ = true
