-- What a session is.
use Rattle.std.specs.Prelude.{Bool, true, false}
use Rattle.driver_model.specs.declared.kind.SessionKind.{SessionKind}
use Rattle.driver_model.specs.declared.kind.SessionKind.TheVariants.{Single, Manager, PubSub, Monitor}

-- an event sets the time within which its later requests are to be answered: that of one multiplexed connection alone
abbrev pub has_timeouts : SessionKind → Bool
has_timeouts Single = true
has_timeouts (Manager lazy) = false
has_timeouts PubSub = false
has_timeouts Monitor = false

-- it is a multiplexed connection, one that comes back or not
abbrev pub is_multiplexed : SessionKind → Bool
is_multiplexed Single = true
is_multiplexed (Manager lazy) = true
is_multiplexed PubSub = false
is_multiplexed Monitor = false
