-- How the actions of a pass become one.
use Rattle.std.specs.Prelude.{◌≡◌, ◌==◌, ◌&&◌, Bool, List, [], ◌++◌}
use Rattle.std.specs.List.{list_any}
use Rattle.std.specs.Str.{bytes_eq}
use Rattle.slot_hash.specs.declared.address.NodeAddress.{NodeAddress}
use Rattle.mux_routing.specs.Shards.{all_inserted}
use Rattle.cluster_retries.specs.declared.poll_flush_action.PollFlushAction.{PollFlushAction}
use Rattle.cluster_retries.specs.declared.poll_flush_action.PollFlushAction.TheVariants as action

-- whether two addresses are the same
abbrev pub same_address : NodeAddress → NodeAddress → Bool
same_address a b = bytes_eq a.host b.host && a.port == b.port

-- whether an address is one of these
abbrev pub is_among : NodeAddress → List NodeAddress → Bool
is_among address addresses = list_any (same_address address) addresses

-- the addresses of both, each once and in order
abbrev pub union : List NodeAddress → List NodeAddress → List NodeAddress
union first next = all_inserted [] (first ++ next)

-- those addresses, and of the next ones the first so many
abbrev pub IsJoinedInPart : List NodeAddress → List NodeAddress → List NodeAddress → Type 0
IsJoinedInPart first next joined = (put left : List NodeAddress) × (next ≡ put ++ left) × (joined ≡ union first put)

-- an action and the next one as one: nothing to do adds nothing; beside a reconnect to the initial nodes nothing else is done; then
-- beside a rebuild of the slots; else each node of both is reconnected
unfoldable pub joined : PollFlushAction → PollFlushAction → PollFlushAction
joined action.None next = next
joined first action.None = first
joined action.ReconnectFromInitialConnections next = action.ReconnectFromInitialConnections
joined first action.ReconnectFromInitialConnections = action.ReconnectFromInitialConnections
joined action.RebuildSlots next = action.RebuildSlots
joined first action.RebuildSlots = action.RebuildSlots
joined (action.Reconnect first) (action.Reconnect next) = action.Reconnect (union first next)
