-- What holds of joined actions.
use Rattle.std.specs.Prelude.{◌≡◌, ◌||◌, true, List}
use Rattle.slot_hash.specs.declared.address.NodeAddress.{NodeAddress}
use Rattle.mux_routing.specs.Shards.{in_order}
use Rattle.cluster_retries.specs.declared.poll_flush_action.PollFlushAction.{PollFlushAction}
use Rattle.cluster_retries.specs.declared.poll_flush_action.PollFlushAction.TheVariants as action
use Rattle.cluster_retries.specs.Actions.{is_among, joined, union}

-- which comes first doesn't matter
abbrev pub Commutes : Type 0
Commutes = (a b : PollFlushAction) → joined a b ≡ joined b a

-- nor which two are joined first
abbrev pub Associates : Type 0
Associates = (a b c : PollFlushAction) → joined (joined a b) c ≡ joined a (joined b c)

-- nothing to do adds nothing
abbrev pub NothingAddsNothing : Type 0
NothingAddsNothing = (a : PollFlushAction) → (joined action.None a ≡ a) × (joined a action.None ≡ a)

-- beside a reconnect to the initial nodes nothing else is done
abbrev pub InitialTakesAll : Type 0
InitialTakesAll =
    (a : PollFlushAction)
    → (joined action.ReconnectFromInitialConnections a ≡ action.ReconnectFromInitialConnections)
    × (joined a action.ReconnectFromInitialConnections ≡ action.ReconnectFromInitialConnections)

-- beside a rebuild of the slots no single node is reconnected
abbrev pub SlotsTakeAddresses : Type 0
SlotsTakeAddresses =
    (addresses : List NodeAddress)
    → (joined action.RebuildSlots (action.Reconnect addresses) ≡ action.RebuildSlots)
    × (joined (action.Reconnect addresses) action.RebuildSlots ≡ action.RebuildSlots)

-- of two lists of nodes those of both are reconnected, and no others, each once and in order
abbrev pub NoNodeIsLost : Type 0
NoNodeIsLost =
    (first next : List NodeAddress)
    → (joined (action.Reconnect first) (action.Reconnect next) ≡ action.Reconnect (union first next))
    × ((address : NodeAddress) → is_among address (union first next) ≡ (is_among address first || is_among address next))
    × (in_order (union first next) ≡ true)
