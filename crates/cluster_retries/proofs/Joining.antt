-- Actions join in any order.
use Rattle.std.proofs.Common.{◌≡◌, List, refl, sym, ap, ◌∙◌}
use Rattle.slot_hash.specs.declared.address.NodeAddress.{NodeAddress}
use Rattle.cluster_retries.specs.declared.poll_flush_action.PollFlushAction.{PollFlushAction}
use Rattle.cluster_retries.specs.declared.poll_flush_action.PollFlushAction.TheVariants.{None, RebuildSlots, Reconnect, ReconnectFromInitialConnections}
use Rattle.cluster_retries.specs.Actions.{joined}
use Rattle.cluster_retries.specs.ActionLaws.{Associates, Commutes, InitialTakesAll, NoNodeIsLost, NothingAddsNothing, SlotsTakeAddresses}
use Rattle.cluster_retries.proofs.Unions.{among_union, union_associates, union_commutes, union_ordered}

pub commutes : Commutes
unfolding joined
commutes None None = refl
commutes None RebuildSlots = refl
commutes None (Reconnect ys) = refl
commutes None ReconnectFromInitialConnections = refl
commutes RebuildSlots None = refl
commutes RebuildSlots RebuildSlots = refl
commutes RebuildSlots (Reconnect ys) = refl
commutes RebuildSlots ReconnectFromInitialConnections = refl
commutes (Reconnect xs) None = refl
commutes (Reconnect xs) RebuildSlots = refl
commutes (Reconnect xs) (Reconnect ys) = ap Reconnect (union_commutes xs ys)
commutes (Reconnect xs) ReconnectFromInitialConnections = refl
commutes ReconnectFromInitialConnections None = refl
commutes ReconnectFromInitialConnections RebuildSlots = refl
commutes ReconnectFromInitialConnections (Reconnect ys) = refl
commutes ReconnectFromInitialConnections ReconnectFromInitialConnections = refl

nothing_first : (a : PollFlushAction) → joined None a ≡ a
unfolding joined
nothing_first None = refl
nothing_first RebuildSlots = refl
nothing_first (Reconnect xs) = refl
nothing_first ReconnectFromInitialConnections = refl

initial_first : (a : PollFlushAction) → joined ReconnectFromInitialConnections a ≡ ReconnectFromInitialConnections
unfolding joined
initial_first None = refl
initial_first RebuildSlots = refl
initial_first (Reconnect xs) = refl
initial_first ReconnectFromInitialConnections = refl

pub nothing_adds_nothing : NothingAddsNothing
nothing_adds_nothing a = (nothing_first a, commutes a None ∙ nothing_first a)

pub initial_takes_all : InitialTakesAll
initial_takes_all a = (initial_first a, commutes a ReconnectFromInitialConnections ∙ initial_first a)

pub slots_take_addresses : SlotsTakeAddresses
unfolding joined
slots_take_addresses xs = (refl, refl)

pub no_node_is_lost : NoNodeIsLost
unfolding joined
no_node_is_lost xs ys = (refl, (λ address. among_union address xs ys), union_ordered xs ys)

-- three of which the second or the third has no addresses, or the first has none
slots_and_slots : (c : PollFlushAction) → joined (joined RebuildSlots RebuildSlots) c ≡ joined RebuildSlots (joined RebuildSlots c)
unfolding joined
slots_and_slots None = refl
slots_and_slots RebuildSlots = refl
slots_and_slots (Reconnect zs) = refl
slots_and_slots ReconnectFromInitialConnections = refl

slots_and_addresses : (ys : List NodeAddress) (c : PollFlushAction) → joined (joined RebuildSlots (Reconnect ys)) c ≡ joined RebuildSlots (joined (Reconnect ys) c)
unfolding joined
slots_and_addresses ys None = refl
slots_and_addresses ys RebuildSlots = refl
slots_and_addresses ys (Reconnect zs) = refl
slots_and_addresses ys ReconnectFromInitialConnections = refl

addresses_and_slots : (xs : List NodeAddress) (c : PollFlushAction) → joined (joined (Reconnect xs) RebuildSlots) c ≡ joined (Reconnect xs) (joined RebuildSlots c)
unfolding joined
addresses_and_slots xs None = refl
addresses_and_slots xs RebuildSlots = refl
addresses_and_slots xs (Reconnect zs) = refl
addresses_and_slots xs ReconnectFromInitialConnections = refl

addresses_and_addresses : (xs ys : List NodeAddress) (c : PollFlushAction) → joined (joined (Reconnect xs) (Reconnect ys)) c ≡ joined (Reconnect xs) (joined (Reconnect ys) c)
unfolding joined
addresses_and_addresses xs ys None = refl
addresses_and_addresses xs ys RebuildSlots = refl
addresses_and_addresses xs ys (Reconnect zs) = ap Reconnect (union_associates xs ys zs)
addresses_and_addresses xs ys ReconnectFromInitialConnections = refl

nothing_second : (a c : PollFlushAction) → joined (joined a None) c ≡ joined a (joined None c)
nothing_second a c = ap (λ x. joined x c) (commutes a None ∙ nothing_first a) ∙ sym (ap (joined a) (nothing_first c))

initial_second : (a c : PollFlushAction) → joined (joined a ReconnectFromInitialConnections) c ≡ joined a (joined ReconnectFromInitialConnections c)
initial_second a c =
    ap (λ x. joined x c) (commutes a ReconnectFromInitialConnections ∙ initial_first a) ∙ initial_first c
    ∙ sym (ap (joined a) (initial_first c) ∙ commutes a ReconnectFromInitialConnections ∙ initial_first a)

initial_before : (b c : PollFlushAction) → joined (joined ReconnectFromInitialConnections b) c ≡ joined ReconnectFromInitialConnections (joined b c)
initial_before b c = ap (λ x. joined x c) (initial_first b) ∙ initial_first c ∙ sym (initial_first (joined b c))

nothing_before : (b c : PollFlushAction) → joined (joined None b) c ≡ joined None (joined b c)
nothing_before b c = ap (λ x. joined x c) (nothing_first b) ∙ sym (nothing_first (joined b c))

pub associates : Associates
associates None b c = nothing_before b c
associates RebuildSlots None c = nothing_second RebuildSlots c
associates RebuildSlots RebuildSlots c = slots_and_slots c
associates RebuildSlots (Reconnect ys) c = slots_and_addresses ys c
associates RebuildSlots ReconnectFromInitialConnections c = initial_second RebuildSlots c
associates (Reconnect xs) None c = nothing_second (Reconnect xs) c
associates (Reconnect xs) RebuildSlots c = addresses_and_slots xs c
associates (Reconnect xs) (Reconnect ys) c = addresses_and_addresses xs ys c
associates (Reconnect xs) ReconnectFromInitialConnections c = initial_second (Reconnect xs) c
associates ReconnectFromInitialConnections b c = initial_before b c
