-- How far the reaching of nodes has come, and how it goes on.
use Rattle.std.specs.Prelude.{ℕ, List, [], ◌∷◌, ◌++◌, map, Option, Some, None, option_to_list, if◌then◌else◌}
use Rattle.slot_hash.specs.declared.address.NodeAddress.{NodeAddress}
use Rattle.cluster_plan.specs.declared.asks.Part.{Part}
use Rattle.cluster_plan.specs.declared.asks.Part.TheVariants.{Last}
use Rattle.cluster_plan.specs.declared.asks.Ask.{Ask}
use Rattle.cluster_plan.specs.declared.asks.Answer.{Answer}
use Rattle.cluster_plan.specs.declared.connections.NodeEntry.{NodeEntry}
use Rattle.cluster_plan.specs.declared.step.Step.{Step}
use Rattle.cluster_plan.specs.declared.step.Step.TheVariants.{Checking, Connecting, Arrived}
use Rattle.cluster_plan.specs.declared.step.Arrival.{Arrival}
use Rattle.cluster_plan.specs.Asks.{Answered, link_told, passes, same_address}
use Rattle.cluster_plan.specs.Connections.{link_to}
use Rattle.cluster_plan.specs.Reached.{Reached, by_link, check, connect, connecting, reached}

-- how the reaching of a node goes on, by the answers to come
abbrev pub stepping : Part → NodeAddress → Step → List Answered → Reached
stepping part a (Checking link) more = reached part a (Some link) more
stepping part a Connecting more = connecting part a more
stepping part a (Arrived link) more = by_link link

-- how it begins, by the link that there is
abbrev pub begun_by : Option ℕ → Step
begun_by None = Connecting
begun_by (Some link) = Checking link

abbrev pub arrived_by : Option ℕ → Option Step
arrived_by None = None
arrived_by (Some link) = Some (Arrived link)

-- what the answer to its ask makes of it: a check that isn't passed is followed by a connect, and a node that isn't
-- connected then failed
abbrev pub step_by : Answer → Step → Option Step
step_by found (Checking link) = Some (if passes found then Arrived link else Connecting)
step_by found Connecting = arrived_by (link_told found)
step_by found (Arrived link) = Some (Arrived link)

-- what it asks, if the node wasn't reached yet
abbrev pub ask_of : Part → NodeAddress → Step → Option Ask
ask_of part a (Checking link) = Some (check part a link)
ask_of part a Connecting = Some (connect part a)
ask_of part a (Arrived link) = None

-- how the nodes of a new map go on
abbrev pub stepped : List Arrival → List Answered → List (NodeAddress × Reached)
stepped [] more = []
stepped (t ∷ ts) more = (t.address, stepping Last t.address t.step more) ∷ stepped ts more

-- a node of a new map at its beginning, by the links that there are
abbrev pub begun_at : List NodeEntry → NodeAddress → Arrival
begun_at entries a = record { address = a; step = begun_by (link_to a entries) }

-- what the answer to an ask of this address makes of a node of the new map: one that failed is left out
abbrev pub settled_node : NodeAddress → Answer → Arrival → List Arrival
settled_node a found t =
    if same_address t.address a then map (λ s. record { address = t.address; step = s }) (option_to_list (step_by found t.step)) else t ∷ []

abbrev pub settled_nodes : NodeAddress → Answer → List Arrival → List Arrival
settled_nodes a found [] = []
settled_nodes a found (t ∷ ts) = settled_node a found t ++ settled_nodes a found ts
