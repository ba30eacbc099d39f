-- The route of a pipeline: that of its commands, if they agree.
use Rattle.std.specs.Prelude.{◌≡◌, ℕ, Bool, true, false, ◌%◌, ◌==◌, List, [], ◌∷◌, ◌++◌, Option, Some, None, option_to_list, if◌then◌else◌}
use Rattle.std.specs.List.{list_any}
use Rattle.resp_write.specs.Command.{Command}
use Rattle.command_table.specs.declared.routing.Route.{Route}
use Rattle.command_table.specs.declared.routing.SlotAddr.{SlotAddr}
use Rattle.command_table.specs.declared.routing.SlotAddr.TheVariants.{Master, ReplicaOptional, ReplicaRequired}
use Rattle.command_table.specs.declared.routing.SingleNodeRoutingInfo.{SingleNodeRoutingInfo}
use Rattle.command_table.specs.declared.routing.SingleNodeRoutingInfo.TheVariants.{Random, RandomPrimary, SpecificNode, ByAddress}
use Rattle.command_table.specs.declared.routing.RoutingInfo.{RoutingInfo}
use Rattle.command_table.specs.declared.routing.RoutingInfo.TheVariants.{SingleNode, MultiNode}
use Rattle.command_table.specs.Routing.{routing_of}
use Rattle.mux_routing.specs.declared.pipeline.RouteError.{RouteError}
use Rattle.mux_routing.specs.declared.pipeline.RouteError.TheVariants.{CrossSlot, NoMemory}

-- what commands agree on: one route, or none where no command has one; or the slots of two that don't agree
pub data Agreement : Type 0 where
  agreed : Option Route → Agreement
  crossed : ℕ → ℕ → Agreement

-- the route of one command: none where it goes to a random node or to several; any primary is that of the slot drawn
abbrev pub single_route : ℕ → SingleNodeRoutingInfo → Option Route
single_route draw Random = None
single_route draw RandomPrimary = Some (record { slot = draw % 16_384; addr = Master })
single_route draw (SpecificNode route) = Some route
single_route draw (ByAddress address) = None

abbrev pub route_in : ℕ → Option RoutingInfo → Option Route
route_in draw None = None
route_in draw (Some (SingleNode single)) = single_route draw single
route_in draw (Some (MultiNode many policy)) = None

abbrev pub is_primary : SlotAddr → Bool
is_primary Master = true
is_primary ReplicaOptional = false
is_primary ReplicaRequired = false

-- the routes of the commands that have one, in order
abbrev pub routes_in : ℕ → List Command → List Route
routes_in draw [] = []
routes_in draw (c ∷ cs) = option_to_list (route_in draw (routing_of c.args)) ++ routes_in draw cs

-- the slot of the first route that is to another slot, if there is one
abbrev pub other_slot : ℕ → List Route → Option ℕ
other_slot slot [] = None
other_slot slot (r ∷ rs) = if r.slot == slot then other_slot slot rs else Some r.slot

-- of routes to one slot the first, but to the primary where one of them is
abbrev pub joint : Route → List Route → Route
joint r rs = if list_any (λ q. is_primary q.addr) (r ∷ rs) then record { slot = r.slot; addr = Master } else r

abbrev pub agreed_by : Route → List Route → Option ℕ → Agreement
agreed_by r rs None = agreed (Some (joint r rs))
agreed_by r rs (Some other) = crossed r.slot other

-- routes agree where all are to the slot of the first
abbrev pub agreement_of : List Route → Agreement
agreement_of [] = agreed None
agreement_of (r ∷ rs) = agreed_by r rs (other_slot r.slot rs)

-- of the commands of a pipeline
abbrev pub agreement : ℕ → List Command → Agreement
agreement draw commands = agreement_of (routes_in draw commands)

-- whether the slot of a command's route is drawn: that of one for any primary
abbrev pub is_drawn : Option RoutingInfo → Bool
is_drawn None = false
is_drawn (Some (MultiNode many policy)) = false
is_drawn (Some (SingleNode Random)) = false
is_drawn (Some (SingleNode RandomPrimary)) = true
is_drawn (Some (SingleNode (SpecificNode route))) = false
is_drawn (Some (SingleNode (ByAddress address))) = false

-- whether a pipeline uses the draw
abbrev pub uses_draw : List Command → Bool
uses_draw commands = list_any (λ c. is_drawn (routing_of c.args)) commands

-- a refusal names the slots of the first two routes that differ; want of memory says nothing
abbrev pub IsCrossed : RouteError → Agreement → Type 0
IsCrossed (CrossSlot first second) a = a ≡ crossed first second
IsCrossed NoMemory a = Unit {0}
