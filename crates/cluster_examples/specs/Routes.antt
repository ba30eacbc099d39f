-- Where requests go after a redirect, and after a reset.
use Rattle.std.specs.Prelude.{false, List, [], ◌∷◌, Option, Some, None, codes}
use Rattle.resp_write.specs.Command.{Command, CommandList}
use Rattle.slot_hash.specs.declared.address.NodeAddress.{NodeAddress}
use Rattle.command_table.specs.declared.routing.SlotAddr.TheVariants.{Master}
use Rattle.command_table.specs.declared.routing.MultipleNodeRoutingInfo.TheVariants.{AllMasters}
use Rattle.cluster_retries.specs.declared.request_routing.Redirect.{Redirect}
use Rattle.cluster_retries.specs.declared.request_routing.Redirect.TheVariants.{Moved, Ask}
use Rattle.cluster_retries.specs.declared.request_routing.SingleNodeRoute.{SingleNodeRoute}
use Rattle.cluster_retries.specs.declared.request_routing.SingleNodeRoute.TheVariants.{Random, SpecificNode, ByAddress, Connection}
use Rattle.cluster_retries.specs.declared.request_routing.InternalSingleNodeRouting.{InternalSingleNodeRouting}
use Rattle.cluster_retries.specs.declared.request_routing.InternalRoutingInfo.TheVariants.{SingleNode, MultiNode}
use Rattle.cluster_retries.specs.declared.cmd_arg.CmdArg.{CmdArg}
use Rattle.cluster_retries.specs.declared.cmd_arg.CmdArg.TheVariants as request
use Rattle.cluster_examples.specs.Retries.{at}

-- GET of a key
abbrev pub get : Command
get = record { args = codes "GET" ∷ codes "k" ∷ []; no_response = false }

-- two of them, and no transaction
abbrev pub two_gets : CommandList
two_gets = record { commands = get ∷ get ∷ []; ignored = false ∷ false ∷ []; atomic = false }

abbrev pub routed : SingleNodeRoute → Option Redirect → InternalSingleNodeRouting
routed route redirect = record { route = route; redirect = redirect }

-- a command that goes so
abbrev pub command : SingleNodeRoute → Option Redirect → CmdArg
command route redirect = request.Cmd get (SingleNode (routed route redirect))

-- a pipeline that goes so
abbrev pub pipeline : SingleNodeRoute → Option Redirect → CmdArg
pipeline route redirect = request.Pipeline two_gets 0 2 (routed route redirect)

-- a command to all primaries
abbrev pub fan_out : CmdArg
fan_out = request.Cmd get (MultiNode AllMasters None)

abbrev pub of_slot : SingleNodeRoute
of_slot = SpecificNode (record { slot = 7629; addr = Master })

abbrev pub a : NodeAddress
a = at (codes "a") 1

abbrev pub b : NodeAddress
b = at (codes "b") 2

-- a redirect takes the place of the one before; without one, and to several nodes, all stays
abbrev pub redirects_of : List ((Option Redirect × CmdArg) × CmdArg)
redirects_of =
    ((Some (Moved a), command of_slot None), command of_slot (Some (Moved a)))
    ∷ ((Some (Ask b), command of_slot (Some (Moved a))), command of_slot (Some (Ask b)))
    ∷ ((Some (Moved a), pipeline Random None), pipeline Random (Some (Moved a)))
    ∷ ((Some (Ask a), command (Connection b 4) None), command (Connection b 4) (Some (Ask a)))
    ∷ ((None, command of_slot (Some (Moved a))), command of_slot (Some (Moved a)))
    ∷ ((Some (Moved a), fan_out), fan_out)
    ∷ []

-- no redirect stays, and a link becomes its address
abbrev pub resets_of : List (CmdArg × CmdArg)
resets_of =
    (command of_slot (Some (Moved a)), command of_slot None)
    ∷ (command (Connection b 4) (Some (Ask a)), command (ByAddress b) None)
    ∷ (pipeline (Connection a 0) None, pipeline (ByAddress a) None)
    ∷ (pipeline Random None, pipeline Random None)
    ∷ (command (ByAddress a) None, command (ByAddress a) None)
    ∷ (fan_out, fan_out)
    ∷ []
