-- Where a request goes, a redirect of it, and what is left of both after a reset.
use Rattle.std.specs.Prelude.{ℕ, Bool, true, false, List, Option, Some, None}
use Rattle.std.specs.Option.{option_map}
use Rattle.slot_hash.specs.declared.address.NodeAddress.{NodeAddress}
use Rattle.slot_hash.specs.Address.{address_of}
use Rattle.cluster_retries.specs.declared.request_routing.Redirect.{Redirect}
use Rattle.cluster_retries.specs.declared.request_routing.Redirect.TheVariants.{Moved, Ask}
use Rattle.cluster_retries.specs.declared.request_routing.SingleNodeRoute.{SingleNodeRoute}
use Rattle.cluster_retries.specs.declared.request_routing.SingleNodeRoute.TheVariants.{Random, SpecificNode, ByAddress, Connection}
use Rattle.cluster_retries.specs.declared.request_routing.InternalSingleNodeRouting.{InternalSingleNodeRouting}
use Rattle.cluster_retries.specs.declared.request_routing.InternalRoutingInfo.{InternalRoutingInfo}
use Rattle.cluster_retries.specs.declared.request_routing.InternalRoutingInfo.TheVariants.{SingleNode, MultiNode}
use Rattle.cluster_retries.specs.declared.cmd_arg.CmdArg.{CmdArg}
use Rattle.cluster_retries.specs.declared.cmd_arg.CmdArg.TheVariants as request

-- a redirect to an address, for the one command alone or for all
abbrev pub redirect_to : Bool → NodeAddress → Redirect
redirect_to true address = Ask address
redirect_to false address = Moved address

-- the redirect that a text leads to, if it is an address
abbrev pub redirect_of : List ℕ → Bool → Option Redirect
redirect_of text ask = option_map (redirect_to ask) (address_of text)

-- a redirect in the place of the one before
abbrev pub routing_redirected : Redirect → InternalSingleNodeRouting → InternalSingleNodeRouting
routing_redirected to routing = record { route = routing.route; redirect = Some to }

-- what goes to several nodes is not redirected
abbrev pub info_redirected : Redirect → InternalRoutingInfo → InternalRoutingInfo
info_redirected to (SingleNode routing) = SingleNode (routing_redirected to routing)
info_redirected to (MultiNode nodes policy) = MultiNode nodes policy

-- a request that is redirected there
abbrev pub redirected : Redirect → CmdArg → CmdArg
redirected to (request.Cmd command routing) = request.Cmd command (info_redirected to routing)
redirected to (request.Pipeline pipeline offset count routing) = request.Pipeline pipeline offset count (routing_redirected to routing)

-- a request after a redirect, if it leads anywhere
abbrev pub after_redirect : Option Redirect → CmdArg → CmdArg
after_redirect None arg = arg
after_redirect (Some to) arg = redirected to arg

-- the address of a link in its place
abbrev pub without_link : SingleNodeRoute → SingleNodeRoute
without_link (Connection address link) = ByAddress address
without_link Random = Random
without_link (SpecificNode route) = SpecificNode route
without_link (ByAddress address) = ByAddress address

-- no redirect, and no link
abbrev pub routing_reset : InternalSingleNodeRouting → InternalSingleNodeRouting
routing_reset routing = record { route = without_link routing.route; redirect = None }

abbrev pub info_reset : InternalRoutingInfo → InternalRoutingInfo
info_reset (SingleNode routing) = SingleNode (routing_reset routing)
info_reset (MultiNode nodes policy) = MultiNode nodes policy

-- a request whose routing is reset
abbrev pub after_reset : CmdArg → CmdArg
after_reset (request.Cmd command routing) = request.Cmd command (info_reset routing)
after_reset (request.Pipeline pipeline offset count routing) = request.Pipeline pipeline offset count (routing_reset routing)
