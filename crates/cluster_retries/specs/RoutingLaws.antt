-- What holds of redirects and resets.
use Rattle.std.specs.Prelude.{◌≡◌, ℕ, Bool, List, Option, Some, None}
use Rattle.resp_write.specs.Command.{Command, CommandList}
use Rattle.slot_hash.specs.declared.address.NodeAddress.{NodeAddress}
use Rattle.slot_hash.specs.Address.{address_of}
use Rattle.cluster_retries.specs.declared.request_routing.Redirect.{Redirect}
use Rattle.cluster_retries.specs.declared.request_routing.SingleNodeRoute.{SingleNodeRoute}
use Rattle.cluster_retries.specs.declared.request_routing.SingleNodeRoute.TheVariants.{Random, SpecificNode, ByAddress, Connection}
use Rattle.cluster_retries.specs.declared.request_routing.InternalSingleNodeRouting.{InternalSingleNodeRouting}
use Rattle.cluster_retries.specs.declared.request_routing.InternalRoutingInfo.{InternalRoutingInfo}
use Rattle.cluster_retries.specs.declared.request_routing.InternalRoutingInfo.TheVariants.{SingleNode, MultiNode}
use Rattle.cluster_retries.specs.declared.cmd_arg.CmdArg.{CmdArg}
use Rattle.cluster_retries.specs.declared.cmd_arg.CmdArg.TheVariants as request
use Rattle.cluster_retries.specs.Routing.{after_redirect, after_reset, redirect_of, redirect_to}

-- how a request goes to one node, if it goes to one
abbrev pub routing_of_info : InternalRoutingInfo → Option InternalSingleNodeRouting
routing_of_info (SingleNode routing) = Some routing
routing_of_info (MultiNode nodes policy) = None

abbrev pub single_routing : CmdArg → Option InternalSingleNodeRouting
single_routing (request.Cmd command routing) = routing_of_info routing
single_routing (request.Pipeline pipeline offset count routing) = Some routing

-- what of an option is there
abbrev pub found : {A B : Type 0} → (A → Option B) → Option A → Option B
found f None = None
found f (Some a) = f a

-- the redirect of a request
abbrev pub redirect_in : CmdArg → Option Redirect
redirect_in arg = found (λ routing. routing.redirect) (single_routing arg)

-- the link that a route names
abbrev pub link_of : SingleNodeRoute → Option ℕ
link_of (Connection address link) = Some link
link_of Random = None
link_of (SpecificNode route) = None
link_of (ByAddress address) = None

-- the link that a request names
abbrev pub link_in : CmdArg → Option ℕ
link_in arg = found (λ routing. link_of routing.route) (single_routing arg)

-- what is sent: a command, or a pipeline with the replies that it keeps
pub data Sent : Type 0 where
  command : Command → Sent
  commands : CommandList → ℕ → ℕ → Sent

abbrev pub sent : CmdArg → Sent
sent (request.Cmd cmd routing) = command cmd
sent (request.Pipeline pipeline offset count routing) = commands pipeline offset count

-- a request whose routing is reset has no redirect, and names no link
abbrev pub NeitherIsLeft : Type 0
NeitherIsLeft = (arg : CmdArg) → (redirect_in (after_reset arg) ≡ None) × (link_in (after_reset arg) ≡ None)

-- what is reset twice is as if it was reset once
abbrev pub OnceIsEnough : Type 0
OnceIsEnough = (arg : CmdArg) → after_reset (after_reset arg) ≡ after_reset arg

-- a reset leaves nothing of a redirect
abbrev pub RedirectIsForgotten : Type 0
RedirectIsForgotten = (arg : CmdArg) (to : Option Redirect) → after_reset (after_redirect to arg) ≡ after_reset arg

-- what is sent stays the same
abbrev pub RequestStays : Type 0
RequestStays = (arg : CmdArg) (to : Option Redirect) → (sent (after_reset arg) ≡ sent arg) × (sent (after_redirect to arg) ≡ sent arg)

-- a text that is no address leaves the request as it was
abbrev pub NoAddressLeavesAll : Type 0
NoAddressLeavesAll = (arg : CmdArg) (text : List ℕ) (ask : Bool) → address_of text ≡ None → after_redirect (redirect_of text ask) arg ≡ arg

-- an address is the redirect of a request that goes to one node, whatever redirect it had
abbrev pub AddressIsFollowed : Type 0
AddressIsFollowed =
    (arg : CmdArg) (routing : InternalSingleNodeRouting) (text : List ℕ) (ask : Bool) (address : NodeAddress)
    → single_routing arg ≡ Some routing → address_of text ≡ Some address
    → redirect_in (after_redirect (redirect_of text ask) arg) ≡ Some (redirect_to ask address)
