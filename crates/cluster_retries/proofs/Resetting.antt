-- What is left of a redirect and of a link.
use Rattle.std.proofs.Common.{◌≡◌, Option, Some, None, refl, ap, ◌∙◌}
use Rattle.std.specs.Option.{option_map}
use Rattle.cluster_retries.specs.declared.request_routing.Redirect.{Redirect}
use Rattle.cluster_retries.specs.declared.request_routing.SingleNodeRoute.{SingleNodeRoute}
use Rattle.cluster_retries.specs.declared.request_routing.SingleNodeRoute.TheVariants.{Random, SpecificNode, ByAddress, Connection}
use Rattle.cluster_retries.specs.declared.request_routing.InternalSingleNodeRouting.{InternalSingleNodeRouting}
use Rattle.cluster_retries.specs.declared.request_routing.InternalRoutingInfo.TheVariants.{SingleNode, MultiNode}
use Rattle.cluster_retries.specs.declared.cmd_arg.CmdArg.{CmdArg}
use Rattle.cluster_retries.specs.declared.cmd_arg.CmdArg.TheVariants as request
use Rattle.cluster_retries.specs.Routing.{after_redirect, after_reset, redirect_to, redirected, routing_reset, without_link}
use Rattle.cluster_retries.specs.RoutingLaws.{AddressIsFollowed, NeitherIsLeft, NoAddressLeavesAll, OnceIsEnough, RedirectIsForgotten, RequestStays, link_of, redirect_in, sent, single_routing}

no_link : (route : SingleNodeRoute) → link_of (without_link route) ≡ None
no_link Random = refl
no_link (SpecificNode route) = refl
no_link (ByAddress address) = refl
no_link (Connection address link) = refl

same_without_link : (route : SingleNodeRoute) → without_link (without_link route) ≡ without_link route
same_without_link Random = refl
same_without_link (SpecificNode route) = refl
same_without_link (ByAddress address) = refl
same_without_link (Connection address link) = refl

pub neither_is_left : NeitherIsLeft
neither_is_left (request.Cmd command (SingleNode routing)) = (refl, no_link routing.route)
neither_is_left (request.Cmd command (MultiNode nodes policy)) = (refl, refl)
neither_is_left (request.Pipeline pipeline offset count routing) = (refl, no_link routing.route)

reset_once : (routing : InternalSingleNodeRouting) → routing_reset (routing_reset routing) ≡ routing_reset routing
reset_once routing = ap (λ (r : SingleNodeRoute). let w : InternalSingleNodeRouting = record { route = r; redirect = None } in w) (same_without_link routing.route)

pub once_is_enough : OnceIsEnough
once_is_enough (request.Cmd command (SingleNode routing)) = ap (λ (r : InternalSingleNodeRouting). request.Cmd command (SingleNode r)) (reset_once routing)
once_is_enough (request.Cmd command (MultiNode nodes policy)) = refl
once_is_enough (request.Pipeline pipeline offset count routing) = ap (λ (r : InternalSingleNodeRouting). request.Pipeline pipeline offset count r) (reset_once routing)

pub redirect_is_forgotten : RedirectIsForgotten
redirect_is_forgotten arg None = refl
redirect_is_forgotten (request.Cmd command (SingleNode routing)) (Some to) = refl
redirect_is_forgotten (request.Cmd command (MultiNode nodes policy)) (Some to) = refl
redirect_is_forgotten (request.Pipeline pipeline offset count routing) (Some to) = refl

sent_after_reset : (arg : CmdArg) → sent (after_reset arg) ≡ sent arg
sent_after_reset (request.Cmd command routing) = refl
sent_after_reset (request.Pipeline pipeline offset count routing) = refl

sent_after_redirect : (arg : CmdArg) (to : Option Redirect) → sent (after_redirect to arg) ≡ sent arg
sent_after_redirect arg None = refl
sent_after_redirect (request.Cmd command routing) (Some to) = refl
sent_after_redirect (request.Pipeline pipeline offset count routing) (Some to) = refl

pub request_stays : RequestStays
request_stays arg to = (sent_after_reset arg, sent_after_redirect arg to)

pub no_address_leaves_all : NoAddressLeavesAll
no_address_leaves_all arg text ask none = ap (λ a. after_redirect (option_map (redirect_to ask) a) arg) none

goes_there : (arg : CmdArg) (routing : InternalSingleNodeRouting) (to : Redirect) → single_routing arg ≡ Some routing → redirect_in (redirected to arg) ≡ Some to
goes_there (request.Cmd command (SingleNode r)) routing to e = refl
goes_there (request.Cmd command (MultiNode nodes policy)) routing to e = absurd (cc e)
goes_there (request.Pipeline pipeline offset count r) routing to e = refl

pub address_is_followed : AddressIsFollowed
address_is_followed arg routing text ask address single is =
    ap (λ a. redirect_in (after_redirect (option_map (redirect_to ask) a) arg)) is
    ∙ goes_there arg routing (redirect_to ask address) single
