-- Whether a route leads to parts that a command has.
use Rattle.std.specs.Prelude.{ℕ, ◌&&◌, nat_lt, Bool, true, List}
use Rattle.std.specs.List.{list_all}
use Rattle.command_table.specs.declared.routing.MultipleNodeRoutingInfo.{MultipleNodeRoutingInfo}
use Rattle.command_table.specs.declared.routing.MultipleNodeRoutingInfo.TheVariants.{AllNodes, AllMasters, MultiSlot}
use Rattle.command_table.specs.declared.routing.RoutingInfo.{RoutingInfo}
use Rattle.command_table.specs.declared.routing.RoutingInfo.TheVariants.{SingleNode, MultiNode}
use Rattle.command_table.specs.Selection.{may_be_several, key_count}

-- whether each place is that of one of so many keys
abbrev pub are_within : ℕ → List ℕ → Bool
are_within count indices = list_all (λ i. nat_lt i count) indices

-- whether the parts of a route to several nodes, if it has any, are of a command that may be split, with places of its keys
abbrev pub has_these_parts : List (List ℕ) → MultipleNodeRoutingInfo → Bool
has_these_parts args AllNodes = true
has_these_parts args AllMasters = true
has_these_parts args (MultiSlot parts) = may_be_several args && list_all (λ p. are_within (key_count args) p.1) parts

-- the same of any route: one to a single node has no parts
unfoldable pub can_be_split : List (List ℕ) → RoutingInfo → Bool
can_be_split args (SingleNode single) = true
can_be_split args (MultiNode many policy) = has_these_parts args many
