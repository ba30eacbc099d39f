use Rattle.std.proofs.Common.{◌≡◌, length}
use Rattle.resp_value.specs.View.{list_view}
use Rattle.mux_routing.specs.Reply.{all_told, node_of}
use Rattle.mux_routing.proofs.Elements.{behind}
use Rattle.mux_routing.proofs.parsing.nodes.Given as goal

abbrev pub invariant-loop-values : goal.invariant-loop-values
invariant-loop-values l = behind l.nodes (all_told (node_of l.host) (list_view l.values)) ≡ all_told (node_of l.host) (list_view l.initial.values)

abbrev pub decreases-loop-values : goal.decreases-loop-values
decreases-loop-values l = length l.values
