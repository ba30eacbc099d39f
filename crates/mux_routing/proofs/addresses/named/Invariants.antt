use Rattle.std.proofs.Common.{◌≡◌, ◌++◌, drop}
use Rattle.mux_routing.specs.Members.{named}
use Rattle.mux_routing.proofs.addresses.named.Given as goal

abbrev pub invariant-loop-row : goal.invariant-loop-row
invariant-loop-row l = l.nodes.items ++ named (drop l.row-index l.rows) ≡ named l.rows
