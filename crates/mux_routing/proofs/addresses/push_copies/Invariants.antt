use Rattle.std.proofs.Common.{◌≡◌, ◌++◌, take}
use Rattle.mux_routing.proofs.addresses.push_copies.Given as goal

abbrev pub invariant-loop-address : goal.invariant-loop-address
invariant-loop-address l = l.nodes.items ≡ l.fn.nodes.items ++ take l.address-index l.more
