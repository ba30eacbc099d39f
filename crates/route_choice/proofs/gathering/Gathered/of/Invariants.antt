use Rattle.std.proofs.Common.{◌≡◌, ◌++◌, length}
use Rattle.route_choice.specs.Parts.{missing_from, those_there}
use Rattle.route_choice.proofs.gathering.Gathered.of.Given as goal

abbrev pub invariant-loop-node : goal.invariant-loop-node
invariant-loop-node l = record {
  nodes : l.gathered.nodes ++ those_there l.rest ≡ those_there l.fn.found.items;
  missing : l.gathered.missing ++ missing_from l.number l.rest ≡ missing_from 0 l.fn.found.items;
}

abbrev pub decreases-loop-node : goal.decreases-loop-node
decreases-loop-node l = length l.rest
