use Rattle.std.proofs.Common.{◌≡◌, ◌≤◌, ◌++◌, ℕ, List, length}
use Rattle.program_ends.specs.Streaming.{Sent}
use Rattle.live_lines.specs.Outcomes.{outcome_lines, outcomes_of}
use Rattle.live_lines.proofs.outcomes.write_each.Given as goal

abbrev pub invariant-loop-number : goal.invariant-loop-number
invariant-loop-number g l = record {
  done : List ℕ;
  numbers : done ++ l.left ≡ l.fn.numbers.items;
  sent : Sent (g.K.Sink.held l.fn.sink) (g.K.Sink.held l.sink) l.text (outcome_lines (outcomes_of l.fn.session) done);
  later : g.K.Sink.fault_count l.fn.sink ≤ g.K.Sink.fault_count l.sink;
}

abbrev pub decreases-loop-number : goal.decreases-loop-number
decreases-loop-number g l = length l.left
