use Rattle.std.proofs.Common.{◌≡◌, length}
use Rattle.mux_client.specs.Shown.{placed_each}
use Rattle.mux_client.proofs.showing.keep_each.Given as goal

abbrev pub invariant-loop-answer : goal.invariant-loop-answer
invariant-loop-answer l = placed_each l.outcomes l.rest ≡ placed_each l.fn.outcomes l.fn.answers

abbrev pub decreases-loop-answer : goal.decreases-loop-answer
decreases-loop-answer l = length l.rest
